use Rattle.std.proofs.Common.{◌≡◌, ◌≤◌, ◌+◌, ◌-◌, [], length}
use Rattle.line_reader.specs.Reads.{unread, HoldsLine}
use Rattle.line_reader.proofs.Reached.{IsReached}
use Rattle.line_reader.proofs.reader.LineReader.next_line.Given as goal

abbrev pub invariant-loop-line : goal.invariant-loop-line
invariant-loop-line g l = record {
  reached : IsReached l.limit l.line.items l.self (unread l.initial.self (g.I.Source.seen l.initial.input)) (g.I.Source.seen l.input);
  idle : HoldsLine l.limit l.initial.self → (l.line.items ≡ []) × (l.self ≡ l.initial.self) × (g.I.Source.seen l.input ≡ g.I.Source.seen l.initial.input);
}

abbrev pub decreases-loop-line : goal.decreases-loop-line
decreases-loop-line g l = (l.limit + 4097) - (length l.line.items + length l.self)

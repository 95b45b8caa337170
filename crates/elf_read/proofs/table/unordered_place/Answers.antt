use Rattle.std.proofs.Common.{◌+◌, sym, ap, ◌∙◌}
use Rattle.elf_read.specs.Elf.{loaded, first_below}
use Rattle.elf_read.proofs.Walk.{loaded_left, loaded_on, passed_over, below_here, below_on}
use Rattle.elf_read.proofs.table.unordered_place.Goals as goal
use Rattle.elf_read.proofs.table.unordered_place.Goals.{then-has_memory+else-header-end, else-has_memory}

pub returns-then-header-end : goal.returns-then-header-end
returns-then-header-end c =
    below_here c.loop-i.end c.read_header-header.result _ c.if-header-end.true
    ∙ loaded_on c.args.bytes.now c.args.table c.loop-i.i c.read_header-header.result c.loop-i-test.true c.read_header-header.ensures (first_below c.loop-i.end) (first_below 0 (loaded c.args.bytes.now)) c.loop-i.invariant (sym c.has_memory.ensures ∙ c.if-has_memory.true)

pub loop-i-preserved : goal.loop-i-preserved
loop-i-preserved c =
    let left = loaded_left c.args.bytes.now c.args.table (c.loop-i.i + 1) in
    elim c.if-has_memory.branch [
      | then-has_memory+else-header-end w ↦ ap (λ e. first_below e left) w.end-is
          ∙ below_on c.loop-i.end c.read_header-header.result left w.if-header-end.false
          ∙ loaded_on c.args.bytes.now c.args.table c.loop-i.i c.read_header-header.result c.loop-i-test.true c.read_header-header.ensures (first_below c.loop-i.end) (first_below 0 (loaded c.args.bytes.now)) c.loop-i.invariant (sym c.has_memory.ensures ∙ w.if-has_memory.true)
      | else-has_memory w ↦ ap (λ e. first_below e left) w.end-is
          ∙ passed_over c.args.bytes.now c.args.table c.loop-i.i c.read_header-header.result c.loop-i-test.true c.read_header-header.ensures (first_below c.loop-i.end) (first_below 0 (loaded c.args.bytes.now)) c.loop-i.invariant (sym c.has_memory.ensures ∙ w.if-has_memory.false)
    ]

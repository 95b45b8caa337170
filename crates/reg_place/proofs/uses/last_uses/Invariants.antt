use Rattle.std.proofs.Common.{◌≡◌, ℕ, ◌<◌, length, drop, get_or, vec_len}
use Rattle.reg_place.specs.LastUses.{last_named}
use Rattle.reg_place.proofs.uses.last_uses.Given as goal

abbrev pub invariant-loop-at : goal.invariant-loop-at
invariant-loop-at l = record {
  len : vec_len l.last ≡ length l.b.lines;
  uses : (j : ℕ) → j < length l.b.lines → last_named l.at (drop l.at l.steps) j (get_or l.last.items j 0) ≡ last_named 0 l.steps j 0;
}

use Rattle.std.proofs.Common.{◌≡◌, ℕ, ◌<◌, ◌≤◌, get_or}
use Rattle.std.specs.Prelude.{◌||◌}
use Rattle.ssa_form.specs.declared.form.Line.TheVariants.{Gone}
use Rattle.pass_dead.specs.Names.{is_store, set_of}
use Rattle.pass_dead.proofs.marks.mark_stores.Given as goal

abbrev pub invariant-loop-index : goal.invariant-loop-index
invariant-loop-index l = record {
  done : (j : ℕ) → j < l.index → set_of l.marks j ≡ (set_of l.initial.marks j || is_store (get_or l.lines j Gone));
  rest : (j : ℕ) → l.index ≤ j → set_of l.marks j ≡ set_of l.initial.marks j;
}

use Rattle.std.proofs.Common.{◌∙◌, ◌+◌, ap, length, get_or, arith}
use Rattle.std.specs.Prelude.{if◌then◌else◌, ℕ, List}
use Rattle.std.specs.Vec.{with_items}
use Rattle.std.proofs.lemmas.List.{with_items_is}
use Rattle.ssa_form.specs.Agree.{every}
use Rattle.pass_dead.specs.Names.{exit_vals, vals_name, outs_name}
use Rattle.reg_place.proofs.Marks.{steps_done}
use Rattle.reg_place.proofs.Steps.{ends_done}
use Rattle.reg_place.proofs.uses.last_uses.Goals as goal

pub returns-clause-last : goal.returns-clause-last
returns-clause-last c = λ j l.
    let b = c.args.b.now in
    let steps = c.args.steps.now in
    let v = c.loop-at.last in
    let n = length steps + 1 in
    let outs = c.mark_outs.new.last in
    let exit = c.mark_exit.new.last in
    let x = outs_name every 0 b.outs j in
    let y = vals_name (exit_vals b.exit) j in
    let s = c.loop-at.invariant.len in
    let two = with_items_is (with_items v outs) exit (omega arith) in
    let one = c.as_mut_slice-3.ensures.value ∙ with_items_is v outs (omega arith) in
    ap (λ (xs : List ℕ). get_or xs j 0) two
    ∙ c.mark_exit.ensures j (omega arith)
    ∙ ap (λ (xs : List ℕ). if y then n else get_or xs j 0) one
    ∙ ap (λ (a : ℕ). if y then n else a) (c.mark_outs.ensures j (omega arith) ∙ ap (λ (xs : List ℕ). if x then n else get_or xs j 0) c.as_mut_slice-2.ensures.value)
    ∙ ends_done x y n (length steps) (get_or v.items j 0) _ (omega arith) (steps_done steps c.loop-at.at j (get_or v.items j 0) (omega arith) ∙ c.loop-at.invariant.uses j l)

-- A block that is closed again is the lifted one.
use Rattle.std.proofs.Common.{◌≡◌, ℕ, ◌+◌, List, length, sym, ap, ◌∙◌}
use Rattle.ia_inst.specs.declared.inst.Inst.{Inst}
use Rattle.ia_inst.specs.Meaning.{wrap}
use Rattle.ssa_form.specs.declared.form.Block.{Block}
use Rattle.ssa_form.specs.declared.form.Val.{Val}
use Rattle.ssa_form.specs.declared.form.Exit.{Exit}
use Rattle.lift_alu.specs.declared.row.Row.{Row}
use Rattle.lift_alu.specs.Steps.{Rowed, row_steps, unnamed}
use Rattle.lift_alu.specs.Lifted.{leaving_of, row_of, exit_by, draft_of, with_row, lifted}
use Rattle.lift_alu.specs.Making.{rowed}
use Rattle.lift_alu.proofs.Outs.{outs_back}

-- the outs and the exit of a row
closed : (i : Inst) (next : ℕ) (b : Block) (t : Row) (e : Exit) → e ≡ exit_by (leaving_of i next) (rowed t).vals → length t.outs ≡ 14 → record b { lines = t.lines.items; outs = t.outs; exit = e } ≡ with_row (leaving_of i next) (rowed t) b
unfolding rowed
closed i next b t e q c =
    ap (λ (o : List Val). record b { lines = t.lines.items; outs = o; exit = e }) (sym (outs_back t.outs c))
    ∙ ap (λ (x : Exit). record (with_row (leaving_of i next) (rowed t) b) { exit = x }) q

pub lifted_made : (i : Inst) (at n : ℕ) (b : Block) (s t : Row) (e : Exit) → rowed s ≡ unnamed (draft_of b) → rowed t ≡ row_steps (row_of i (wrap (at + n))) (rowed s) → e ≡ exit_by (leaving_of i (wrap (at + n))) (rowed t).vals → length t.outs ≡ 14 → record b { lines = t.lines.items; outs = t.outs; exit = e } ≡ lifted i at n b
unfolding lifted
lifted_made i at n b s t e p q h c =
    closed i (wrap (at + n)) b t e h c
    ∙ ap (λ (r : Rowed). with_row (leaving_of i (wrap (at + n))) r b) (q ∙ ap (λ (r : Rowed). row_steps (row_of i (wrap (at + n))) r) p)

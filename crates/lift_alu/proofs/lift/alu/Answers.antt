use Rattle.std.proofs.Common.{◌≡◌, ◌≢◌, ℕ, Bool, true, false, List, ap, ◌∙◌, sym, refl, arith}
use Rattle.std.specs.Prelude.{◌==◌, if◌then◌else◌}
use Rattle.std.proofs.lemmas.Bool.Decides.{nat_tests}
use Rattle.ssa_form.specs.declared.form.BinOp.TheVariants.{And, Or, Xor}
use Rattle.lift_alu.specs.Steps.{Step, row_steps}
use Rattle.lift_alu.specs.Table.{row_add, row_adc, row_sbb, row_sub, row_logic, row_cmp}
use Rattle.lift_alu.specs.Lifted.{row_alu}
use Rattle.lift_alu.specs.Making.{rowed}
use Rattle.lift_alu.proofs.lift.alu.Goals as goal

skip : (b : Bool) (x y : List Step) → b ≡ false → (if b then x else y) ≡ y
skip true x y q = cc
skip false x y q = refl

other : (a k : ℕ) → a ≢ k → (a == k) ≡ false
other a k q = grind (arith, nat_tests)

pub returns-in-0 : goal.returns-in-0
returns-in-0 c = c.add.ensures.made ∙ ap (λ (k : ℕ). row_steps (row_alu k c.args.w c.args.dst.now c.args.src.now) (rowed c.args.row.now)) (sym c.in-0.is)

pub returns-in-1 : goal.returns-in-1
returns-in-1 c = c.logic.ensures.made ∙ ap (λ (k : ℕ). row_steps (row_alu k c.args.w c.args.dst.now c.args.src.now) (rowed c.args.row.now)) (sym c.in-1.is)

pub returns-in-2 : goal.returns-in-2
returns-in-2 c = c.adc.ensures.made ∙ ap (λ (k : ℕ). row_steps (row_alu k c.args.w c.args.dst.now c.args.src.now) (rowed c.args.row.now)) (sym c.in-2.is)

pub returns-in-3 : goal.returns-in-3
returns-in-3 c = c.sbb.ensures.made ∙ ap (λ (k : ℕ). row_steps (row_alu k c.args.w c.args.dst.now c.args.src.now) (rowed c.args.row.now)) (sym c.in-3.is)

pub returns-in-4 : goal.returns-in-4
returns-in-4 c = c.logic-in-4.ensures.made ∙ ap (λ (k : ℕ). row_steps (row_alu k c.args.w c.args.dst.now c.args.src.now) (rowed c.args.row.now)) (sym c.in-4.is)

pub returns-in-5 : goal.returns-in-5
returns-in-5 c = c.sub.ensures.made ∙ ap (λ (k : ℕ). row_steps (row_alu k c.args.w c.args.dst.now c.args.src.now) (rowed c.args.row.now)) (sym c.in-5.is)

pub returns-in-6 : goal.returns-in-6
returns-in-6 c = c.logic-in-6.ensures.made ∙ ap (λ (k : ℕ). row_steps (row_alu k c.args.w c.args.dst.now c.args.src.now) (rowed c.args.row.now)) (sym c.in-6.is)

pub returns-in_default : goal.returns-in_default
returns-in_default c =
    let k = c.args.op in
    let w = c.args.w in
    let dst = c.args.dst.now in
    let src = c.args.src.now in
    let same : row_alu k w dst src ≡ row_cmp w dst src =
    skip (k == 0) (row_add w dst src) _ (other k 0 (omega arith))
    ∙ skip (k == 1) (row_logic Or w dst src) _ (other k 1 (omega arith))
    ∙ skip (k == 2) (row_adc w dst src) _ (other k 2 (omega arith))
    ∙ skip (k == 3) (row_sbb w dst src) _ (other k 3 (omega arith))
    ∙ skip (k == 4) (row_logic And w dst src) _ (other k 4 (omega arith))
    ∙ skip (k == 5) (row_sub w dst src) _ (other k 5 (omega arith))
    ∙ skip (k == 6) (row_logic Xor w dst src) _ (other k 6 (omega arith)) in
    c.cmp.ensures.made ∙ ap (λ (rows : List Step). row_steps rows (rowed c.args.row.now)) (sym same)

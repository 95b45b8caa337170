use Rattle.std.proofs.Common.{ap, ◌∙◌, sym}
use Rattle.ia_inst.specs.declared.inst.Inst.{Inst}
use Rattle.lift_alu.specs.Steps.{row_steps}
use Rattle.lift_alu.specs.Lifted.{row_of}
use Rattle.lift_alu.specs.Making.{rowed}
use Rattle.lift_alu.proofs.lift.append.Goals as goal

pub returns-in-Alu : goal.returns-in-Alu
returns-in-Alu c = c.alu.ensures ∙ ap (λ (i : Inst). row_steps (row_of i c.args.next) (rowed c.args.row.now)) (sym c.in-Alu.is)

pub returns-in-Test : goal.returns-in-Test
returns-in-Test c = c.test.ensures.made ∙ ap (λ (i : Inst). row_steps (row_of i c.args.next) (rowed c.args.row.now)) (sym c.in-Test.is)

pub returns-in-Inc : goal.returns-in-Inc
returns-in-Inc c = c.inc.ensures.made ∙ ap (λ (i : Inst). row_steps (row_of i c.args.next) (rowed c.args.row.now)) (sym c.in-Inc.is)

pub returns-in-Dec : goal.returns-in-Dec
returns-in-Dec c = c.dec.ensures.made ∙ ap (λ (i : Inst). row_steps (row_of i c.args.next) (rowed c.args.row.now)) (sym c.in-Dec.is)

pub returns-in-Neg : goal.returns-in-Neg
returns-in-Neg c = c.neg.ensures.made ∙ ap (λ (i : Inst). row_steps (row_of i c.args.next) (rowed c.args.row.now)) (sym c.in-Neg.is)

pub returns-in-Shift : goal.returns-in-Shift
returns-in-Shift c = c.shift.ensures.made ∙ ap (λ (i : Inst). row_steps (row_of i c.args.next) (rowed c.args.row.now)) (sym c.in-Shift.is)

use Rattle.std.proofs.Common.{ℕ, Option, None, Some, sym, subst, ◌∙◌, IsTrue}
use Rattle.std.specs.Prelude.{IfSome}
use Rattle.br_word.specs.Memory.{Runs, bytes_at}
use Rattle.ia_inst.specs.declared.inst.Inst.{Inst}
use Rattle.ia_inst.specs.Canonical.{valid_of}
use Rattle.guest_run.proofs.FetchedCode.{code_lent}
use Rattle.guest_run.proofs.InstructionSteps.{found_as, ok_as, no_inst}
use Rattle.guest_run.proofs.advance.advance.Goals as goal

pub returns-in-None : goal.returns-in-None
returns-in-None g c =
    let o = bytes_at Runs c.args.cpu.now.eip 1 c.args.memory.now.regions in
    found_as _ _ _ _ _ _
    (code_lent c.fifteen_bytes_decide.ensures c.args.cpu.now.eip o _ None c.code-bytes.ensures c.if-count-eq0.false (sym c.in-None.is ∙ c.decode-found.ensures.listed))
    (ok_as _ _ _ _ _ _ c.faulted.ensures (no_inst c.args.choice c.args.cpu.now c.args.memory.now _))

pub returns-in-Some : goal.returns-in-Some
returns-in-Some g c =
    let o = bytes_at Runs c.args.cpu.now.eip 1 c.args.memory.now.regions in
    found_as _ _ _ _ _ _
    (code_lent c.fifteen_bytes_decide.ensures c.args.cpu.now.eip o _ _ c.code-bytes.ensures c.if-count-eq0.false (sym c.in-Some.is ∙ c.decode-found.ensures.listed))
    c.carry_out.ensures

pub carry_out-requires-clause-valid : goal.carry_out-requires-clause-valid
carry_out-requires-clause-valid g c =
    let P : Option (Inst × ℕ) → Type 0 = λ r. IfSome r (λ x. IsTrue (valid_of x.0)) in
    subst P c.in-Some.is c.decode-found.ensures.valid

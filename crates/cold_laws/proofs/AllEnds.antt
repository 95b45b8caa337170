-- Each transfer at the end of a copy.
use Rattle.std.proofs.Common.{◌≡◌, refl}
use Rattle.std.proofs.lemmas.Bool.{ltb-true}
use Rattle.std.specs.Prelude.{IsTrue}
use Rattle.ia_inst.specs.declared.inst.Inst.{Inst}
use Rattle.ia_inst.specs.declared.inst.Inst.TheVariants as inst
use Rattle.ia_inst.specs.declared.inst.Rm.TheVariants as rm
use Rattle.ia_inst.specs.declared.inst.Kind.TheVariants as kinds
use Rattle.ia_inst.specs.Canonical.{valid_of}
use Rattle.ia_inst.specs.Kinds.{kind_of}
use Rattle.ia_inst.specs.Step.{step}
use Rattle.sim_laws.specs.InCode.{StepsInCode}
use Rattle.sim_runs.specs.Laws.{Leads}
use Rattle.piece_laws.specs.Exchange.{EntersJoined}
use Rattle.cold_laws.specs.InPlace.{Landed}
use Rattle.cold_laws.specs.Ends.{EndsInPlace}
use Rattle.cold_laws.proofs.Leaving.{ends_by_call, ends_by_ret, ends_by_jmp_mem, ends_by_jmp_reg, ends_by_call_reg}
use Rattle.cold_laws.proofs.Parts.{ends_by_jmp, ends_by_call_rel}
use Rattle.cold_laws.proofs.Branch.{ends_by_jcc}

pub all_ends : EntersJoined → StepsInCode → EndsInPlace
all_ends enters keeps exe plan copies dest p at to s t cs code meet low of goes fine eip there kind valid d st disp h = by p.inst refl kind valid
  where
    by : (i : Inst) → p.inst ≡ i → kind_of i ≡ kinds.Transfer → IsTrue (valid_of i) → Leads (Landed plan copies exe (step s 0).eip (step s 0)) 128 t cs
    by (inst.Jcc c rel) e k v = ends_by_jcc enters keeps exe plan copies dest p at to c rel s t cs e code meet low of goes fine eip there d st h
    by (inst.Jmp rel) e k v = ends_by_jmp enters keeps exe plan copies dest p at to rel s t cs e code meet low of goes fine eip there d st h
    by (inst.Call rel) e k v = ends_by_call_rel enters keeps exe plan copies dest p at to rel s t cs e code meet low of goes fine eip there d st h
    by (inst.JmpRm (rm.Reg r)) e k v = ends_by_jmp_reg keeps exe plan copies dest p at to s t cs (r, ltb-true r 8 v, e) code of goes fine eip there d st disp h
    by (inst.JmpRm (rm.Mem m)) e k v = ends_by_jmp_mem keeps exe plan copies dest p at to s t cs (m, e) code of goes fine eip there d st disp h
    by (inst.CallRm (rm.Reg r)) e k v = ends_by_call_reg keeps exe plan copies dest p at to s t cs (r, ltb-true r 8 v, e) code of goes fine eip there d st disp h
    by (inst.CallRm (rm.Mem m)) e k v = ends_by_call keeps exe plan copies dest p at to s t cs (m, e) code of goes fine eip there d st disp h
    by (inst.Ret pop) e k v = ends_by_ret keeps exe plan copies dest p at to s t cs (pop, e) code of goes fine eip there d st disp h
    by i e k v = absurd (cc)

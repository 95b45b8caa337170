-- The code at the end of a copy does what the original's transfer does, and leads on.
use Rattle.std.specs.Prelude.{◌≡◌, ◌≢◌, ◌<◌, ◌^◌, ℕ, ◌+◌, ◌==◌, ◌||◌, true, List, IsTrue, if◌then◌else◌}
use Rattle.br_word.specs.State.{State, Running}
use Rattle.elf_read.specs.declared.exe.Exe.{Exe}
use Rattle.elf_read.specs.Elf.{is_exec}
use Rattle.ia_inst.specs.declared.inst.Addr.{Addr}
use Rattle.ia_inst.specs.declared.inst.Rm.TheVariants as rm
use Rattle.ia_inst.specs.declared.inst.Inst.{Inst}
use Rattle.ia_inst.specs.declared.inst.Inst.TheVariants.{Jcc, Jmp, JmpRm, Call, CallRm, Ret}
use Rattle.ia_inst.specs.declared.inst.Kind.TheVariants as kinds
use Rattle.ia_inst.specs.Canonical.{valid_of}
use Rattle.ia_inst.specs.Kinds.{kind_of}
use Rattle.ia_inst.specs.Meaning.{wrap}
use Rattle.ia_inst.specs.Step.{There, step, IsWellDefined}
use Rattle.ia_encode.specs.declared.item.Dest.{Dest}
use Rattle.ia_encode.specs.declared.item.Dest.TheVariants as dests
use Rattle.ia_encode.specs.declared.item.Item.{Item}
use Rattle.ia_encode.specs.Items.{Stands, dest_at}
use Rattle.par_moves.specs.Homes.{register_homes}
use Rattle.fall_stubs.specs.Exchange.{closing_items}
use Rattle.block_cut.specs.Places.{Placed, found_at}
use Rattle.block_cut.specs.Transfers.{is_among}
use Rattle.code_laws.specs.Seen.{IsCode, word}
use Rattle.sim_runs.specs.Relation.{Plan}
use Rattle.sim_runs.specs.Laws.{Leads}
use Rattle.sim_runs.specs.Promised.{IsOf}
use Rattle.piece_laws.specs.Exchange.{HomesMeet}
use Rattle.cold_code.specs.Copies as code
use Rattle.cold_laws.specs.Copies.{Copies, around}
use Rattle.sim_runs.specs.Relation.{InPlace}
use Rattle.cold_laws.specs.InPlace.{Landed}

-- what leads on from a state in place: to the block of a start, to a copy, or to the original
abbrev pub part : Plan → Copies → ℕ → List Item
part plan copies y = code.part (around plan copies) y

-- the state is captured, and the dispatcher, at 0, is next
abbrev pub to_turn : List Item
to_turn = closing_items register_homes (dests.Block 0)

-- by the transfer, with the address behind it
abbrev pub end_by : Plan → Copies → Inst → ℕ → List Item
end_by plan copies i next = code.end_by (around plan copies) i next

-- where destinations lie: the dispatcher at 0, blocks and copies
abbrev pub goes_cold : Plan → Copies → ℕ → ℕ
goes_cold plan copies y = if y == 0 then copies.turn else (if plan.is_start y then plan.address y else copies.place y 0)

-- the direct targets that are code are starts of blocks or of copies
abbrev pub AreLanding : Plan → Copies → Exe → List ℕ → Type 0
AreLanding plan copies exe ys = (y : ℕ) → IsTrue (is_among ys y) → IsTrue (is_exec y exe.segments) → IsTrue (plan.is_start y || copies.cold y)

-- with its target in slot 15, the state is captured, and the dispatcher leads on
abbrev pub Dispatches : Plan → Copies → Exe → Type 0
Dispatches plan copies exe = (dest : Dest → ℕ) (at to : ℕ) (s t : State) (cs : List ℕ)
    → Stands dest plan.code at to_turn to → dest (dests.Block 0) ≡ copies.turn → IsOf exe s → s.stop ≡ Running
    → (h : InPlace plan at s t) → word h.own 15 ≡ s.eip → Leads (Landed plan copies exe s.eip s) 100 t cs

-- the same of one transfer
abbrev pub EndsBy : (Inst → Type 0) → Type 0
EndsBy P = (exe : Exe) (plan : Plan) (copies : Copies) (dest : Dest → ℕ) (p : Placed) (at to : ℕ) (s t : State) (cs : List ℕ) → P p.inst
    → IsCode plan.code → IsOf exe s → s.stop ≡ Running → IsWellDefined s → s.eip ≡ p.at
    → found_at exe p.at ≡ There p.inst p.size
    → dest ≡ dest_at (goes_cold plan copies) at (end_by plan copies p.inst (wrap (p.at + p.size)))
    → Stands dest plan.code at (end_by plan copies p.inst (wrap (p.at + p.size))) to
    → Dispatches plan copies exe
    → InPlace plan at s t
    → Leads (Landed plan copies exe (step s 0).eip (step s 0)) 128 t cs

abbrev pub EndsByCallMem : Type 0
EndsByCallMem = EndsBy (λ i. (m : Addr) × (i ≡ CallRm (rm.Mem m)))

abbrev pub EndsByRet : Type 0
EndsByRet = EndsBy (λ i. (pop : ℕ) × (i ≡ Ret pop))

abbrev pub EndsByJmpMem : Type 0
EndsByJmpMem = EndsBy (λ i. (m : Addr) × (i ≡ JmpRm (rm.Mem m)))

-- no start and no cold start is 0, and what stands for one lies below 2 ^ 32
pub record AreLow (plan : Plan) (copies : Copies) : Type 0 where
  pub start : (y : ℕ) → plan.is_start y ≡ true → (y ≢ 0) × (plan.address y < 2 ^ 32)
  pub cold : (y : ℕ) → copies.cold y ≡ true → (y ≢ 0) × (copies.place y 0 < 2 ^ 32)

-- in place before the part of an address, at which the original stands
abbrev pub PartsLead : Type 0
PartsLead = (exe : Exe) (plan : Plan) (copies : Copies) (dest : Dest → ℕ) (at to : ℕ) (s t : State) (cs : List ℕ)
    → IsCode plan.code → HomesMeet register_homes plan → AreLow plan copies → IsOf exe s → s.stop ≡ Running
    → ((y : ℕ) → dest (dests.Block y) ≡ goes_cold plan copies y) → ((y : ℕ) → dest (dests.Original y) ≡ y)
    → Stands dest plan.code at (part plan copies s.eip) to → InPlace plan at s t
    → Leads (Landed plan copies exe s.eip s) 32 t cs

abbrev pub EndsByJmp : Type 0
EndsByJmp = (exe : Exe) (plan : Plan) (copies : Copies) (dest : Dest → ℕ) (p : Placed) (at to rel : ℕ) (s t : State) (cs : List ℕ) → p.inst ≡ Jmp rel
    → IsCode plan.code → HomesMeet register_homes plan → AreLow plan copies → IsOf exe s → s.stop ≡ Running → IsWellDefined s → s.eip ≡ p.at
    → found_at exe p.at ≡ There p.inst p.size
    → dest ≡ dest_at (goes_cold plan copies) at (end_by plan copies p.inst (wrap (p.at + p.size)))
    → Stands dest plan.code at (end_by plan copies p.inst (wrap (p.at + p.size))) to
    → InPlace plan at s t
    → Leads (Landed plan copies exe (step s 0).eip (step s 0)) 128 t cs

abbrev pub EndsByCall : Type 0
EndsByCall = (exe : Exe) (plan : Plan) (copies : Copies) (dest : Dest → ℕ) (p : Placed) (at to rel : ℕ) (s t : State) (cs : List ℕ) → p.inst ≡ Call rel
    → IsCode plan.code → HomesMeet register_homes plan → AreLow plan copies → IsOf exe s → s.stop ≡ Running → IsWellDefined s → s.eip ≡ p.at
    → found_at exe p.at ≡ There p.inst p.size
    → dest ≡ dest_at (goes_cold plan copies) at (end_by plan copies p.inst (wrap (p.at + p.size)))
    → Stands dest plan.code at (end_by plan copies p.inst (wrap (p.at + p.size))) to
    → InPlace plan at s t
    → Leads (Landed plan copies exe (step s 0).eip (step s 0)) 128 t cs

abbrev pub EndsByJcc : Type 0
EndsByJcc = (exe : Exe) (plan : Plan) (copies : Copies) (dest : Dest → ℕ) (p : Placed) (at to c rel : ℕ) (s t : State) (cs : List ℕ) → p.inst ≡ Jcc c rel
    → IsCode plan.code → HomesMeet register_homes plan → AreLow plan copies → IsOf exe s → s.stop ≡ Running → IsWellDefined s → s.eip ≡ p.at
    → found_at exe p.at ≡ There p.inst p.size
    → dest ≡ dest_at (goes_cold plan copies) at (end_by plan copies p.inst (wrap (p.at + p.size)))
    → Stands dest plan.code at (end_by plan copies p.inst (wrap (p.at + p.size))) to
    → InPlace plan at s t
    → Leads (Landed plan copies exe (step s 0).eip (step s 0)) 128 t cs

-- by a register; that it is one of eight follows from what is read
abbrev pub EndsByJmpReg : Type 0
EndsByJmpReg = EndsBy (λ i. (r : ℕ) × (r < 8) × (i ≡ JmpRm (rm.Reg r)))

abbrev pub EndsByCallReg : Type 0
EndsByCallReg = EndsBy (λ i. (r : ℕ) × (r < 8) × (i ≡ CallRm (rm.Reg r)))

-- each transfer that is read
abbrev pub EndsInPlace : Type 0
EndsInPlace = (exe : Exe) (plan : Plan) (copies : Copies) (dest : Dest → ℕ) (p : Placed) (at to : ℕ) (s t : State) (cs : List ℕ)
    → IsCode plan.code → HomesMeet register_homes plan → AreLow plan copies → IsOf exe s → s.stop ≡ Running → IsWellDefined s → s.eip ≡ p.at
    → found_at exe p.at ≡ There p.inst p.size → kind_of p.inst ≡ kinds.Transfer → IsTrue (valid_of p.inst)
    → dest ≡ dest_at (goes_cold plan copies) at (end_by plan copies p.inst (wrap (p.at + p.size)))
    → Stands dest plan.code at (end_by plan copies p.inst (wrap (p.at + p.size))) to
    → Dispatches plan copies exe → InPlace plan at s t
    → Leads (Landed plan copies exe (step s 0).eip (step s 0)) 128 t cs

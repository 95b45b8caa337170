-- One instruction that is no transfer, in a copy.
use Rattle.std.proofs.Common.{◌≡◌, ℕ, zero, suc, ◌+◌, ◌^◌, ◌<◌, ◌≤◌, Bool, true, false, List, [], ◌∷◌, ◌++◌, length, take, drop, map, Option, Some, None, if◌then◌else◌, refl, sym, ap, ◌∙◌, subst, arith, ⊎_elim, ◌⊎◌, inl, inr}
use Rattle.std.proofs.lemmas.Bool.{le-leb, and_from}
use Rattle.std.proofs.lemmas.List.{length-take-le}
use Rattle.br_word.specs.declared.types.Flags.{Flags}
use Rattle.br_word.specs.declared.types.Width.TheVariants.{B32}
use Rattle.br_word.specs.Memory.{Region, covers, bytes_at}
use Rattle.br_word.specs.Words.{bit}
use Rattle.br_word.specs.State.{State, Running}
use Rattle.elf_read.specs.declared.exe.Exe.{Exe}
use Rattle.elf_read.specs.Elf.{is_exec}
use Rattle.elf_read.specs.Code.{code_at}
use Rattle.ia_inst.specs.declared.inst.Inst.{Inst}
use Rattle.ia_inst.specs.declared.inst.Inst.TheVariants as inst
use Rattle.ia_inst.specs.declared.inst.Src.TheVariants as src
use Rattle.ia_inst.specs.declared.inst.Kind.TheVariants as kinds
use Rattle.ia_inst.specs.Kinds.{kind_of}
use Rattle.ia_inst.specs.Instructions.{decode_of}
use Rattle.ia_inst.specs.Canonical.{canonical}
use Rattle.ia_inst.specs.Act.{NextEip, Past, Again}
use Rattle.ia_inst.specs.Meaning.{wrap}
use Rattle.ia_inst.specs.System.{StepResult, On, Bad}
use Rattle.ia_inst.specs.Step.{NoCode, There, found, found_from, act_of, next_eip, result_at, result_of, settled, step_result, unless_stopped, step, NoFault, IsWellDefined}
use Rattle.ia_inst.proofs.Elsewhere.{same_elsewhere}
use Rattle.ia_encode.specs.declared.item.Dest.{Dest}
use Rattle.ia_encode.specs.declared.item.Item.TheVariants as item
use Rattle.ia_encode.specs.Items.{Reads, Stands, size_of_items}
use Rattle.ia_encode.proofs.ItemsStand.{own_reads}
use Rattle.run_model.specs.Run.{Observation, observed, first_choice, run}
use Rattle.block_cut.specs.Places.{Placed, found_at, inst_found}
use Rattle.par_moves.specs.declared.locations.Place.TheVariants.{Slot}
use Rattle.par_moves.specs.declared.locations.MoveSource.TheVariants.{Num}
use Rattle.par_moves.specs.Locations.{rm_of}
use Rattle.sim_laws.specs.ByKind.{GoesBy, EachGoesByKind}
use Rattle.sim_laws.specs.InCode.{IsStateOf, StepsInCode}
use Rattle.sim_laws.specs.Wider.{AllLow, Agree}
use Rattle.code_laws.specs.Seen.{IsCode, Sees, Cells, private_region}
use Rattle.code_laws.proofs.Keeps.{stands_parts}
use Rattle.code_laws.proofs.Ops.{OMov, celled}
use Rattle.code_laws.proofs.Follows.{follows}
use Rattle.code_laws.proofs.Runs.{step_is, found_is}
use Rattle.sim_runs.specs.Native.{placed, AllEnds}
use Rattle.sim_runs.specs.Relation.{Plan, Ready, extra_of}
use Rattle.sim_runs.specs.Promised.{IsOf}
use Rattle.sim_runs.proofs.Native.{step_beside}
use Rattle.sim_runs.specs.Relation.{InPlace}
use Rattle.cold_code.specs.Copies.{df_items, own_items}
use Rattle.cold_laws.specs.InPlace.{TurnInPlace, StepsInPlace}
use Rattle.cold_laws.proofs.Onward.{df_after, ends_here, ends_near, df_is}
use Rattle.cold_laws.proofs.Seen.{cells_of, placed_seen, placed_stands, put_stands, seen_in_place}
use Rattle.cold_laws.proofs.Seen as seen

-- ---- its own bytes

abbrev pub Lengths : Type 0
Lengths = (bs : List ℕ) (i : Inst) (n : ℕ) → decode_of bs ≡ Some (i, n) → (1 ≤ n) × (n ≤ 15) × (n ≤ length bs)

abbrev pub Decides : Type 0
Decides = (bs rest : List ℕ) (i : Inst) (n : ℕ) → decode_of bs ≡ Some (i, n) → decode_of (take n bs ++ rest) ≡ Some (i, n)

spelled_in : (b : Bool) (o : Option (Inst × ℕ)) (i : Inst) (n : ℕ) → (if b then found_from o else NoCode) ≡ There i n → o ≡ Some (i, n)
spelled_in true (Some q) i n e = ap inst_found e
spelled_in true None i n e = cc
spelled_in false o i n e = cc

spelled_at : (exe : Exe) (at : ℕ) (i : Inst) (n : ℕ) → found_at exe at ≡ There i n → decode_of (code_at at exe.segments) ≡ Some (i, n)
unfolding found_at
spelled_at exe at i n e = spelled_in (is_exec at exe.segments) (decode_of (code_at at exe.segments)) i n e

pub found_code : {code : Region} → IsCode code → (rs : List Region) (at : ℕ) (i : Inst) (n : ℕ) → Reads code at i n → found at (code ∷ rs) ≡ There i n
unfolding bytes_at
found_code {code = code} here rs at i n r =
    let f = r.from in
    let l = r.starts in
    let c : covers code at 1 ≡ true = and_from _ _ (le-leb code.start at (omega arith)) (le-leb (at + 1) (code.start + length code.bytes) (omega arith)) in
    rw (c, here.runs, r.spelled)

size_of_bytes : (bytes : List ℕ) → size_of_items (map item.Byte bytes) ≡ length bytes
size_of_bytes [] = refl
size_of_bytes (b ∷ bs) = let e = size_of_bytes bs in omega arith

-- ---- the step, and DF after it

-- what a well-defined step leads to
pub record Went (s : State) (i : Inst) (n : ℕ) : Type 0 where
  pub to : State
  pub is : step s 0 ≡ to
  pub way : result_at (There i n) s 0 ≡ On to

pub went : (s : State) (i : Inst) (n : ℕ) → found s.eip s.regions ≡ There i n → s.stop ≡ Running → IsWellDefined s → Went s i n
unfolding step
went s i n there goes fine = by (step_result s 0) refl (fine.no_fault goes)
  where
    by : (w : StepResult) → step_result s 0 ≡ w → NoFault w → Went s i n
    by (On t) e nf = record { to = t; is = ap (λ stop. unless_stopped stop s (settled (step_result s 0) s)) goes ∙ ap (λ w. settled w s) e; way = ap (λ f. result_at f s 0) (sym there) ∙ e }
    by (Bad v) e nf = absurd nf

pub step_df : EachGoesByKind → (s : State) (i : Inst) (n : ℕ) → found s.eip s.regions ≡ There i n → s.stop ≡ Running → IsWellDefined s → (kind_of i ≡ kinds.Transfer → ⊥) → (step s 0).cpu.df ≡ df_after i s.cpu.df
step_df by s i n there goes fine k =
    let w = went s i n there goes fine in
    ap (λ (u : State). u.cpu.df) w.is ∙ df_is by i n s w.to k w.way

-- CLD, STD, or neither
record SetsDf (i : Inst) : Type 0 where
  pub to : Bool
  pub items : df_items i ≡ (item.Inst (inst.Mov B32 (rm_of (Slot 13)) (src.Imm (bit to))) ∷ [])
  pub df : (d : Bool) → df_after i d ≡ to
  pub plain : kind_of i ≡ kinds.Plain

record KeepsDf (i : Inst) : Type 0 where
  pub items : df_items i ≡ []
  pub df : (d : Bool) → df_after i d ≡ d

by_df : (i : Inst) → SetsDf i ⊎ KeepsDf i
by_df inst.Cld = inl (record { to = false; items = refl; df = λ d. refl; plain = refl })
by_df inst.Std = inl (record { to = true; items = refl; df = λ d. refl; plain = refl })
by_df i = inr (record { items = refl; df = λ d. refl })

extra_low : (plan : Plan) (own : List ℕ) → plan.code.start + length plan.code.bytes ≤ 0x07000000 → length own ≡ 65536 → AllLow 0x08000000 (extra_of plan own)
extra_low plan own l e = (omega arith, (omega (arith, e), tt))

-- ---- one turn

module _ (exe : Exe) (plan : Plan) (s : State) (at : ℕ) (i : Inst) (n : ℕ) where
  -- where both may stand after the step
  abbrev Eips : ℕ → ℕ → Type 0
  Eips a b = ((a ≡ s.eip) × (b ≡ at) × (kind_of i ≡ kinds.Island)) ⊎ ((a ≡ wrap (s.eip + n)) × (b ≡ at + n))

  each : wrap (at + n) ≡ at + n → (to : NextEip) → ((to ≡ Past n) ⊎ ((to ≡ Again) × (kind_of i ≡ kinds.Island))) → Eips (next_eip to s.eip) (next_eip to at)
  each w to (inl e) = inr (ap (λ to. next_eip to s.eip) e, ap (λ to. next_eip to at) e ∙ w)
  each w to (inr e) = inl (ap (λ to. next_eip to s.eip) e.0, ap (λ to. next_eip to at) e.0, e.1)

  -- one step of both
  record Stepped (t : State) (own : List ℕ) (c : ℕ) : Type 0 where
    pub flags : Flags
    pub marks : Flags
    pub to : ℕ
    pub agree : Agree (step s 0).cpu.marks flags (step s 0).cpu.flags
    pub eips : Eips (step s 0).eip to
    pub same : step t c ≡ placed (extra_of plan own) flags marks to (step s 0)

  stepped : (t : State) (c : ℕ) → IsCode plan.code → IsOf exe s → s.stop ≡ Running → IsWellDefined s → found s.eip s.regions ≡ There i n → (kind_of i ≡ kinds.Transfer → ⊥) → Reads plan.code at i n → (h : InPlace plan at s t) → Stepped t h.own c
  stepped t c code of goes fine here k reads h =
      let b = code.below in
      let l = reads.ends in
      let w : wrap (at + n) ≡ at + n = omega arith in
      let x = extra_low plan h.own code.below h.ready.size in
      let there = found_code code (private_region h.own ∷ s.regions) at i n reads in
      let ends : AllEnds (λ to. Eips (next_eip to s.eip) (next_eip to at)) (act_of i n s) = ends_near i n s.cpu.df _ (each w) (act_of i n s) (ends_here i n s.cpu.regs s.eip s.cpu.df k) in
      let z = step_beside 0x08000000 (extra_of plan h.own) x Eips s h.wider.flags h.wider.marks at c i n goes fine of.high h.wider.agree here there (same_elsewhere i n at s.eip s.cpu.regs s.cpu.df k) ends in
      record { flags = z.flags; marks = z.marks; to = z.at; agree = z.agree; eips = z.eips; same = ap (λ u. step u c) h.wider.same ∙ z.same }

-- a number to a slot that is none of a flag
pub record SetSlot (plan : Plan) (s : State) (a : Cells) (k v to : ℕ) (u : State) : Type 0 where
  pub sees : Sees plan.code u (celled a (Slot k) v)
  pub eip : u.eip ≡ to
  pub stands : seen.Stands s (celled a (Slot k) v)

pub set_slot : (plan : Plan) → IsCode plan.code → (s u : State) (a : Cells) (k v to x : ℕ) → 13 ≤ k → k < 16384 → v < 2 ^ 32 → Sees plan.code u a → Reads plan.code u.eip (inst.Mov B32 (rm_of (Slot k)) (src.Imm v)) (length (canonical (inst.Mov B32 (rm_of (Slot k)) (src.Imm v)))) → u.eip + length (canonical (inst.Mov B32 (rm_of (Slot k)) (src.Imm v))) ≡ to → seen.Stands s a → SetSlot plan s a k v to (step u x)
set_slot plan code s u a k v to x high fit small h reads past st =
    let o = OMov (Slot k) (Num v) in
    let m = length (canonical (inst.Mov B32 (rm_of (Slot k)) (src.Imm v))) in
    let w = follows code o u a m x h (fit, small) in
    let b = code.below in
    let l = reads.ends in
    let e : wrap (u.eip + m) ≡ to = let e : wrap (u.eip + m) ≡ u.eip + m = omega arith in e ∙ past in
    let is : step u x ≡ record u { eip = wrap (u.eip + m); cpu = w.cpu; regions = w.regions } = step_is u (inst.Mov B32 (rm_of (Slot k)) (src.Imm v)) m x h.running (found_is code u a h (inst.Mov B32 (rm_of (Slot k)) (src.Imm v)) m reads) ∙ ap (λ d. settled (result_of d u) u) w.goes in
    record {
      sees = subst (λ u. Sees plan.code u (celled a (Slot k) v)) (sym is) (w.sees (wrap (u.eip + m)));
      eip = ap (λ (u : State). u.eip) is ∙ e;
      stands = put_stands s a k v high st;
    }

one_or_two : (j : ℕ) → 0 < j → j ≤ 2 → (j ≡ 1) ⊎ (j ≡ 2)
one_or_two zero a b = absurd (omega arith)
one_or_two (suc zero) a b = inl refl
one_or_two (suc (suc zero)) a b = inr refl
one_or_two (suc (suc (suc j))) a b = absurd (omega arith)

zero_or_one : (j : ℕ) → j < 2 → (j ≡ 0) ⊎ (j ≡ 1)
zero_or_one zero b = inl refl
zero_or_one (suc zero) b = inr refl
zero_or_one (suc (suc j)) b = absurd (omega arith)

bit_small : (b : Bool) → bit b < 2 ^ 32
bit_small true = omega arith
bit_small false = omega arith

module _ (dec : Decides) (len : Lengths) (by : EachGoesByKind) (keeps : StepsInCode) where
  -- the copy's own bytes are read, and what stands behind them
  record OwnRead (exe : Exe) (plan : Plan) (dest : Dest → ℕ) (p : Placed) (at to : ℕ) : Type 0 where
    pub reads : Reads plan.code at p.inst p.size
    pub behind : Stands dest plan.code (at + p.size) (df_items p.inst) to

  own_read : (exe : Exe) (plan : Plan) (dest : Dest → ℕ) (p : Placed) (at to : ℕ) → found_at exe p.at ≡ There p.inst p.size → Stands dest plan.code at (own_items exe p) to → OwnRead exe plan dest p at to
  own_read exe plan dest p at to found st =
      let bs = code_at p.at exe.segments in
      let spelled = spelled_at exe p.at p.inst p.size found in
      let l = len bs p.inst p.size spelled in
      let own : length (take p.size bs) ≡ p.size = length-take-le p.size bs l.2 in
      let parts = stands_parts dest plan.code at (map item.Byte (take p.size bs)) (df_items p.inst) to st in
      record {
        reads = subst (Reads plan.code at p.inst) own (own_reads dest plan.code (take p.size bs) (df_items p.inst) at to p.inst (omega (arith, own, l.0)) (λ behind. subst (λ k. decode_of (take p.size bs ++ behind) ≡ Some (p.inst, k)) (sym own) (dec bs behind p.inst p.size spelled)) st);
        behind = subst (λ k. Stands dest plan.code (at + k) (df_items p.inst) to) (size_of_bytes (take p.size bs) ∙ own) parts.1;
      }

  pub steps_in_place : StepsInPlace
  steps_in_place exe plan dest p at to s t cs code of goes fine eip there kind st h = ⊎_elim sets keeps_df (by_df i)
    where
      i : Inst
      i = p.inst

      n : ℕ
      n = p.size

      o : OwnRead exe plan dest p at to
      o = own_read exe plan dest p at to there st

      here : found s.eip s.regions ≡ There i n
      here = of.state.code s.eip ∙ ap (found_at exe) eip ∙ there

      z : Stepped exe plan s at i n t h.own (first_choice cs)
      z = stepped exe plan s at i n t (first_choice cs) code of goes fine here kind o.reads h

      df : (step s 0).cpu.df ≡ df_after i s.cpu.df
      df = step_df by s i n here goes fine kind

      low : t.eip < 0x07000000
      low =
          let e : t.eip ≡ at = ap (λ (u : State). u.eip) h.wider.same in
          let b = code.below in
          let l = o.reads.starts in
          omega (arith, e)

      keeps_df : KeepsDf i → TurnInPlace plan p at to s t cs
      keeps_df k =
          let same : (step s 0).cpu.df ≡ s.cpu.df = df ∙ k.df s.cpu.df in
          let past : at + n ≡ to = subst (λ is. Stands dest plan.code (at + n) is to) k.items o.behind in
          record {
            steps = 1;
            some = omega arith;
            few = omega arith;
            shows = λ j a b. let e : j ≡ 1 = omega arith in subst (λ j. observed (run j t cs) ≡ observed (step s 0)) (sym e) (ap observed z.same);
            inside = λ j b. let e : j ≡ 0 = omega arith in subst (λ j. (run j t cs).eip < 0x07000000) (sym e) low;
            place = z.to;
            stays = ⊎_elim (λ q. inl (q.0, q.1)) (λ q. inr (q.0, q.1 ∙ past)) z.eips;
            next = record { own = h.own; ready = subst (Ready h.own) (sym same) h.ready; wider = record { flags = z.flags; marks = z.marks; agree = z.agree; same = z.same } };
          }

      s1 : State
      s1 = step s 0

      is1 : IsStateOf exe s1
      is1 = keeps exe s 0 of.state

      quiet : kind_of i ≡ kinds.Plain → (step s 0).stop ≡ Running
      quiet k =
          let w = went s i n here goes fine in
          let g : GoesBy kinds.Plain i n s w.to = subst (λ k. GoesBy k i n s w.to) k (by i n s w.to 0 w.way) in
          ap (λ (u : State). u.stop) w.is ∙ ap (λ (v : Observation). v.stop) g.1.seen ∙ goes

      sets : SetsDf i → TurnInPlace plan p at to s t cs
      sets k = ⊎_elim (λ q. absurd (let e : kinds.Plain ≡ kinds.Island = sym k.plain ∙ q.2 in cc)) second z.eips
        where
          st2 : Stands dest plan.code (at + n) (item.Inst (inst.Mov B32 (rm_of (Slot 13)) (src.Imm (bit k.to))) ∷ []) to
          st2 = subst (λ is. Stands dest plan.code (at + n) is to) k.items o.behind

          now : (step s 0).cpu.df ≡ k.to
          now = df ∙ k.df s.cpu.df

          second : ((step s 0).eip ≡ wrap (s.eip + n)) × (z.to ≡ at + n) → TurnInPlace plan p at to s t cs
          second q =
              let x = first_choice (drop 1 cs) in
              let m = length (canonical (inst.Mov B32 (rm_of (Slot 13)) (src.Imm (bit k.to)))) in
              let u1 = placed (extra_of plan h.own) z.flags z.marks (at + n) s1 in
              let same1 : step t (first_choice cs) ≡ u1 = z.same ∙ ap (λ to. placed (extra_of plan h.own) z.flags z.marks to s1) q.1 in
              let a = cells_of s1 h.own z.flags z.marks in
              let h1 = placed_seen plan h.own z.flags z.marks (at + n) s1 is1.sound.regs h.ready.size h.ready.bytes (quiet k.plain) in
              let r = set_slot plan code s1 u1 a 13 (bit k.to) to x (omega arith) (omega arith) (bit_small k.to) h1 st2.0 st2.1 (placed_stands h.own z.flags z.marks s1 z.agree h.ready.flags) in
              let same2 : run 2 t cs ≡ step u1 x = ap (λ u. step u x) same1 in
              let low1 : (run 1 t cs).eip < 0x07000000 = let e : (run 1 t cs).eip ≡ at + n = ap (λ (u : State). u.eip) same1 in let b = code.below in let l = st2.0.starts in omega (arith, e) in
              let in_place : InPlace plan to s1 (step u1 x) = seen_in_place plan to s1 (step u1 x) (celled a (Slot 13) (bit k.to)) is1.sound.regs.count r.sees r.eip r.stands (ap bit (sym now)) in
              record {
                steps = 2;
                some = omega arith;
                few = omega arith;
                shows = λ j a b. ⊎_elim
                    (λ (e : j ≡ 1). subst (λ j. observed (run j t cs) ≡ observed (step s 0)) (sym e) (ap observed same1))
                    (λ (e : j ≡ 2). subst (λ j. observed (run j t cs) ≡ observed (step s 0)) (sym e) (ap observed same2 ∙ ap observed in_place.wider.same))
                    (one_or_two j a b);
                inside = λ j b. ⊎_elim
                    (λ (e : j ≡ 0). subst (λ j. (run j t cs).eip < 0x07000000) (sym e) low)
                    (λ (e : j ≡ 1). subst (λ j. (run j t cs).eip < 0x07000000) (sym e) low1)
                    (zero_or_one j b);
                place = to;
                stays = inr (q.0, refl);
                next = subst (λ u. InPlace plan to s1 u) (sym same2) in_place;
              }

-- Indirect transfers at the end of a copy.
use Rattle.std.proofs.Common.{◌≡◌, ◌≢◌, ℕ, zero, suc, ◌+◌, ◌-◌, ◌^◌, ◌<◌, ◌≤◌, Bool, true, false, List, [], ◌∷◌, ◌++◌, length, drop, get_or, set, Option, Some, None, if◌then◌else◌, refl, sym, ap, ◌∙◌, subst, arith, ⊎_elim, get_or-set_same, get_or-set_other}
use Rattle.std.specs.Prelude.{◌==◌}
use Rattle.std.proofs.lemmas.Bool.{cases_eq, eq-eqb, ne_eqb, eqb-true}
use Rattle.std.proofs.lemmas.Grind.{same_number_lists}
use Rattle.br_word.specs.declared.types.Width.TheVariants.{B32}
use Rattle.br_word.specs.Memory.{Region, load, store, bytes_of}
use Rattle.br_word.specs.Words.{bit}
use Rattle.br_word.specs.State.{State, Running, Flag, CF, PF, ZF, SF, OF}
use Rattle.elf_read.specs.declared.exe.Exe.{Exe}
use Rattle.ia_inst.specs.declared.inst.Addr.{Addr}
use Rattle.ia_inst.specs.declared.inst.Inst.{Inst}
use Rattle.ia_inst.specs.declared.inst.Inst.TheVariants as inst
use Rattle.ia_inst.specs.declared.inst.Rm.TheVariants as rm
use Rattle.ia_inst.specs.declared.inst.Src.TheVariants as src
use Rattle.ia_inst.specs.Canonical.{canonical}
use Rattle.ia_inst.specs.Act.{Completion, or_denied}
use Rattle.ia_inst.specs.Meaning.{wrap, meaning, address_of}
use Rattle.ia_inst.specs.System.{On}
use Rattle.ia_inst.specs.Step.{There, found, result_of, step}
use Rattle.ia_encode.specs.declared.item.Dest.{Dest}
use Rattle.ia_encode.specs.declared.item.Dest.TheVariants as dests
use Rattle.ia_encode.specs.declared.item.Item.{Item}
use Rattle.ia_encode.specs.declared.item.Item.TheVariants as item
use Rattle.ia_encode.specs.Items.{Stands}
use Rattle.run_model.specs.Run.{first_choice}
use Rattle.block_cut.specs.Places.{Placed, found_at}
use Rattle.par_moves.specs.declared.locations.Place.{Place}
use Rattle.par_moves.specs.declared.locations.Place.TheVariants.{Reg, Slot}
use Rattle.par_moves.specs.declared.locations.MoveSource.TheVariants.{Place as Held}
use Rattle.ssa_form.specs.Agree.{number}
use Rattle.sim_laws.specs.InCode.{IsStateOf, StepsInCode}
use Rattle.sim_laws.specs.Wider.{AllHigh}
use Rattle.code_laws.specs.Seen.{IsCode, Sees, Cells, private_region}
use Rattle.code_laws.proofs.Ops.{OMov, celled, put, inst as op_inst}
use Rattle.sim_runs.specs.Relation.{Plan, extra_of}
use Rattle.sim_runs.specs.Laws.{Leads}
use Rattle.sim_runs.specs.Promised.{IsOf}
use Rattle.cold_laws.specs.Copies.{Copies}
use Rattle.sim_runs.specs.Relation.{InPlace}
use Rattle.cold_laws.specs.InPlace.{Landed}
use Rattle.cold_code.specs.Copies.{aim, pop_more, push_next}
use Rattle.cold_laws.specs.Ends.{end_by, to_turn, Dispatches, EndsByCallMem, EndsByRet, EndsByJmpMem, EndsByJmpReg, EndsByCallReg}
use Rattle.sim_runs.proofs.Widen.{load_wide, written_wide}
use Rattle.cold_laws.proofs.Seen as seen
use Rattle.par_moves.specs.Locations.{rm_of}
use Rattle.cold_laws.proofs.Seen.{put_stands, placed_df, cells_of, placed_seen, placed_stands, seen_ready, seen_beside}
use Rattle.cold_laws.proofs.Turns.{Went, went}
use Rattle.cold_laws.proofs.Steps.{At, top_of, then_leads, op_step, load_step, push_step, lea_step, pop_step, extra_low}

-- ---- what the original does

pub denied_inv : {X : Type 0} (at : ℕ) (o : Option X) (k : X → Completion) (s to : State) → result_of (or_denied at o k) s ≡ On to → (v : X) × (o ≡ Some v) × (result_of (k v) s ≡ On to)
denied_inv at None k s to e = cc
denied_inv at (Some v) k s to e = (v, refl, e)

pub same_on : (t u : State) → On t ≡ On u → t ≡ u
same_on t u e = cc

abbrev pub esp : State → ℕ
esp s = get_or s.cpu.regs 4 0

abbrev pub top : State → ℕ
top s = wrap (esp s + 2 ^ 32 - 4)

-- the state with esp, eip and memory so
abbrev pub moved : State → ℕ → ℕ → List Region → State
moved s v e rs = record s { eip = v; cpu = record (s.cpu) { regs = set s.cpu.regs 4 e }; regions = rs }

record Calls (s : State) (m : Addr) (n : ℕ) : Type 0 where
  pub to : ℕ
  pub after : List Region
  pub loads : load (address_of m s.cpu.regs) 4 s.regions ≡ Some to
  pub stores : store (top s) 4 (wrap (s.eip + n)) s.regions ≡ Some after
  pub is : step s 0 ≡ moved s to (top s) after

calls : (s : State) (m : Addr) (n : ℕ) → Went s (inst.CallRm (rm.Mem m)) n → Calls s m n
unfolding meaning
calls s m n w =
    let l = denied_inv (address_of m s.cpu.regs) (load (address_of m s.cpu.regs) 4 s.regions) _ s w.to w.way in
    let r = denied_inv (top s) (store (top s) 4 (wrap (s.eip + n)) s.regions) _ s w.to l.2 in
    record { to = l.0; after = r.0; loads = l.1; stores = r.1; is = w.is ∙ sym (same_on (moved s l.0 (top s) r.0) w.to r.2) }

record Returns (s : State) (pop : ℕ) : Type 0 where
  pub to : ℕ
  pub loads : load (esp s) 4 s.regions ≡ Some to
  pub is : step s 0 ≡ moved s to (wrap (esp s + 4 + pop)) s.regions

returns : (s : State) (pop n : ℕ) → Went s (inst.Ret pop) n → Returns s pop
unfolding meaning
returns s pop n w =
    let l = denied_inv (esp s) (load (esp s) 4 s.regions) _ s w.to w.way in
    record { to = l.0; loads = l.1; is = w.is ∙ sym (same_on (moved s l.0 (wrap (esp s + 4 + pop)) s.regions) w.to l.2) }

-- ---- the file

-- cells in place, with a target in slot 15
record Aimed (s : State) (v : ℕ) (a : Cells) : Type 0 where
  pub stands : seen.Stands s a
  pub df : a.cell (Slot 13) ≡ bit s.cpu.df
  pub aim : a.cell (Slot 15) ≡ v

pub put_reg : (regs : List ℕ) (g : Place → ℕ) (k v : ℕ) → length regs ≡ 8 → k < 8 → ((r : ℕ) → r < 8 → g (Reg r) ≡ get_or regs r 0) → (r : ℕ) → r < 8 → put (Reg k) v g (Reg r) ≡ get_or (set regs k v) r 0
put_reg regs g k v len b h r l = sym (⊎_elim
    (λ (e : r ≡ k). rw (e, eq-eqb k k refl) (get_or-set_same regs k v 0 (omega (arith, len))))
    (λ (n : r ≢ k). rw (ne_eqb r k n) (get_or-set_other regs k r v 0 n ∙ sym (h r l)))
    (cases_eq r k))

-- esp and memory moved in both
moved_aimed : (s : State) (a : Cells) (v e : ℕ) (rs : List Region) → length s.cpu.regs ≡ 8 → Aimed s v a → Aimed (moved s v e rs) v (celled (record a { outer = rs }) (Reg 4) e)
moved_aimed s a v e rs eight h = record {
  stands = record { outer = refl; seen = h.stands.seen; brk_start = h.stands.brk_start; brk = h.stands.brk; regs = put_reg s.cpu.regs a.cell 4 e eight (omega arith) h.stands.regs; df = h.stands.df; agree = h.stands.agree; held = h.stands.held };
  df = h.df;
  aim = h.aim;
}

esp_aimed : (s : State) (a : Cells) (v e : ℕ) → length s.cpu.regs ≡ 8 → Aimed s v a → Aimed (moved s v e s.regions) v (celled a (Reg 4) e)
esp_aimed s a v e eight h = record {
  stands = record { outer = h.stands.outer; seen = h.stands.seen; brk_start = h.stands.brk_start; brk = h.stands.brk; regs = put_reg s.cpu.regs a.cell 4 e eight (omega arith) h.stands.regs; df = h.stands.df; agree = h.stands.agree; held = h.stands.held };
  df = h.df;
  aim = h.aim;
}

again : (b : Bool) (w v g : ℕ) → (if b then w else (if b then v else g)) ≡ (if b then w else g)
again true w v g = refl
again false w v g = refl

twice_aimed : (s : State) (a : Cells) (v d e : ℕ) → length s.cpu.regs ≡ 8 → Aimed s v a → Aimed (moved s v e s.regions) v (celled (celled a (Reg 4) d) (Reg 4) e)
twice_aimed s a v d e eight h = record {
  stands = record { outer = h.stands.outer; seen = h.stands.seen; brk_start = h.stands.brk_start; brk = h.stands.brk; regs = λ r l. again (r == 4) e d (a.cell (Reg r)) ∙ put_reg s.cpu.regs a.cell 4 e eight (omega arith) h.stands.regs r l; df = h.stands.df; agree = h.stands.agree; held = h.stands.held };
  df = h.df;
  aim = h.aim;
}

loads_wide : (plan : Plan) → IsCode plan.code → (s u : State) (a : Cells) (at v : ℕ) → Sees plan.code u a → a.outer ≡ s.regions → AllHigh 0x08000000 s.regions → load at 4 s.regions ≡ Some v → load at 4 u.regions ≡ Some v
loads_wide plan code s u a at v h o high e =
    ap (load at 4) (h.regions ∙ ap (λ o. plan.code ∷ private_region h.own ∷ o) o) ∙ load_wide 0x08000000 at 4 (extra_of plan h.own) s.regions v (extra_low plan code h.own h.slots.size) high e

same_regs : (plan : Plan) (s u : State) (a : Cells) → length s.cpu.regs ≡ 8 → Sees plan.code u a → ((r : ℕ) → r < 8 → a.cell (Reg r) ≡ get_or s.cpu.regs r 0) → u.cpu.regs ≡ s.cpu.regs
same_regs plan s u a eight h st = same_number_lists u.cpu.regs s.cpu.regs (h.regs.count ∙ sym eight) (λ k l. let q : k < 8 = omega (arith, h.regs.count) in h.regs.each k q ∙ st k q)

pub wider : (P : State → Type 0) (m n : ℕ) (u : State) (cs : List ℕ) → m ≤ n → Leads P m u cs → Leads P n u cs
wider P m n u cs le l = record { steps = l.steps; going = l.going; bound = omega (arith, le, l.bound); shows = l.shows; inside = l.inside; there = l.there }

module _ (exe : Exe) (plan : Plan) (copies : Copies) (dest : Dest → ℕ) (code : IsCode plan.code) (turn : dest (dests.Block 0) ≡ copies.turn) (disp : Dispatches plan copies exe) where
  abbrev Goal : State → State → Type 0
  Goal s u = Landed plan copies exe s.eip s u

  -- the capture, and the dispatcher
  to_dispatcher : (s u : State) (a : Cells) (at to : ℕ) (cs : List ℕ) → Stands dest plan.code at to_turn to → IsOf exe s → s.stop ≡ Running → At plan a at u → Aimed s s.eip a → Leads (Goal s) 100 u cs
  to_dispatcher s u a at to cs st of goes h aimed =
      disp dest at to s u cs st turn of goes
      (record { own = h.sees.own; ready = seen_ready plan s u a h.sees aimed.stands aimed.df; wider = seen_beside plan at s u a of.state.sound.regs.count h.sees h.eip aimed.stands })
      (h.sees.slots.words 15 (omega arith) ∙ aimed.aim)

  -- the target is read from the original's memory
  aim_memory : (P : State → Type 0) (high : ℕ) (s u : State) (a : Cells) (at to v : ℕ) (m : Addr) (rest : List Item) (cs : List ℕ) → IsOf exe s → At plan a at u → seen.Stands s a → a.cell (Slot 13) ≡ bit s.cpu.df → Stands dest plan.code at (aim (rm.Mem m) ++ rest) to → load (address_of m s.cpu.regs) 4 s.regions ≡ Some v → v < 2 ^ 32
      → ((w : State) (b : Cells) (e : ℕ) (ds : List ℕ) → At plan b e w → b.seen ≡ a.seen → Aimed s v b → Stands dest plan.code e rest to → Leads P high w ds) → Leads P (suc (suc (suc (suc high)))) u cs
  aim_memory P high s u a at to v m rest cs of h stands d13 st loads small next =
      let o1 = OMov (Slot 16) (Held (Reg 0)) in
      let o3 = OMov (Slot 15) (Held (Reg 0)) in
      let o4 = OMov (Reg 0) (Held (Slot 16)) in
      let i2 = inst.Mov B32 (rm.Reg 0) (src.Rm (rm.Mem m)) in
      let n1 = length (canonical (op_inst o1)) in
      let n2 = length (canonical i2) in
      let n3 = length (canonical (op_inst o3)) in
      let n4 = length (canonical (op_inst o4)) in
      let c1 = drop 1 cs in
      let c2 = drop 1 c1 in
      let c3 = drop 1 c2 in
      let c4 = drop 1 c3 in
      let u1 = step u (first_choice cs) in
      let u2 = step u1 (first_choice c1) in
      let u3 = step u2 (first_choice c2) in
      let u4 = step u3 (first_choice c3) in
      let a1 = celled a (Slot 16) (a.cell (Reg 0)) in
      let a2 = celled a1 (Reg 0) v in
      let a3 = celled a2 (Slot 15) v in
      let a4 = celled a3 (Reg 0) (a.cell (Reg 0)) in
      let h1 : At plan a1 (at + n1) u1 = op_step plan code o1 u a at (first_choice cs) h (omega arith, omega arith) st.0 in
      let regs = same_regs plan s u1 a1 of.state.sound.regs.count h1.sees stands.regs in
      let l1 : load (address_of m u1.cpu.regs) 4 u1.regions ≡ Some v = ap (λ r. load (address_of m r) 4 u1.regions) regs ∙ loads_wide plan code s u1 a1 (address_of m s.cpu.regs) v h1.sees stands.outer of.high.regions loads in
      let h2 : At plan a2 (at + n1 + n2) u2 = load_step plan code u1 a1 (at + n1) (first_choice c1) n2 v m h1 st.1.0 l1 small in
      let h3 : At plan a3 (at + n1 + n2 + n3) u3 = op_step plan code o3 u2 a2 (at + n1 + n2) (first_choice c2) h2 (omega arith, omega arith) st.1.1.0 in
      let h4 : At plan a4 (at + n1 + n2 + n3 + n4) u4 = op_step plan code o4 u3 a3 (at + n1 + n2 + n3) (first_choice c3) h3 (omega arith, omega arith) st.1.1.1.0 in
      then_leads plan code P (suc (suc (suc high))) u a a1 at (at + n1) n1 (op_inst o1) cs h st.0 h1 refl
      (then_leads plan code P (suc (suc high)) u1 a1 a2 (at + n1) (at + n1 + n2) n2 i2 c1 h1 st.1.0 h2 refl
      (then_leads plan code P (suc high) u2 a2 a3 (at + n1 + n2) (at + n1 + n2 + n3) n3 (op_inst o3) c2 h2 st.1.1.0 h3 refl
      (then_leads plan code P high u3 a3 a4 (at + n1 + n2 + n3) (at + n1 + n2 + n3 + n4) n4 (op_inst o4) c3 h3 st.1.1.1.0 h4 refl
      (next u4 a4 (at + n1 + n2 + n3 + n4) c4 h4 refl
      (record { stands = record { outer = stands.outer; seen = stands.seen; brk_start = stands.brk_start; brk = stands.brk; regs = back a v stands.regs; df = stands.df; agree = stands.agree; held = held }; df = d13; aim = refl })
      st.1.1.1.1))))
    where
      back : (a : Cells) (v : ℕ) → ((r : ℕ) → r < 8 → a.cell (Reg r) ≡ get_or s.cpu.regs r 0) → (r : ℕ) → r < 8 → put (Reg 0) (a.cell (Reg 0)) (put (Slot 15) v (put (Reg 0) v (put (Slot 16) (a.cell (Reg 0)) a.cell))) (Reg r) ≡ get_or s.cpu.regs r 0
      back a v h zero l = h zero l
      back a v h (suc r) l = rw (ne_eqb (suc r) 0 (λ e. omega (arith, e))) (h (suc r) l)

      held : (f : Flag) → put (Reg 0) (a.cell (Reg 0)) (put (Slot 15) v (put (Reg 0) v (put (Slot 16) (a.cell (Reg 0)) a.cell))) (Slot (number f)) < 2
      held CF = stands.held CF
      held PF = stands.held PF
      held ZF = stands.held ZF
      held SF = stands.held SF
      held OF = stands.held OF

  -- a return address on the stack
  push_leads : (high : ℕ) (s u : State) (a : Cells) (at to v x : ℕ) (rs : List Region) (cs : List ℕ) → IsOf exe s → s.stop ≡ Running → IsOf exe (moved s v (top s) rs) → At plan a at u → Aimed s v a → store (top s) 4 x s.regions ≡ Some rs → Stands dest plan.code at (push_next x ∷ to_turn) to → Leads (Goal (moved s v (top s) rs)) 101 u cs
  push_leads high s u a at to v x rs cs of goes of' h aimed stores st =
      let n = length (canonical (inst.Push (src.Imm x))) in
      let t : top_of plan code a ≡ top s = ap (λ g. wrap (g + 2 ^ 32 - 4)) (aimed.stands.regs 4 (omega arith)) in
      let e : store (top_of plan code a) 4 x a.outer ≡ Some rs = ap (λ t. store t 4 x a.outer) t ∙ ap (store (top s) 4 x) aimed.stands.outer ∙ stores in
      let b = celled (record a { outer = rs }) (Reg 4) (top s) in
      let k : At plan b (at + n) (step u (first_choice cs)) = subst (λ t. At plan (celled (record a { outer = rs }) (Reg 4) t) (at + n) (step u (first_choice cs))) t (push_step plan code u a at (first_choice cs) n x rs h (subst (AllHigh 0x08000000) (sym aimed.stands.outer) of.high.regions) st.0 e) in
      then_leads plan code (Goal (moved s v (top s) rs)) 100 u a b at (at + n) n (inst.Push (src.Imm x)) cs h st.0 k refl
      (to_dispatcher (moved s v (top s) rs) (step u (first_choice cs)) b (at + n) to (drop 1 cs) st.1 of' goes k (moved_aimed s a v (top s) rs of.state.sound.regs.count aimed))

  -- the next state is one of the original's
  is_of : StepsInCode → (s s1 : State) (rs : List Region) → IsOf exe s → step s 0 ≡ s1 → AllHigh 0x08000000 rs → s1.regions ≡ rs → s1.brk_start ≡ s.brk_start → IsOf exe s1
  is_of keeps s s1 rs of e high r b = record { state = subst (IsStateOf exe) e (keeps exe s 0 of.state); high = record { regions = subst (AllHigh 0x08000000) (sym r) high; brk = subst (λ n. 0x08000000 ≤ n) (sym b) of.high.brk } }

  -- the file's guest in place
  begins : (s t : State) (at : ℕ) → IsOf exe s → s.stop ≡ Running → (h : InPlace plan at s t) → At plan (cells_of s h.own h.wider.flags h.wider.marks) at t
  begins s t at of goes h = record { sees = subst (λ t. Sees plan.code t (cells_of s h.own h.wider.flags h.wider.marks)) (sym h.wider.same) (placed_seen plan h.own h.wider.flags h.wider.marks at s of.state.sound.regs h.ready.size h.ready.bytes goes); eip = ap (λ (u : State). u.eip) h.wider.same }

  slot_13 : (s t : State) (at : ℕ) (h : InPlace plan at s t) → (cells_of s h.own h.wider.flags h.wider.marks).cell (Slot 13) ≡ bit s.cpu.df
  slot_13 s t at h = placed_df h.own h.wider.flags h.wider.marks s h.ready.df_word

  call_leads : StepsInCode → (s t : State) (at to n : ℕ) (m : Addr) (cs : List ℕ) → IsOf exe s → s.stop ≡ Running → Went s (inst.CallRm (rm.Mem m)) n → Stands dest plan.code at (aim (rm.Mem m) ++ (push_next (wrap (s.eip + n)) ∷ to_turn)) to → InPlace plan at s t → Leads (Goal (step s 0)) 128 t cs
  call_leads keeps s t at to n m cs of goes went st h =
      let c = calls s m n went in
      let s1 = moved s c.to (top s) c.after in
      let a = cells_of s h.own h.wider.flags h.wider.marks in
      let high = (written_wide 0x08000000 (top s) (bytes_of 4 (wrap (s.eip + n))) [] s.regions c.after tt of.high.regions c.stores).1 in
      let of' = is_of keeps s s1 c.after of c.is high refl refl in
      subst (λ s1. Leads (Goal s1) 128 t cs) (sym c.is)
      (wider (Goal s1) 105 128 t cs (omega arith)
      (aim_memory (Goal s1) 101 s t a at to c.to m (push_next (wrap (s.eip + n)) ∷ to_turn) cs of (begins s t at of goes h) (placed_stands h.own h.wider.flags h.wider.marks s h.wider.agree h.ready.flags) (slot_13 s t at h) st c.loads of'.state.sound.eip
      (λ w b e ds k same aimed rest. push_leads 101 s w b e to c.to (wrap (s.eip + n)) c.after ds of goes of' k aimed c.stores rest)))

  -- more of the stack
  more : (b : Cells) (v e to pop : ℕ) (s u : State) (ds : List ℕ) → length s.cpu.regs ≡ 8 → s.stop ≡ Running → IsOf exe (moved s v (wrap (esp s + 4 + pop)) s.regions) → Aimed s v b → At plan (celled b (Reg 4) (wrap (esp s + 4))) e u → Stands dest plan.code e (pop_more pop ++ to_turn) to → Leads (Goal (moved s v (wrap (esp s + 4 + pop)) s.regions)) 101 u ds
  more b v e to pop s u ds eight goes of1 aimed k st = by (pop == 0) refl st
    where
      end : ℕ
      end = wrap (esp s + 4 + pop)

      none : (g d : ℕ) → d ≡ 0 → wrap (g + 4) ≡ wrap (g + 4 + d)
      none g d e = omega (arith, e)

      twice : (g d : ℕ) → wrap (wrap (g + 4) + d) ≡ wrap (g + 4 + d)
      twice g d = omega arith

      i : Inst
      i = inst.Lea B32 4 (record { base = Some 4; index = None; disp = pop })

      by : (c : Bool) → (pop == 0) ≡ c → Stands dest plan.code e ((if c then [] else (item.Inst (inst.Lea B32 4 (record { base = Some 4; index = None; disp = pop })) ∷ [])) ++ to_turn) to → Leads (Goal (moved s v (wrap (esp s + 4 + pop)) s.regions)) 101 u ds
      by true q st = wider (Goal (moved s v (wrap (esp s + 4 + pop)) s.regions)) 100 101 u ds (omega arith)
          (to_dispatcher (moved s v (wrap (esp s + 4 + pop)) s.regions) u (celled b (Reg 4) (wrap (esp s + 4 + pop))) e to ds st of1 goes (subst (λ g. At plan (celled b (Reg 4) g) e u) (none (esp s) pop (eqb-true pop 0 q)) k) (esp_aimed s b v (wrap (esp s + 4 + pop)) eight aimed))
      by false q st =
          let n = length (canonical (inst.Lea B32 4 (record { base = Some 4; index = None; disp = pop }))) in
          let b1 = celled b (Reg 4) (wrap (esp s + 4)) in
          let b2 = celled b1 (Reg 4) (wrap (esp s + 4 + pop)) in
          let l : At plan (celled b1 (Reg 4) (wrap (wrap (esp s + 4) + pop))) (e + n) (step u (first_choice ds)) = lea_step plan code u b1 e (first_choice ds) n pop k st.0 in
          let k2 : At plan b2 (e + n) (step u (first_choice ds)) = subst (λ g. At plan (celled b1 (Reg 4) g) (e + n) (step u (first_choice ds))) (twice (esp s) pop) l in
          then_leads plan code (Goal (moved s v (wrap (esp s + 4 + pop)) s.regions)) 100 u b1 b2 e (e + n) n (inst.Lea B32 4 (record { base = Some 4; index = None; disp = pop })) ds k st.0 k2 refl
          (to_dispatcher (moved s v (wrap (esp s + 4 + pop)) s.regions) (step u (first_choice ds)) b2 (e + n) to (drop 1 ds) st.1 of1 goes k2 (twice_aimed s b v (wrap (esp s + 4)) (wrap (esp s + 4 + pop)) eight aimed))

  -- the return address to slot 15, and more of the stack
  ret_leads : StepsInCode → (s t : State) (at to pop n : ℕ) (cs : List ℕ) → IsOf exe s → s.stop ≡ Running → Went s (inst.Ret pop) n → Stands dest plan.code at (item.Inst (inst.Pop (rm_of (Slot 15))) ∷ (pop_more pop ++ to_turn)) to → InPlace plan at s t → Leads (Goal (step s 0)) 128 t cs
  ret_leads keeps s t at to pop n cs of goes went st h =
      let r = returns s pop n went in
      let end = wrap (esp s + 4 + pop) in
      let s1 = moved s r.to end s.regions in
      let a = cells_of s h.own h.wider.flags h.wider.marks in
      let k0 = begins s t at of goes h in
      let stands = placed_stands h.own h.wider.flags h.wider.marks s h.wider.agree h.ready.flags in
      let of' = is_of keeps s s1 s.regions of r.is of.high.regions refl refl in
      let size = length (canonical (inst.Pop (rm_of (Slot 15)))) in
      let regs = same_regs plan s t a of.state.sound.regs.count k0.sees stands.regs in
      let e4 : get_or t.cpu.regs 4 0 ≡ esp s = ap (λ r. get_or r 4 0) regs in
      let l : load (get_or t.cpu.regs 4 0) 4 t.regions ≡ Some r.to = ap (λ p. load p 4 t.regions) e4 ∙ loads_wide plan code s t a (esp s) r.to k0.sees stands.outer of.high.regions r.loads in
      let b = celled a (Slot 15) r.to in
      let aimed : Aimed s r.to b = record { stands = put_stands s a 15 r.to (omega arith) stands; df = slot_13 s t at h; aim = refl } in
      let x = first_choice cs in
      let k1 : At plan (celled b (Reg 4) (wrap (a.cell (Reg 4) + 4))) (at + size) (step t x) = pop_step plan code t a at x size 15 r.to k0 (omega arith) of'.state.sound.eip st.0 l in
      let each : a.cell (Reg 4) ≡ esp s = stands.regs 4 (omega arith) in
      subst (λ s1. Leads (Goal s1) 128 t cs) (sym r.is)
      (wider (Goal s1) 102 128 t cs (omega arith)
      (then_leads plan code (Goal s1) 101 t a (celled b (Reg 4) (wrap (a.cell (Reg 4) + 4))) at (at + size) size (inst.Pop (rm_of (Slot 15))) cs k0 st.0 k1 refl
      (more b r.to (at + size) to pop s (step t x) (drop 1 cs) of.state.sound.regs.count goes of' aimed (subst (λ g. At plan (celled b (Reg 4) (wrap (g + 4))) (at + size) (step t x)) each k1) st.1)))

-- an indirect jump
record Jumps (s : State) (m : Addr) : Type 0 where
  pub to : ℕ
  pub loads : load (address_of m s.cpu.regs) 4 s.regions ≡ Some to
  pub is : step s 0 ≡ record s { eip = to }

jumps_mem : (s : State) (m : Addr) (n : ℕ) → Went s (inst.JmpRm (rm.Mem m)) n → Jumps s m
unfolding meaning
jumps_mem s m n w =
    let l = denied_inv (address_of m s.cpu.regs) (load (address_of m s.cpu.regs) 4 s.regions) _ s w.to w.way in
    record { to = l.0; loads = l.1; is = w.is ∙ sym (same_on (record s { eip = l.0 }) w.to l.2) }

gone_aimed : (s : State) (v : ℕ) (a : Cells) → Aimed s v a → Aimed (record s { eip = v }) v a
gone_aimed s v a h = record {
  stands = record { outer = h.stands.outer; seen = h.stands.seen; brk_start = h.stands.brk_start; brk = h.stands.brk; regs = h.stands.regs; df = h.stands.df; agree = h.stands.agree; held = h.stands.held };
  df = h.df;
  aim = h.aim;
}

-- ---- as laws

pub call_to : (exe : Exe) (p : Placed) (s : State) (i : Inst) → IsOf exe s → s.eip ≡ p.at → found_at exe p.at ≡ There p.inst p.size → p.inst ≡ i → found s.eip s.regions ≡ There i p.size
call_to exe p s i of eip there e = of.state.code s.eip ∙ ap (found_at exe) eip ∙ there ∙ ap (λ i. There i p.size) e

pub ends_by_call : StepsInCode → EndsByCallMem
ends_by_call keeps exe plan copies dest p at to s t cs c code of goes fine eip there d st disp h =
    let i = inst.CallRm (rm.Mem c.0) in
    let w = went s i p.size (call_to exe p s i of eip there c.1) goes fine in
    call_leads exe plan copies dest code (ap (λ (d : Dest → ℕ). d (dests.Block 0)) d) disp keeps s t at to p.size c.0 cs of goes w
    (subst (λ e. Stands dest plan.code at (end_by plan copies i (wrap (e + p.size))) to) (sym eip) (subst (λ i. Stands dest plan.code at (end_by plan copies i (wrap (p.at + p.size))) to) c.1 st)) h

pub ends_by_ret : StepsInCode → EndsByRet
ends_by_ret keeps exe plan copies dest p at to s t cs c code of goes fine eip there d st disp h =
    let i = inst.Ret c.0 in
    let w = went s i p.size (call_to exe p s i of eip there c.1) goes fine in
    ret_leads exe plan copies dest code (ap (λ (d : Dest → ℕ). d (dests.Block 0)) d) disp keeps s t at to c.0 p.size cs of goes w
    (subst (λ i. Stands dest plan.code at (end_by plan copies i (wrap (p.at + p.size))) to) c.1 st) h

pub ends_by_jmp_mem : StepsInCode → EndsByJmpMem
ends_by_jmp_mem keeps exe plan copies dest p at to s t cs c code of goes fine eip there d st disp h =
    let i = inst.JmpRm (rm.Mem c.0) in
    let j = jumps_mem s c.0 p.size (went s i p.size (call_to exe p s i of eip there c.1) goes fine) in
    let turn = ap (λ (d : Dest → ℕ). d (dests.Block 0)) d in
    let s1 = record s { eip = j.to } in
    let of1 = is_of exe plan copies dest code turn disp keeps s s1 s.regions of j.is of.high.regions refl refl in
    let a = cells_of s h.own h.wider.flags h.wider.marks in
    let P = λ (u : State). Landed plan copies exe j.to s1 u in
    subst (λ s1. Leads (Landed plan copies exe s1.eip s1) 128 t cs) (sym j.is)
    (wider P 104 128 t cs (omega arith)
    (aim_memory exe plan copies dest code turn disp P 100 s t a at to j.to c.0 to_turn cs of (begins exe plan copies dest code turn disp s t at of goes h) (placed_stands h.own h.wider.flags h.wider.marks s h.wider.agree h.ready.flags) (slot_13 exe plan copies dest code turn disp s t at h) (subst (λ i. Stands dest plan.code at (end_by plan copies i (wrap (p.at + p.size))) to) c.1 st) j.loads of1.state.sound.eip
    (λ w b e ds k same aimed rest. to_dispatcher exe plan copies dest code turn disp s1 w b e to ds rest of1 goes k (gone_aimed s j.to b aimed))))

-- ---- by a register

jumps_reg : (s : State) (r n : ℕ) → Went s (inst.JmpRm (rm.Reg r)) n → step s 0 ≡ record s { eip = get_or s.cpu.regs r 0 }
unfolding meaning
jumps_reg s r n w = w.is ∙ sym (same_on (record s { eip = get_or s.cpu.regs r 0 }) w.to w.way)

record CallsReg (s : State) (r n : ℕ) : Type 0 where
  pub after : List Region
  pub stores : store (top s) 4 (wrap (s.eip + n)) s.regions ≡ Some after
  pub is : step s 0 ≡ moved s (get_or s.cpu.regs r 0) (top s) after

calls_reg : (s : State) (r n : ℕ) → Went s (inst.CallRm (rm.Reg r)) n → CallsReg s r n
unfolding meaning
calls_reg s r n w =
    let d = denied_inv (top s) (store (top s) 4 (wrap (s.eip + n)) s.regions) _ s w.to w.way in
    record { after = d.0; stores = d.1; is = w.is ∙ sym (same_on (moved s (get_or s.cpu.regs r 0) (top s) d.0) w.to d.2) }

-- the target is a register
aim_reg : (plan : Plan) (dest : Dest → ℕ) → IsCode plan.code → (P : State → Type 0) (high : ℕ) (s u : State) (a : Cells) (at to r : ℕ) (rest : List Item) (cs : List ℕ) → r < 8 → At plan a at u → seen.Stands s a → a.cell (Slot 13) ≡ bit s.cpu.df → Stands dest plan.code at (aim (rm.Reg r) ++ rest) to
    → ((w : State) (b : Cells) (e : ℕ) (ds : List ℕ) → At plan b e w → Aimed s (get_or s.cpu.regs r 0) b → Stands dest plan.code e rest to → Leads P high w ds) → Leads P (suc high) u cs
aim_reg plan dest code P high s u a at to r rest cs l h stands d13 st next =
    let o = OMov (Slot 15) (Held (Reg r)) in
    let n = length (canonical (op_inst o)) in
    let b = celled a (Slot 15) (a.cell (Reg r)) in
    let k : At plan b (at + n) (step u (first_choice cs)) = op_step plan code o u a at (first_choice cs) h (omega arith, l) st.0 in
    then_leads plan code P high u a b at (at + n) n (op_inst o) cs h st.0 k refl
    (next (step u (first_choice cs)) b (at + n) (drop 1 cs) k (record { stands = put_stands s a 15 (a.cell (Reg r)) (omega arith) stands; df = d13; aim = stands.regs r l }) st.1)

pub ends_by_jmp_reg : StepsInCode → EndsByJmpReg
ends_by_jmp_reg keeps exe plan copies dest p at to s t cs c code of goes fine eip there d st disp h =
    let r = c.0 in
    let i = inst.JmpRm (rm.Reg r) in
    let v = get_or s.cpu.regs r 0 in
    let is = jumps_reg s r p.size (went s i p.size (call_to exe p s i of eip there c.2) goes fine) in
    let turn = ap (λ (d : Dest → ℕ). d (dests.Block 0)) d in
    let s1 = record s { eip = v } in
    let of1 = is_of exe plan copies dest code turn disp keeps s s1 s.regions of is of.high.regions refl refl in
    let a = cells_of s h.own h.wider.flags h.wider.marks in
    let P = λ (u : State). Landed plan copies exe v s1 u in
    subst (λ s1. Leads (Landed plan copies exe s1.eip s1) 128 t cs) (sym is)
    (wider P 101 128 t cs (omega arith)
    (aim_reg plan dest code P 100 s t a at to r to_turn cs c.1 (begins exe plan copies dest code turn disp s t at of goes h) (placed_stands h.own h.wider.flags h.wider.marks s h.wider.agree h.ready.flags) (slot_13 exe plan copies dest code turn disp s t at h) (subst (λ i. Stands dest plan.code at (end_by plan copies i (wrap (p.at + p.size))) to) c.2 st)
    (λ w b e ds k aimed rest. to_dispatcher exe plan copies dest code turn disp s1 w b e to ds rest of1 goes k (gone_aimed s v b aimed))))

pub ends_by_call_reg : StepsInCode → EndsByCallReg
ends_by_call_reg keeps exe plan copies dest p at to s t cs c code of goes fine eip there d st disp h =
    let r = c.0 in
    let i = inst.CallRm (rm.Reg r) in
    let v = get_or s.cpu.regs r 0 in
    let q = calls_reg s r p.size (went s i p.size (call_to exe p s i of eip there c.2) goes fine) in
    let turn = ap (λ (d : Dest → ℕ). d (dests.Block 0)) d in
    let s1 = moved s v (top s) q.after in
    let next = wrap (s.eip + p.size) in
    let high = (written_wide 0x08000000 (top s) (bytes_of 4 next) [] s.regions q.after tt of.high.regions q.stores).1 in
    let of1 = is_of exe plan copies dest code turn disp keeps s s1 q.after of q.is high refl refl in
    let a = cells_of s h.own h.wider.flags h.wider.marks in
    let P = λ (u : State). Landed plan copies exe v s1 u in
    subst (λ s1. Leads (Landed plan copies exe s1.eip s1) 128 t cs) (sym q.is)
    (wider P 102 128 t cs (omega arith)
    (aim_reg plan dest code P 101 s t a at to r (push_next next ∷ to_turn) cs c.1 (begins exe plan copies dest code turn disp s t at of goes h) (placed_stands h.own h.wider.flags h.wider.marks s h.wider.agree h.ready.flags) (slot_13 exe plan copies dest code turn disp s t at h) (subst (λ e. Stands dest plan.code at (end_by plan copies i (wrap (e + p.size))) to) (sym eip) (subst (λ i. Stands dest plan.code at (end_by plan copies i (wrap (p.at + p.size))) to) c.2 st))
    (λ w b e ds k aimed rest. push_leads exe plan copies dest code turn disp 101 s w b e to v next q.after ds of goes of1 k aimed q.stores rest)))

-- Direct transfers at the end of a copy.
use Rattle.std.proofs.Common.{◌≡◌, ℕ, zero, suc, ◌+◌, ◌-◌, ◌^◌, ◌<◌, ◌≤◌, Bool, true, false, List, [], ◌∷◌, length, drop, get_or, Some, None, if◌then◌else◌, refl, sym, ap, ◌∙◌, subst, arith, inl}
use Rattle.std.proofs.lemmas.Bool.{ne_eqb}
use Rattle.br_word.specs.Memory.{Region, store, bytes_of}
use Rattle.br_word.specs.Words.{bit}
use Rattle.br_word.specs.State.{State, Running}
use Rattle.elf_read.specs.declared.exe.Exe.{Exe}
use Rattle.ia_inst.specs.declared.inst.Inst.TheVariants as inst
use Rattle.ia_inst.specs.declared.inst.Src.TheVariants as src
use Rattle.ia_inst.specs.Canonical.{canonical}
use Rattle.ia_inst.specs.Meaning.{wrap, meaning}
use Rattle.ia_inst.specs.Step.{There, found, step}
use Rattle.ia_encode.specs.declared.item.Dest.{Dest}
use Rattle.ia_encode.specs.declared.item.Dest.TheVariants as dests
use Rattle.ia_encode.specs.declared.item.Item.TheVariants as item
use Rattle.ia_encode.specs.Items.{Stands, Reads, distance}
use Rattle.run_model.specs.Run.{observed, first_choice, run}
use Rattle.par_moves.specs.declared.locations.Place.TheVariants.{Reg, Slot}
use Rattle.par_moves.specs.Homes.{register_homes}
use Rattle.fall_stubs.specs.Exchange.{closing_items}
use Rattle.sim_laws.specs.InCode.{IsStateOf, StepsInCode}
use Rattle.code_laws.specs.Seen.{IsCode, Sees, Cells}
use Rattle.code_laws.proofs.Ops.{celled}
use Rattle.code_laws.proofs.Runs.{step_is, found_is, at_seen, lands}
use Rattle.sim_runs.specs.Relation.{Plan, Ready}
use Rattle.sim_runs.specs.Laws.{Leads, Captured}
use Rattle.sim_runs.specs.Image.{Capturable}
use Rattle.sim_runs.specs.Promised.{IsOf}
use Rattle.piece_laws.specs.Exchange.{HomesMeet, EntersJoined}
use Rattle.cold_laws.specs.Copies.{Copies}
use Rattle.sim_runs.specs.Relation.{InPlace}
use Rattle.cold_laws.specs.InPlace.{Landed, in_block, in_copy, in_original}
use Rattle.cold_code.specs.Copies.{push_next}
use Rattle.cold_laws.specs.Ends.{end_by, part, goes_cold, AreLow, PartsLead, EndsByJmp, EndsByCall}
use Rattle.sim_runs.proofs.Widen.{written_wide}
use Rattle.sim_runs.proofs.Moves.{captured_block}
use Rattle.cold_laws.proofs.Seen as seen
use Rattle.cold_laws.proofs.Seen.{cells_of, placed_stands, placed_seen, placed_df, seen_ready, seen_beside}
use Rattle.cold_laws.proofs.Turns.{Went, went}
use Rattle.cold_laws.proofs.Steps.{At, top_of, then_leads, push_step}
use Rattle.cold_laws.proofs.Leaving.{moved, top, denied_inv, same_on, put_reg, wider, call_to}

pub leads_map : (P Q : State → Type 0) (n : ℕ) (u : State) (cs : List ℕ) → ((w : State) → P w → Q w) → Leads P n u cs → Leads Q n u cs
leads_map P Q n u cs f l = record { steps = l.steps; going = l.going; bound = l.bound; shows = l.shows; inside = l.inside; there = f _ l.there }

module _ (plan : Plan) (code : IsCode plan.code) where
  -- a jump, whatever is seen
  pub jump_is : (u : State) (at to x : ℕ) → u.stop ≡ Running → u.eip ≡ at → found u.eip u.regions ≡ There (inst.Jmp (distance (at + 5) to)) 5 → at + 5 ≤ 2 ^ 32 → to < 2 ^ 32 → step u x ≡ record u { eip = to }
  unfolding meaning
  jump_is u at to x goes eip there low small =
      step_is u (inst.Jmp (distance (at + 5) to)) 5 x goes there ∙ ap (λ e. record u { eip = wrap (e + 5 + distance (at + 5) to) }) eip ∙ ap (λ p. record u { eip = p }) (lands (at + 5) to low small)

  pub jump_leads : (P : State → Type 0) (u : State) (a : Cells) (at to : ℕ) (cs : List ℕ) → At plan a at u → Reads plan.code at (inst.Jmp (distance (at + 5) to)) 5 → to < 2 ^ 32 → P (record u { eip = to }) → Leads P 1 u cs
  jump_leads P u a at to cs h reads small p =
      let b = code.below in
      let l = reads.ends in
      let r = reads.starts in
      let is = jump_is u at to (first_choice cs) h.sees.running h.eip (found_is code u a h.sees (inst.Jmp (distance (at + 5) to)) 5 (subst (λ k. Reads plan.code k (inst.Jmp (distance (at + 5) to)) 5) (sym h.eip) reads)) (omega arith) small in
      record { steps = 1; going = omega arith; bound = omega arith; shows = shows (ap observed is); inside = inside (omega (arith, h.eip)); there = subst P (sym is) p }
    where
      shows : observed (step u (first_choice cs)) ≡ observed u → (j : ℕ) → j ≤ 1 → observed (run j u cs) ≡ observed u
      shows e zero l = refl
      shows e (suc zero) l = e
      shows e (suc (suc j)) l = absurd (omega arith)

      inside : u.eip < 0x07000000 → (j : ℕ) → j < 1 → (run j u cs).eip < 0x07000000
      inside e zero l = e
      inside e (suc j) l = absurd (omega arith)

  -- cells in place are a state in place, wherever it stands
  pub in_place : (s u : State) (a : Cells) (at : ℕ) → length s.cpu.regs ≡ 8 → At plan a at u → seen.Stands s a → a.cell (Slot 13) ≡ bit s.cpu.df → InPlace plan at s u
  in_place s u a at eight h st d = record { own = h.sees.own; ready = seen_ready plan s u a h.sees st d; wider = seen_beside plan at s u a eight h.sees h.eip st }

  module _ (exe : Exe) (copies : Copies) (meet : HomesMeet register_homes plan) (low : AreLow plan copies) (enters : EntersJoined) where
    abbrev Goal : State → State → Type 0
    Goal s u = Landed plan copies exe s.eip s u

    pub part_leads : (dest : Dest → ℕ) (s u : State) (a : Cells) (at to : ℕ) (cs : List ℕ) → ((y : ℕ) → dest (dests.Block y) ≡ goes_cold plan copies y) → ((y : ℕ) → dest (dests.Original y) ≡ y) → IsOf exe s → s.stop ≡ Running → At plan a at u → seen.Stands s a → a.cell (Slot 13) ≡ bit s.cpu.df → Stands dest plan.code at (part plan copies s.eip) to → Leads (Goal s) 32 u cs
    part_leads dest s u a at to cs block original of goes h st d items = by (plan.is_start s.eip) (copies.cold s.eip) refl refl items
      where
        place : InPlace plan at s u
        place = in_place s u a at of.state.sound.regs.count h st d

        jumped : (e : ℕ) → InPlace plan e s (record u { eip = e })
        jumped e = in_place s (record u { eip = e }) a e of.state.sound.regs.count (record { sees = at_seen u a e h.sees; eip = refl }) st d

        by : (b c : Bool) → plan.is_start s.eip ≡ b → copies.cold s.eip ≡ c → Stands dest plan.code at (if b then closing_items register_homes (dests.Block s.eip) else (item.Jump None (if c then dests.Block s.eip else dests.Original s.eip) ∷ [])) to → Leads (Goal s) 32 u cs
        by true c e f items =
            let l = low.start s.eip e in
            let there : dest (dests.Block s.eip) ≡ plan.address s.eip = block s.eip ∙ rw (ne_eqb s.eip 0 l.0, e) refl in
            let regs : u.cpu.regs ≡ s.cpu.regs = ap (λ (u : State). u.cpu.regs) place.wider.same in
            let df : s.cpu.df ≡ u.cpu.df = sym (ap (λ (u : State). u.cpu.df) place.wider.same) in
            let c : Capturable plan s.regions u = record { own = place.own; mem = ap (λ (u : State). u.regions) place.wider.same; ready = subst (Ready place.own) df place.ready; count = h.sees.regs.count; small = λ r l. subst (λ regs. get_or regs r 0 < 2 ^ 32) (sym regs) (of.state.sound.regs.small r); goes = h.sees.running } in
            wider (Goal s) 17 32 u cs (omega arith)
            (leads_map (Captured plan s.eip s.regions u) (Goal s) 17 u cs
            (λ w k. in_block (captured_block plan (IsOf exe) s.eip s u w place.own place.wider.flags place.wider.marks at e of goes refl place.wider.same place.wider.agree k))
            (enters register_homes plan dest meet to s.eip (dests.Block s.eip) u s.regions cs (subst (λ k. Stands dest plan.code k (closing_items register_homes (dests.Block s.eip)) to) (sym h.eip) items) there l.1 c))
        by false true e f items =
            let l = low.cold s.eip f in
            let there : dest (dests.Block s.eip) ≡ copies.place s.eip 0 = block s.eip ∙ rw (ne_eqb s.eip 0 l.0, e) refl in
            wider (Goal s) 1 32 u cs (omega arith)
            (jump_leads (Goal s) u a at (copies.place s.eip 0) cs h (subst (λ k. Reads plan.code at (inst.Jmp (distance (at + 5) k)) 5) there items.0) l.1 (in_copy f (jumped (copies.place s.eip 0))))
        by false false e f items =
            let p = jumped s.eip in
            wider (Goal s) 1 32 u cs (omega arith)
            (jump_leads (Goal s) u a at s.eip cs h (subst (λ k. Reads plan.code at (inst.Jmp (distance (at + 5) k)) 5) (original s.eip) items.0) of.state.sound.eip (in_original (inl (e, f)) p.own p.ready.size p.wider))

    pub begins : (s t : State) (at : ℕ) → IsOf exe s → s.stop ≡ Running → (h : InPlace plan at s t) → At plan (cells_of s h.own h.wider.flags h.wider.marks) at t
    begins s t at of goes h = record { sees = subst (λ t. Sees plan.code t (cells_of s h.own h.wider.flags h.wider.marks)) (sym h.wider.same) (placed_seen plan h.own h.wider.flags h.wider.marks at s of.state.sound.regs h.ready.size h.ready.bytes goes); eip = ap (λ (u : State). u.eip) h.wider.same }

    pub stands_in : (s t : State) (at : ℕ) (h : InPlace plan at s t) → seen.Stands s (cells_of s h.own h.wider.flags h.wider.marks)
    stands_in s t at h = placed_stands h.own h.wider.flags h.wider.marks s h.wider.agree h.ready.flags

    pub df_in : (s t : State) (at : ℕ) (h : InPlace plan at s t) → (cells_of s h.own h.wider.flags h.wider.marks).cell (Slot 13) ≡ bit s.cpu.df
    df_in s t at h = placed_df h.own h.wider.flags h.wider.marks s h.ready.df_word

pub parts_lead : EntersJoined → PartsLead
parts_lead enters exe plan copies dest at to s t cs code meet low of goes block original st h =
    part_leads plan code exe copies meet low enters dest s t (cells_of s h.own h.wider.flags h.wider.marks) at to cs block original of goes (begins plan code exe copies meet low enters s t at of goes h) (stands_in plan code exe copies meet low enters s t at h) (df_in plan code exe copies meet low enters s t at h) st

-- ---- a direct jump and a direct call

jumps : (s : State) (rel n : ℕ) → Went s (inst.Jmp rel) n → step s 0 ≡ record s { eip = wrap (s.eip + n + rel) }
unfolding meaning
jumps s rel n w = w.is ∙ sym (same_on (record s { eip = wrap (s.eip + n + rel) }) w.to w.way)

twice : (g d : ℕ) → wrap (wrap g + d) ≡ wrap (g + d)
twice g d = omega arith

pub ends_by_jmp : EntersJoined → StepsInCode → EndsByJmp
ends_by_jmp enters keeps exe plan copies dest p at to rel s t cs ei code meet low of goes fine eip there d st h =
    let w = went s (inst.Jmp rel) p.size (call_to exe p s (inst.Jmp rel) of eip there ei) goes fine in
    let is = jumps s rel p.size w in
    let y = wrap (s.eip + p.size + rel) in
    let s1 = record s { eip = y } in
    let of1 : IsOf exe s1 = record { state = subst (IsStateOf exe) is (keeps exe s 0 of.state); high = record { regions = of.high.regions; brk = of.high.brk } } in
    let st1 : Stands dest plan.code at (part plan copies (wrap (wrap (p.at + p.size) + rel))) to = subst (λ i. Stands dest plan.code at (end_by plan copies i (wrap (p.at + p.size))) to) ei st in
    let e : wrap (wrap (p.at + p.size) + rel) ≡ y = twice (p.at + p.size) rel ∙ ap (λ e. wrap (e + p.size + rel)) (sym eip) in
    let in1 : InPlace plan at s1 t = record { own = h.own; ready = h.ready; wider = record { flags = h.wider.flags; marks = h.wider.marks; agree = h.wider.agree; same = h.wider.same } } in
    subst (λ s1. Leads (Landed plan copies exe s1.eip s1) 128 t cs) (sym is)
    (wider (Landed plan copies exe y s1) 32 128 t cs (omega arith)
    (parts_lead enters exe plan copies dest at to s1 t cs code meet low of1 goes (λ y. ap (λ (d : Dest → ℕ). d (dests.Block y)) d) (λ y. ap (λ (d : Dest → ℕ). d (dests.Original y)) d) (subst (λ y. Stands dest plan.code at (part plan copies y) to) e st1) in1))

record Pushes (s : State) (y n : ℕ) : Type 0 where
  pub after : List Region
  pub stores : store (top s) 4 (wrap (s.eip + n)) s.regions ≡ Some after
  pub is : step s 0 ≡ moved s y (top s) after

pushes : (s : State) (rel n : ℕ) → Went s (inst.Call rel) n → Pushes s (wrap (s.eip + n + rel)) n
unfolding meaning
pushes s rel n w =
    let r = denied_inv (top s) (store (top s) 4 (wrap (s.eip + n)) s.regions) _ s w.to w.way in
    record { after = r.0; stores = r.1; is = w.is ∙ sym (same_on (moved s (wrap (s.eip + n + rel)) (top s) r.0) w.to r.2) }

pub ends_by_call_rel : EntersJoined → StepsInCode → EndsByCall
ends_by_call_rel enters keeps exe plan copies dest p at to rel s t cs ei code meet low of goes fine eip there d st h =
    let w = went s (inst.Call rel) p.size (call_to exe p s (inst.Call rel) of eip there ei) goes fine in
    let y = wrap (s.eip + p.size + rel) in
    let r = pushes s rel p.size w in
    let s1 = moved s y (top s) r.after in
    let next = wrap (s.eip + p.size) in
    let high = (written_wide 0x08000000 (top s) (bytes_of 4 next) [] s.regions r.after tt of.high.regions r.stores).1 in
    let of1 : IsOf exe s1 = record { state = subst (IsStateOf exe) r.is (keeps exe s 0 of.state); high = record { regions = high; brk = of.high.brk } } in
    let st0 : Stands dest plan.code at (push_next (wrap (p.at + p.size)) ∷ part plan copies (wrap (wrap (p.at + p.size) + rel))) to = subst (λ i. Stands dest plan.code at (end_by plan copies i (wrap (p.at + p.size))) to) ei st in
    let st1 : Stands dest plan.code at (push_next next ∷ part plan copies (wrap (next + rel))) to = subst (λ e. Stands dest plan.code at (push_next (wrap (e + p.size)) ∷ part plan copies (wrap (wrap (e + p.size) + rel))) to) (sym eip) st0 in
    let st2 : Stands dest plan.code at (push_next next ∷ part plan copies y) to = subst (λ y. Stands dest plan.code at (push_next next ∷ part plan copies y) to) (twice (s.eip + p.size) rel) st1 in
    let a = cells_of s h.own h.wider.flags h.wider.marks in
    let b = celled (record a { outer = r.after }) (Reg 4) (top s) in
    let stands = placed_stands h.own h.wider.flags h.wider.marks s h.wider.agree h.ready.flags in
    let k0 = begins plan code exe copies meet low enters s t at of goes h in
    let n = length (canonical (inst.Push (src.Imm next))) in
    let e : top_of plan code a ≡ top s = ap (λ g. wrap (g + 2 ^ 32 - 4)) (stands.regs 4 (omega arith)) in
    let x = first_choice cs in
    let k : At plan b (at + n) (step t x) = subst (λ g. At plan (celled (record a { outer = r.after }) (Reg 4) g) (at + n) (step t x)) e (push_step plan code t a at x n next r.after k0 of.high.regions st2.0 (ap (λ g. store g 4 next s.regions) e ∙ r.stores)) in
    let stands1 : seen.Stands s1 b = record { outer = refl; seen = stands.seen; brk_start = stands.brk_start; brk = stands.brk; regs = put_reg s.cpu.regs a.cell 4 (top s) of.state.sound.regs.count (omega arith) stands.regs; df = stands.df; agree = stands.agree; held = stands.held } in
    subst (λ s1. Leads (Landed plan copies exe s1.eip s1) 128 t cs) (sym r.is)
    (wider (Landed plan copies exe y s1) 33 128 t cs (omega arith)
    (then_leads plan code (Landed plan copies exe y s1) 32 t a b at (at + n) n (inst.Push (src.Imm next)) cs k0 st2.0 k refl
    (part_leads plan code exe copies meet low enters dest s1 (step t x) b (at + n) to (drop 1 cs) (λ y. ap (λ (d : Dest → ℕ). d (dests.Block y)) d) (λ y. ap (λ (d : Dest → ℕ). d (dests.Original y)) d) of1 goes k stands1 (df_in plan code exe copies meet low enters s t at h) st2.1)))

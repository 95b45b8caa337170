-- The dispatcher, from a state in place to where it leads on.
use Rattle.std.proofs.Common.{◌≡◌, ◌≢◌, ℕ, suc, ◌+◌, ◌*◌, ◌^◌, ◌<◌, ◌||◌, List, [], ◌∷◌, ◌++◌, length, drop, get_or, None, All, refl, sym, ap, ◌∙◌, subst, arith}
use Rattle.std.specs.List.Sorted.{IsStrictlyIncreasing}
use Rattle.br_word.specs.declared.types.Flags.{Flags}
use Rattle.br_word.specs.State.{State, Running}
use Rattle.elf_read.specs.declared.exe.Exe.{Exe}
use Rattle.ia_inst.specs.declared.inst.Inst.TheVariants as inst
use Rattle.ia_inst.specs.Canonical.{canonical}
use Rattle.ia_inst.specs.Step.{step}
use Rattle.ia_encode.specs.declared.item.Dest.{Dest}
use Rattle.ia_encode.specs.declared.item.Dest.TheVariants as dests
use Rattle.ia_encode.specs.declared.item.Item.{Item}
use Rattle.ia_encode.specs.declared.item.Item.TheVariants as item
use Rattle.ia_encode.specs.Items.{Stands, Reads, distance, size_of_items, dest_at}
use Rattle.run_model.specs.Run.{first_choice}
use Rattle.block_cut.specs.Transfers.{is_among}
use Rattle.par_moves.specs.declared.locations.Place.TheVariants.{Reg, Slot}
use Rattle.par_moves.specs.declared.locations.MoveSource.TheVariants.{Place as Held}
use Rattle.par_moves.specs.Locations.{rm_of}
use Rattle.par_moves.specs.Homes.{register_homes, AreHomes}
use Rattle.fall_stubs.specs.Exchange.{reg_from_slot, capture_items, restore_items}
use Rattle.sim_laws.specs.Wider.{Agree}
use Rattle.code_laws.specs.Seen.{IsCode, Sees, Cells, word}
use Rattle.code_laws.specs.Exchange.{FlagsHeld, Captured}
use Rattle.code_laws.specs.Laws.{Comes, ExchangeKeeps, JumpsLead}
use Rattle.code_laws.proofs.Ops.{OMov, celled, inst as op_inst}
use Rattle.code_laws.proofs.Keeps.{stands_parts}
use Rattle.code_laws.proofs.Runs.{at_seen}
use Rattle.piece_laws.specs.Exchange.{HomesMeet}
use Rattle.sim_runs.specs.Relation.{Plan, InPlace}
use Rattle.sim_runs.specs.Laws.{Leads}
use Rattle.sim_runs.specs.Promised.{IsOf}
use Rattle.cold_laws.specs.Copies.{Copies}
use Rattle.cold_laws.specs.InPlace.{Landed}
use Rattle.cold_laws.specs.Ends.{goes_cold, AreLow, to_turn}
use Rattle.cold_code.specs.Dispatcher.{tree}
use Rattle.cold_laws.specs.Dispatcher.{hits, dispatcher_of, DispatcherRuns}
use Rattle.cold_laws.proofs.Seen.{cells_of, placed_seen, placed_stands, placed_df, placed_slot}
use Rattle.cold_laws.proofs.Steps.{At, then_leads, op_step}
use Rattle.cold_laws.proofs.Leaving.{wider}
use Rattle.cold_laws.proofs.Parts.{jump_leads}
use Rattle.cold_laws.proofs.Tree.{through, tree_leads, whole_part, rises, is_member, no_member}
use Rattle.cold_laws.proofs.Hits.{leads_on, quiet_leads, Holds, captured_holds, holds_compared, holds_eax, flags_held, HitAt, hit_at, hit_low, hit_leads, miss_leads}

abbrev Exchanges : Type 0
Exchanges = (code : _) (homes : _) (dest : Dest → ℕ) → IsCode code → AreHomes homes → (s : State) (a : Cells) (cs : List ℕ) → Sees code s a → FlagsHeld a → ExchangeKeeps code homes dest s a cs

abbrev Jumps : Type 0
Jumps = (code : _) (dest : Dest → ℕ) → IsCode code → JumpsLead code dest

module _ (keeps : Exchanges) (jumps : Jumps) (exe : Exe) (plan : Plan) (copies : Copies) (code : IsCode plan.code) (meet : HomesMeet register_homes plan) (low : AreLow plan copies)
    (s : State) (of : IsOf exe s) (goes : s.stop ≡ Running) where
  abbrev Goal : State → Type 0
  Goal u = Landed plan copies exe s.eip s u

  -- a capture, whose flags are those before it
  abbrev Caught : Flags → ℕ → State → Type 0
  Caught fl at u = (b : Cells) × At plan b at u × Holds s fl b

  module _ (fl : Flags) (agree : Agree s.cpu.marks fl s.cpu.flags) (x : ℕ) (xs : List ℕ) (dest : Dest → ℕ) (to : ℕ)
      (up : IsStrictlyIncreasing (x ∷ xs)) (fit : All (λ v. v < 2 ^ 32) (x ∷ xs)) (few : length (x ∷ xs) < 2 ^ 18)
      (just : (v : ℕ) → is_among (x ∷ xs) v ≡ (plan.is_start v || copies.cold v))
      (block : (y : ℕ) → dest (dests.Block y) ≡ goes_cold plan copies y)
      (st : Stands dest plan.code copies.turn (dispatcher_of plan.is_start (x ∷ xs)) to) where
    abbrev n : ℕ
    n = suc (length xs)

    abbrev first : ℕ
    first = copies.turn + length (canonical (reg_from_slot 0 15))

    abbrev Of_tree : List Item
    Of_tree = tree n (x ∷ xs) 0 (1 + n) (2 + n)

    abbrev Of_hits : List Item
    Of_hits = hits plan.is_start (x ∷ xs) 0 (2 + 2 * n)

    abbrev Of_miss : List Item
    Of_miss = restore_items (2 + 3 * n) ++ (item.Inst (inst.JmpRm (rm_of (Slot 15))) ∷ [])

    abbrev behind_tree : ℕ
    behind_tree = first + size_of_items Of_tree

    abbrev behind_hits : ℕ
    behind_hits = behind_tree + size_of_items Of_hits

    tree_parts : Stands dest plan.code first Of_tree behind_tree × Stands dest plan.code behind_tree (Of_hits ++ (item.Label (1 + n) ∷ Of_miss)) to
    tree_parts = stands_parts dest plan.code first Of_tree (Of_hits ++ (item.Label (1 + n) ∷ Of_miss)) to st.1

    hit_parts : Stands dest plan.code behind_tree Of_hits behind_hits × Stands dest plan.code behind_hits (item.Label (1 + n) ∷ Of_miss) to
    hit_parts = stands_parts dest plan.code behind_tree Of_hits (item.Label (1 + n) ∷ Of_miss) to tree_parts.1

    miss_stands : Stands dest plan.code (dest (dests.Label (1 + n))) Of_miss to
    miss_stands = subst (λ a. Stands dest plan.code a Of_miss to) hit_parts.1.0 hit_parts.1.1

    miss_low : dest (dests.Label (1 + n)) < 2 ^ 32
    miss_low = let a = miss_stands.0.starts in let b = code.below in omega arith

    met : (j : ℕ) → j < length (x ∷ xs) → HitAt dest plan (get_or (x ∷ xs) j 0) (1 + j)
    met j b = let z : 1 + (0 + j) ≡ 1 + j = omega arith in subst (λ i. HitAt dest plan (get_or (x ∷ xs) j 0) i) z (hit_at dest plan (x ∷ xs) 0 (2 + 2 * n) behind_tree behind_hits hit_parts.0 j b)

    exchange : (s : State) (a : Cells) (cs : List ℕ) → Sees plan.code s a → FlagsHeld a → ExchangeKeeps plan.code register_homes dest s a cs
    exchange s a cs h f = keeps plan.code register_homes dest code meet.are s a cs h f

    -- eax holds the target
    abbrev Aims : Cells → Type 0
    Aims b = Holds s fl b × (b.cell (Reg 0) ≡ s.eip)

    searches : (u : State) (b : Cells) (cs : List ℕ) → Aims b → At plan b first u → Leads Goal (through 18 29) u cs
    searches u b cs k h =
        tree_leads plan code dest Goal Aims (x ∷ xs) s.eip (1 + n) 29 (rises (x ∷ xs) up)
        (λ b v c k. (holds_compared s fl b v c k.0, k.1))
        (λ b k. k.1)
        of.state.sound.eip
        (λ j b. let m = met j b in hit_low dest plan (get_or (x ∷ xs) j 0) m.label (dest (dests.Label (1 + j))) m.to (plan.is_start (get_or (x ∷ xs) j 0)) code m.stands)
        miss_low
        (λ j b e w c ds k h.
        let m = subst (λ v. HitAt dest plan v (1 + j)) e (met j b) in
        hit_leads exe plan copies code meet low dest exchange (jumps plan.code dest code) block s fl agree of goes m.label (dest (dests.Label (1 + j))) m.to w c ds (sym (just s.eip) ∙ is_member (x ∷ xs) s.eip j b e) k.0 h m.stands)
        (λ none w c ds k h.
        miss_leads exe plan copies code meet low dest exchange (jumps plan.code dest code) block s fl agree of goes (2 + 3 * n) (dest (dests.Label (1 + n))) to w c ds (sym (just s.eip) ∙ no_member (x ∷ xs) s.eip none) k.0 h miss_stands)
        n 18 0 (2 + n) (x ∷ xs) u b first behind_tree cs (omega arith) (omega arith) (omega (arith, few)) fit (whole_part (x ∷ xs) s.eip) k h tree_parts.0

    -- from the dispatcher's first instruction
    pub turns : (u : State) (b : Cells) (cs : List ℕ) → Holds s fl b → At plan b copies.turn u → Leads Goal (suc (through 18 29)) u cs
    turns u b cs k h =
        let o = OMov (Reg 0) (Held (Slot 15)) in
        let c = celled b (Reg 0) (b.cell (Slot 15)) in
        let h1 : At plan c first (step u (first_choice cs)) = op_step plan code o u b copies.turn (first_choice cs) h (omega arith, omega arith) st.0 in
        then_leads plan code Goal (through 18 29) u b c copies.turn first (length (canonical (op_inst o))) (op_inst o) cs h st.0 h1 refl
        (searches (step u (first_choice cs)) c (drop 1 cs) (holds_eax s fl b (b.cell (Slot 15)) k, k.aim) h1)

    pub turn_low : copies.turn < 2 ^ 32
    turn_low = let a = st.0.starts in let b = code.below in omega arith

  -- the capture, and the jump behind it
  pub comes : (dest : Dest → ℕ) (at to : ℕ) (t : State) (cs : List ℕ) → Stands dest plan.code at to_turn to → dest (dests.Block 0) ≡ copies.turn → copies.turn < 2 ^ 32 → (h : InPlace plan at s t) → word h.own 15 ≡ s.eip → Leads (Caught h.wider.flags copies.turn) 17 t cs
  comes dest at to t cs st turn small h aim =
      let fl = h.wider.flags in
      let a = cells_of s h.own fl h.wider.marks in
      let eip : t.eip ≡ at = ap (λ (u : State). u.eip) h.wider.same in
      let sees : Sees plan.code t a = subst (λ t. Sees plan.code t a) (sym h.wider.same) (placed_seen plan h.own fl h.wider.marks at s of.state.sound.regs h.ready.size h.ready.bytes goes) in
      let stands = placed_stands h.own fl h.wider.marks s h.wider.agree h.ready.flags in
      let d = placed_df h.own fl h.wider.marks s h.ready.df_word in
      let f15 = placed_slot h.own fl h.wider.marks s 15 s.eip aim in
      let mid = at + size_of_items (capture_items register_homes) in
      let p = stands_parts dest plan.code at (capture_items register_homes) (item.Jump None (dests.Block 0) ∷ []) to st in
      let reads = subst (λ k. Reads plan.code mid (inst.Jmp (distance (mid + 5) k)) 5) turn p.1.0 in
      leads_on (Comes plan.code mid (Captured register_homes a)) (Caught fl copies.turn) 16 1 t cs
      (quiet_leads a.seen (Comes plan.code mid (Captured register_homes a)) 16 16 t cs sees.seen (λ w c. c.sees.seen ∙ c.holds.besides.seen) (omega arith) (omega arith)
      ((keeps plan.code register_homes dest code meet.are t a cs sees (flags_held s a stands d)).capture mid (subst (λ e. Stands dest plan.code e (capture_items register_homes) mid) (sym eip) p.0)))
      (λ w ds c.
      let k = captured_holds s a c.cells stands d f15 c.holds in
      let h0 : At plan c.cells mid w = record { sees = c.sees; eip = c.eip } in
      jump_leads plan code (Caught fl copies.turn) w c.cells mid copies.turn ds h0 reads small (c.cells, record { sees = at_seen w c.cells copies.turn c.sees; eip = refl }, k))

pub dispatcher_runs : Exchanges → Jumps → DispatcherRuns
dispatcher_runs keeps jumps exe plan copies l to code meet low some up fit few just st dest at to' s t cs st' turn of goes h aim = by l some up fit few just st
  where
    by : (l : List ℕ) → l ≢ [] → IsStrictlyIncreasing l → All (λ x. x < 2 ^ 32) l → length l < 2 ^ 18 → ((x : ℕ) → is_among l x ≡ (plan.is_start x || copies.cold x))
        → Stands (dest_at (goes_cold plan copies) copies.turn (dispatcher_of plan.is_start l)) plan.code copies.turn (dispatcher_of plan.is_start l) to → Leads (Landed plan copies exe s.eip s) 100 t cs
    by [] some up fit few just st = absurd (some refl)
    by (x ∷ xs) some up fit few just st =
        let D = dest_at (goes_cold plan copies) copies.turn (dispatcher_of plan.is_start (x ∷ xs)) in
        let small = turn_low keeps jumps exe plan copies code meet low s of goes h.wider.flags h.wider.agree x xs D to up fit few just (λ y. refl) st in
        wider (Landed plan copies exe s.eip s) 86 100 t cs (omega arith)
        (leads_on (Caught keeps jumps exe plan copies code meet low s of goes h.wider.flags copies.turn) (Landed plan copies exe s.eip s) 17 69 t cs
        (comes keeps jumps exe plan copies code meet low s of goes dest at to' t cs st' turn small h aim)
        (λ u ds c. turns keeps jumps exe plan copies code meet low s of goes h.wider.flags h.wider.agree x xs D to up fit few just (λ y. refl) st u c.0 ds c.2 c.1))

-- Conditions, and indirect exits.
use Rattle.std.proofs.Common.{◌≡◌, ℕ, ◌+◌, ◌^◌, ◌<◌, Bool, true, false, List, [], ◌∷◌, ◌++◌, map, length, get_or, Some, refl, sym, ap, ◌∙◌, subst, arith, ◌⊎◌, inl, inr}
use Rattle.std.specs.Prelude.{nat_eq, not, if◌then◌else◌}
use Rattle.std.proofs.lemmas.Bool.{ne_eqb}
use Rattle.br_word.specs.Memory.{HoldBytes}
use Rattle.br_word.specs.State.{State}
use Rattle.br_word.specs.declared.types.Width.TheVariants.{B32}
use Rattle.ia_inst.specs.declared.inst.Inst.TheVariants.{Alu, JmpRm}
use Rattle.ia_inst.specs.declared.inst.Src.TheVariants as src
use Rattle.ia_inst.specs.Canonical.{canonical}
use Rattle.run_model.specs.Run.{observed}
use Rattle.par_moves.specs.declared.locations.Place.{Place}
use Rattle.par_moves.specs.declared.locations.Place.TheVariants.{Reg, Slot}
use Rattle.par_moves.specs.declared.locations.MoveSource.TheVariants.{Place as InPlace}
use Rattle.par_moves.specs.Locations.{same_place, IsKept, IsFit, held, rm_of}
use Rattle.par_moves.specs.Homes.{home_of}
use Rattle.ssa_form.specs.declared.form.Val.{Val}
use Rattle.ssa_form.specs.Agree.{AreBits}
use Rattle.ssa_form.specs.Value.{Env, AllAllowed, fold, value, outs_of}
use Rattle.emit_ops.specs.Templates.{eax, load_reg, test_all, keep}
use Rattle.ia_encode.specs.declared.item.Dest.{Dest}
use Rattle.ia_encode.specs.declared.item.Dest.TheVariants.{Label as ToLabel}
use Rattle.ia_encode.specs.declared.item.Item.{Item}
use Rattle.ia_encode.specs.declared.item.Item.TheVariants.{Inst as Put, Jump}
use Rattle.ia_encode.specs.Items.{size_of_items, jump_inst, distance, Reads, StandsAt}
use Rattle.code_laws.specs.Seen.{Cells, Sees}
use Rattle.code_laws.specs.Exchange.{Besides}
use Rattle.code_laws.specs.Moves.{AreOuts}
use Rattle.code_laws.specs.Laws.{Comes, Gave, Tested, IsOperand}
use Rattle.code_laws.proofs.Runs.{at_seen}
use Rattle.block_make.specs.declared.fragment.TheConstants.{JUMP_SLOT}
use Rattle.block_make.specs.Choices.{Choice, place_in}
use Rattle.block_make.specs.FragmentItems.{source_in, regain_items, aim_items, way_stub_items}
use Rattle.sim_runs.specs.Relation.{Plan}
use Rattle.sim_runs.specs.Coding.{Exits}
use Rattle.sim_runs.specs.Recovered.{Coded}
use Rattle.sim_runs.specs.Passes.{Gets, StandsFrom, Passes, count_of}
use Rattle.sim_runs.specs.Pieces.{Held, Aimed, Returned}
use Rattle.sim_runs.proofs.Pass.{gets_then, gets_map, stands_cut, count_cut}
use Rattle.piece_laws.specs.Choices.{coding_of, Suits}
use Rattle.piece_laws.proofs.Served.{sunk_of, Ready}
use Rattle.piece_laws.proofs.Steps.{Below, gets_of, puts_stand}
use Rattle.piece_laws.proofs.Stub.{IsEnd, end_value, regain_gets, sunk_holds, returned}

module _ (c : Coded) (below : Below c.code) (homes : (v : ℕ) → c.home v ≡ home_of v) (exits : Exits) (choice : Choice) (ready : Ready choice exits) (suits : Suits choice) (are : AreOuts (length choice.block.lines) choice.block.outs) (dest : Dest → ℕ) (env : Env) (a : Cells) (params : (v : ℕ) → env.params v ≡ a.cell (c.home v)) where
  abbrev At : ℕ → State → Type 0
  At at u = Held c (coding_of choice) env a at u

  -- what changes no home and no place keeps what the body holds
  still_at : (at to : ℕ) (u t : State) (h : At at u) (b : Cells) → Sees c.code t b → t.eip ≡ to → ((v : ℕ) → v < 14 → b.cell (home_of v) ≡ h.cells.cell (home_of v)) → ((j : ℕ) → j < length choice.block.lines → b.cell (place_in choice j) ≡ h.cells.cell (place_in choice j)) → Besides h.cells b → At to t
  still_at at to u t h b s e keeps lines besides = record {
    cells = b;
    sees = s;
    eip = e;
    homes = λ v l. ap b.cell (homes v) ∙ keeps v l ∙ ap h.cells.cell (sym (homes v)) ∙ h.homes v l;
    lines = λ j on n. let m = ready.body_named j on n in lines j m.0 ∙ h.lines j on n;
    outer = besides.outer ∙ h.outer;
    high = h.high;
    stays = record { shows = besides.seen ∙ h.stays.shows; brk_start = besides.brk_start ∙ h.stays.brk_start; brk = besides.brk ∙ h.stays.brk };
  }

  -- nor does what changes no kept place
  still : (at to : ℕ) (u t : State) (h : At at u) (b : Cells) → Sees c.code t b → t.eip ≡ to → ((q : Place) → IsKept q → b.cell q ≡ h.cells.cell q) → Besides h.cells b → At to t
  still at to u t h b s e kept besides = still_at at to u t h b s e (λ v l. kept (home_of v) (ready.laid.homes v l)) (λ j l. kept (place_in choice j) (ready.laid.places j l)) besides

  value_is : (at : ℕ) (u : State) (h : At at u) (x : Val) → IsEnd choice x → held h.cells.cell (source_in choice x) ≡ value env x
  value_is at u h x i = end_value c below homes exits choice ready suits are dest env a params at u h x i

  turned : (z : Bool) (x y : ℕ) → (if z then x else y) ≡ (if not z then y else x)
  turned true x y = refl
  turned false x y = refl

  pub ask_gets : (x : Val) (other : ℕ) → dest (ToLabel other) < 2 ^ 32 → IsEnd choice x → IsOperand (source_in choice x) → (at : ℕ) (u : State) (cs : List ℕ) → StandsFrom dest c.code at ((Put (load_reg 0 (source_in choice x)) ∷ Put test_all ∷ []) ++ (Jump (Some 5) (ToLabel other) ∷ [])) → At at u →
      Gets (At (if not (nat_eq (value env x) 0) then dest (ToLabel other) else at + size_of_items (Put (load_reg 0 (source_in choice x)) ∷ Put test_all ∷ []) + 6)) 0 3 u cs
  ask_gets x other low i op at u cs s h =
      let is = load_reg 0 (source_in choice x) ∷ test_all ∷ [] in
      let js = Jump (Some 5) (ToLabel other) ∷ [] in
      let b = h.cells in
      let v = held b.cell (source_in choice x) in
      let d = stands_cut dest c.code (map Put is) js at s in
      let to = at + size_of_items (map Put is) in
      let P = Comes c.code to (Tested b v (nat_eq v 0)) in
      let Q = At (if not (nat_eq (value env x) 0) then dest (ToLabel other) else to + 6) in
      gets_then P Q 0 0 2 1 u cs
      (gets_of b.seen P 0 2 2 u cs h.sees.seen (λ t q. q.sees.seen ∙ q.holds.besides.seen) (omega arith) (omega arith)
      ((below.tests u b to cs h.sees).test (source_in choice x) op (subst (λ p. StandsAt c.code p is to) (sym h.eip) (puts_stand dest c.code is at to d.0))))
      (λ t ds q.
      let g = if q.cells.flags.zf then t.eip + 6 else dest (ToLabel other) in
      let w = q.holds.zf ∙ ap (λ n. nat_eq n 0) (value_is at u h x i) in
      let e : g ≡ (if not (nat_eq (value env x) 0) then dest (ToLabel other) else to + 6) = ap (λ z. if z then t.eip + 6 else dest (ToLabel other)) w ∙ ap (λ p. if nat_eq (value env x) 0 then p + 6 else dest (ToLabel other)) q.eip ∙ turned (nat_eq (value env x) 0) (to + 6) (dest (ToLabel other)) in
      gets_map (λ r. r ≡ record t { eip = g }) Q 0 0 1 1 t ds (omega arith) (omega arith)
      (λ r f. subst Q (sym f) (still at _ u (record t { eip = g }) h q.cells (at_seen t q.cells g q.sees) e q.holds.others q.holds.besides))
      (gets_of q.cells.seen (λ r. r ≡ record t { eip = g }) 0 1 1 t ds q.sees.seen (λ r f. ap observed f ∙ q.sees.seen) (omega arith) (omega arith)
      ((below.jumps dest).nonzero t q.cells (ToLabel other) ds q.sees low (subst (λ p. Reads c.code p (jump_inst (Some 5) (distance (p + 6) (dest (ToLabel other)))) 6) (sym q.eip) d.1.0))))

  pub aim_gets : (x : Val) → IsEnd choice x → IsFit (source_in choice x) → (at : ℕ) (u : State) (cs : List ℕ) → StandsFrom dest c.code at (aim_items choice x) → At at u →
      Gets (Aimed c (coding_of choice) env a (value env x) (at + size_of_items (aim_items choice x))) 0 (count_of (aim_items choice x)) u cs
  aim_gets x i fit at u cs s h =
      let is = load_reg 0 (source_in choice x) ∷ [] in
      let b = h.cells in
      let v = held b.cell (source_in choice x) in
      let to = at + size_of_items (map Put is) in
      let P = Comes c.code to (Gave b (Reg 0) v) in
      let Q = Aimed c (coding_of choice) env a (value env x) to in
      gets_map P Q 0 0 1 1 u cs (omega arith) (omega arith)
      (λ t q. record { held = still at to u t h q.cells q.sees q.eip (λ p kp. q.holds.others p kp kp.not_eax) q.holds.besides; eax = q.sees.regs.each 0 (omega arith) ∙ q.holds.value ∙ value_is at u h x i })
      (gets_of b.seen P 0 1 1 u cs h.sees.seen (λ t q. q.sees.seen ∙ q.holds.besides.seen) (omega arith) (omega arith)
      ((below.template u b to cs h.sees).move (Reg 0) (source_in choice x) (omega arith) fit (subst (λ p. StandsAt c.code p is to) (sym h.eip) (puts_stand dest c.code is at to s))))

  pub compare_gets : (target y label at : ℕ) (u : State) (cs : List ℕ) → dest (ToLabel label) < 2 ^ 32 → y < 2 ^ 32 → StandsFrom dest c.code at (Put (Alu 7 B32 eax (src.Imm y)) ∷ Jump (Some 4) (ToLabel label) ∷ []) → Aimed c (coding_of choice) env a target at u →
      Gets (λ w. ((nat_eq target y ≡ true) × At (dest (ToLabel label)) w) ⊎ ((nat_eq target y ≡ false) × Aimed c (coding_of choice) env a target (at + length (canonical (Alu 7 B32 eax (src.Imm y))) + 6) w)) 0 2 u cs
  compare_gets target y label at u cs low small s m =
      let h = m.held in
      let b = h.cells in
      let i = Alu 7 B32 eax (src.Imm y) in
      let to = at + length (canonical i) in
      let v = h.cells.cell (Reg 0) in
      let P = Comes c.code to (Tested b v (nat_eq v y)) in
      let Q = λ (w : State). ((nat_eq target y ≡ true) × At (dest (ToLabel label)) w) ⊎ ((nat_eq target y ≡ false) × Aimed c (coding_of choice) env a target (to + 6) w) in
      let is_v : v ≡ target = sym (h.sees.regs.each 0 (omega arith)) ∙ m.eax in
      gets_then P Q 0 0 1 1 u cs
      (gets_of b.seen P 0 1 1 u cs h.sees.seen (λ t q. q.sees.seen ∙ q.holds.besides.seen) (omega arith) (omega arith)
      ((below.tests u b to cs h.sees).compare y small (subst (λ p. StandsAt c.code p (i ∷ []) to) (sym h.eip) (s.0, refl))))
      (λ t ds q.
      let g = if q.cells.flags.zf then dest (ToLabel label) else t.eip + 6 in
      let w = q.holds.zf ∙ ap (λ n. nat_eq n y) is_v in
      let e : g ≡ (if nat_eq target y then dest (ToLabel label) else to + 6) = ap (λ z. if z then dest (ToLabel label) else t.eip + 6) w ∙ ap (λ p. if nat_eq target y then dest (ToLabel label) else p + 6) q.eip in
      gets_map (λ r. r ≡ record t { eip = g }) Q 0 0 1 1 t ds (omega arith) (omega arith)
      (λ r f. subst Q (sym f) (met target y (dest (ToLabel label)) (to + 6) (record t { eip = g }) (nat_eq target y) refl
      (still at _ u (record t { eip = g }) h q.cells (at_seen t q.cells g q.sees) e q.holds.others q.holds.besides)
      (q.sees.regs.each 0 (omega arith) ∙ q.holds.eax ∙ is_v)))
      (gets_of q.cells.seen (λ r. r ≡ record t { eip = g }) 0 1 1 t ds q.sees.seen (λ r f. ap observed f ∙ q.sees.seen) (omega arith) (omega arith)
      ((below.jumps dest).zero t q.cells (ToLabel label) ds q.sees low (subst (λ p. Reads c.code p (jump_inst (Some 4) (distance (p + 6) (dest (ToLabel label)))) 6) (sym q.eip) s.1.0))))
    where
      met : (target y to past : ℕ) (w : State) (z : Bool) → nat_eq target y ≡ z → Held c (coding_of choice) env a (if z then to else past) w → get_or w.cpu.regs 0 0 ≡ target → ((nat_eq target y ≡ true) × Held c (coding_of choice) env a to w) ⊎ ((nat_eq target y ≡ false) × Aimed c (coding_of choice) env a target past w)
      met target y to past w true e h r = inl (e, h)
      met target y to past w false e h r = inr (e, record { held = h; eax = r })

  -- ---- the side exit of an indirect exit
  module _ (unknown : exits.unknown ≡ true) (bytes : HoldBytes env.mem) (allowed : AllAllowed (sunk_of choice) env) (bits : AreBits (outs_of choice.block.outs (fold (sunk_of choice) env))) (plan : Plan) (same_code : c.code ≡ plan.code) where
    abbrev Out : ℕ → State → Type 0
    Out target = Returned plan target (outs_of choice.block.outs (fold (sunk_of choice) env)) (fold (sunk_of choice) env).mem a

    abbrev behind : List Item
    behind = regain_items choice 0 ++ (Put (JmpRm (rm_of (Slot JUMP_SLOT))) ∷ [])

    -- from where eax holds the target
    kept_passes : (target : ℕ) → Passes dest c.code (Put (keep (Slot JUMP_SLOT)) ∷ behind) (Aimed c (coding_of choice) env a target) (Out target)
    unfolding still_at
    kept_passes target at u cs s m =
        let h = m.held in
        let b = h.cells in
        let is = keep (Slot JUMP_SLOT) ∷ [] in
        let mid = regain_items choice 0 in
        let jump = JmpRm (rm_of (Slot JUMP_SLOT)) in
        let js = Put jump ∷ [] in
        let one = at + size_of_items (map Put is) in
        let two = one + size_of_items mid in
        let d = stands_cut dest c.code (map Put is) (mid ++ js) at s in
        let f = stands_cut dest c.code mid js one d.1 in
        let n = count_cut dest c.code mid js in
        let v = h.cells.cell (Reg 0) in
        let is_v : v ≡ target = sym (h.sees.regs.each 0 (omega arith)) ∙ m.eax in
        let P = Comes c.code one (Gave b (Slot JUMP_SLOT) v) in
        let Q = Out target in
        gets_map Q Q 1 1 (1 + (count_of mid + 1)) _ u cs (omega arith) (omega (arith, n)) (λ t g. g)
        (gets_then P Q 0 1 1 (count_of mid + 1) u cs
        (gets_of b.seen P 0 1 1 u cs h.sees.seen (λ t q. q.sees.seen ∙ q.holds.besides.seen) (omega arith) (omega arith)
        ((below.template u b one cs h.sees).move (Slot JUMP_SLOT) (InPlace (Reg 0)) (omega arith) (omega arith) (subst (λ p. StandsAt c.code p is one) (sym h.eip) (puts_stand dest c.code is at one d.0))))
        (λ t ds q.
        let held_on : At one t = still_at at one u t h q.cells q.sees q.eip (λ v l. q.holds.others (home_of v) (ready.laid.homes v l) (below.homes.slots v JUMP_SLOT l (omega arith))) (λ j l. q.holds.others (place_in choice j) (ready.laid.places j l) (turn (place_in choice j) (suits.clear j l))) q.holds.besides in
        gets_then _ Q 0 1 (count_of mid) 1 t ds
        (regain_gets c below homes exits choice ready suits are dest env unknown bytes allowed bits 0 held_on.cells one t ds f.0 held_on.sees held_on.eip (sunk_holds c below homes exits choice ready suits are dest env unknown bytes allowed bits a one t params held_on))
        (λ w es g.
        let to = g.cells.cell (Slot JUMP_SLOT) in
        let same : held_on.cells.cell (Slot JUMP_SLOT) ≡ v = q.holds.value in
        let is_to : to ≡ target = g.holds.spared ∙ same ∙ is_v in
        gets_map (λ r. r ≡ record w { eip = to }) Q 1 1 1 1 w es (omega arith) (omega arith)
        (λ r e. subst Q (sym e) (returned c below homes exits choice ready suits are dest env unknown bytes allowed bits plan same_code a held_on.cells two target w held_on.stays.shows held_on.stays.brk_start held_on.stays.brk g to is_to))
        (gets_of g.cells.seen (λ r. r ≡ record w { eip = to }) 1 1 1 w es g.sees.seen (λ r e. ap observed e ∙ g.sees.seen) (omega arith) (omega arith)
        ((below.jumps dest).by_slot w g.cells JUMP_SLOT es g.sees (omega arith) (subst (λ p. Reads c.code p jump (length (canonical jump))) (sym g.eip) f.1.0))))))
      where
        turn : (p : Place) → same_place (Slot JUMP_SLOT) p ≡ false → same_place p (Slot JUMP_SLOT) ≡ false
        turn (Reg r) h = refl
        turn (Slot k) h = ne_eqb k JUMP_SLOT (λ e. absurd (let g : true ≡ false = ap (λ n. nat_eq JUMP_SLOT n) (sym e) ∙ h in cc))

    -- the target is loaded again before it is kept
    pub way_stub_passes : (x : Val) → IsEnd choice x → IsFit (source_in choice x) → Passes dest c.code (way_stub_items choice x) (Aimed c (coding_of choice) env a (value env x)) (Out (value env x))
    way_stub_passes x i fit at u cs s m =
        let js = Put (keep (Slot JUMP_SLOT)) ∷ behind in
        let d = stands_cut dest c.code (aim_items choice x) js at s in
        gets_then _ (Out (value env x)) 0 1 1 (count_of js) u cs (aim_gets x i fit at u cs d.0 m.held)
        (λ t ds q. kept_passes (value env x) (at + size_of_items (aim_items choice x)) t ds d.1 q)

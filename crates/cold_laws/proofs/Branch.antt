-- A conditional jump at the end of a copy.
use Rattle.std.proofs.Common.{◌≡◌, ℕ, ◌+◌, ◌/◌, ◌%◌, ◌^◌, ◌<◌, Bool, true, false, not, ◌||◌, List, [], ◌∷◌, drop, None, if◌then◌else◌, refl, sym, ap, ◌∙◌, subst, arith}
use Rattle.std.specs.Prelude.{◌==◌}
use Rattle.br_word.specs.declared.types.Flags.{Flags}
use Rattle.br_word.specs.Memory.{Region}
use Rattle.br_word.specs.Flags.{differ}
use Rattle.br_word.specs.State.{State, Processor, Running, Flag, CF, PF, ZF, SF, OF, flag_of}
use Rattle.ia_inst.specs.declared.inst.Inst.{Inst}
use Rattle.ia_inst.specs.declared.inst.Inst.TheVariants as inst
use Rattle.ia_inst.specs.Act.{Act, Ends, Past, To, perform, asked}
use Rattle.ia_inst.specs.Meaning.{wrap, meaning, even_condition, condition, no_changes}
use Rattle.ia_inst.specs.Step.{There, found, step, next_eip, result_of, settled, AllMarked, asked_at}
use Rattle.ia_encode.specs.declared.item.Dest.{Dest}
use Rattle.ia_encode.specs.declared.item.Dest.TheVariants as dests
use Rattle.ia_encode.specs.declared.item.Item.TheVariants as item
use Rattle.ia_encode.specs.Items.{Stands, Reads, distance, size_of_items}
use Rattle.run_model.specs.Run.{first_choice}
use Rattle.par_moves.specs.Homes.{register_homes}
use Rattle.fall_stubs.specs.Exchange.{closing_items}
use Rattle.sim_laws.specs.InCode.{IsStateOf, StepsInCode}
use Rattle.sim_laws.specs.Wider.{Agree}
use Rattle.code_laws.specs.Seen.{IsCode, Sees, Cells}
use Rattle.code_laws.proofs.Keeps.{stands_parts}
use Rattle.code_laws.proofs.Runs.{step_is, found_is, at_seen, lands}
use Rattle.sim_runs.specs.Relation.{Plan}
use Rattle.sim_runs.specs.Laws.{Leads}
use Rattle.sim_runs.specs.Promised.{IsOf}
use Rattle.piece_laws.specs.Exchange.{EntersJoined}
use Rattle.cold_laws.specs.Copies.{Copies}
use Rattle.cold_laws.specs.InPlace.{Landed}
use Rattle.cold_laws.specs.Ends.{end_by, part, EndsByJcc}
use Rattle.sim_runs.proofs.Widen.{agree_at}
use Rattle.cold_laws.proofs.Seen.{cells_of}
use Rattle.cold_laws.proofs.Steps.{At, then_leads}
use Rattle.cold_laws.proofs.Leaving.{wider, call_to}
use Rattle.cold_laws.proofs.Parts.{begins, stands_in, df_in, part_leads}

-- ---- what a condition comes to

abbrev pub even_value : ℕ → Flags → Bool
even_value c f =
    if c == 0 then f.of else
    if c == 1 then f.cf else
    if c == 2 then f.zf else
    if c == 3 then f.cf || f.zf else
    if c == 4 then f.sf else
    if c == 5 then f.pf else
    if c == 6 then differ f.sf f.of else
    f.zf || differ f.sf f.of

abbrev pub value : ℕ → Flags → Bool
value c f = if c % 2 == 1 then not (even_value (c / 2) f) else even_value (c / 2) f

module _ (x : ℕ) (u : Processor) (rs : List Region) where
  pick : (go : Bool → Act) (b : Bool) (p q : Act) (v w : Bool) → perform p x u rs ≡ perform (go v) x u rs → perform q x u rs ≡ perform (go w) x u rs → perform (if b then p else q) x u rs ≡ perform (go (if b then v else w)) x u rs
  pick go true p q v w e f = e
  pick go false p q v w e f = f

  even_is : (c : ℕ) (go : Bool → Act) → perform (even_condition c go) x u rs ≡ perform (go (even_value c u.flags)) x u rs
  even_is c go =
      pick go (c == 0) _ _ _ _ refl
      (pick go (c == 1) _ _ _ _ refl
      (pick go (c == 2) _ _ _ _ refl
      (pick go (c == 3) _ _ _ _ refl
      (pick go (c == 4) _ _ _ _ refl
      (pick go (c == 5) _ _ _ _ refl
      (pick go (c == 6) _ _ _ _ refl refl))))))

  condition_is : (c : ℕ) (go : Bool → Act) → perform (condition c go) x u rs ≡ perform (go (value c u.flags)) x u rs
  condition_is c go = even_is (c / 2) (λ b. go (if c % 2 == 1 then not b else b))

-- it is the same with other flags that are not defined
module _ (marks fl f : Flags) (g : Agree marks fl f) (rs : List Region) where
  same_pick : (b : Bool) (p q : Act) (v w v' w' : Bool) → (AllMarked marks (asked p f rs) → v ≡ v') → (AllMarked marks (asked q f rs) → w ≡ w') → AllMarked marks (asked (if b then p else q) f rs) → (if b then v else w) ≡ (if b then v' else w')
  same_pick true p q v w v' w' e h m = e m
  same_pick false p q v w v' w' e h m = h m

  at_flag : (h : Flag) → flag_of h marks ≡ true → flag_of h fl ≡ flag_of h f
  at_flag h m = agree_at marks fl f g h m

  even_same : (c : ℕ) (go : Bool → Act) → AllMarked marks (asked (even_condition c go) f rs) → even_value c fl ≡ even_value c f
  even_same c go =
      same_pick (c == 0) _ _ _ _ _ _ (λ m. at_flag OF m.0)
      (same_pick (c == 1) _ _ _ _ _ _ (λ m. at_flag CF m.0)
      (same_pick (c == 2) _ _ _ _ _ _ (λ m. at_flag ZF m.0)
      (same_pick (c == 3) _ _ _ _ _ _ (λ m. ap (λ a. a || fl.zf) (at_flag CF m.0) ∙ ap (λ b. f.cf || b) (at_flag ZF m.1.0))
      (same_pick (c == 4) _ _ _ _ _ _ (λ m. at_flag SF m.0)
      (same_pick (c == 5) _ _ _ _ _ _ (λ m. at_flag PF m.0)
      (same_pick (c == 6) _ _ _ _ _ _ (λ m. ap (λ a. differ a fl.of) (at_flag SF m.0) ∙ ap (λ b. differ f.sf b) (at_flag OF m.1.0))
      (λ m. ap (λ z. z || differ fl.sf fl.of) (at_flag ZF m.0) ∙ ap (λ a. f.zf || differ a fl.of) (at_flag SF m.1.0) ∙ ap (λ b. f.zf || differ f.sf b) (at_flag OF m.1.1.0))))))))

  value_same : (c : ℕ) (go : Bool → Act) → AllMarked marks (asked (condition c go) f rs) → value c fl ≡ value c f
  value_same c go m = ap (λ v. if c % 2 == 1 then not v else v) (even_same (c / 2) (λ b. go (if c % 2 == 1 then not b else b)) m)

-- ---- the jump

pub branch : (s : State) (c rel n x : ℕ) → s.stop ≡ Running → found s.eip s.regions ≡ There (inst.Jcc c rel) n → step s x ≡ record s { eip = next_eip (if value c s.cpu.flags then To (wrap (s.eip + n + rel)) else Past n) s.eip }
unfolding meaning
branch s c rel n x goes there =
    step_is s (inst.Jcc c rel) n x goes there ∙ ap (λ d. settled (result_of d s) s) (condition_is x s.cpu s.regions c (λ b. Ends s.cpu.regs s.cpu.df no_changes (if b then To (wrap (s.eip + n + rel)) else Past n)))

marked_in : (s : State) (c rel n : ℕ) (fl : Flags) → Agree s.cpu.marks fl s.cpu.flags → found s.eip s.regions ≡ There (inst.Jcc c rel) n → AllMarked s.cpu.marks (asked_at (found s.eip s.regions) s) → value c fl ≡ value c s.cpu.flags
unfolding meaning
marked_in s c rel n fl g there m =
    value_same s.cpu.marks fl s.cpu.flags g s.regions c (λ b. Ends s.cpu.regs s.cpu.df no_changes (if b then To (wrap (s.eip + n + rel)) else Past n)) (subst (λ f. AllMarked s.cpu.marks (asked_at f s)) there m)

-- a part begins in the code
part_low : (plan : Plan) (copies : Copies) (dest : Dest → ℕ) (y at to : ℕ) → IsCode plan.code → Stands dest plan.code at (part plan copies y) to → at < 2 ^ 32
part_low plan copies dest y at to code st = by (plan.is_start y) st
  where
    low : (i : Inst) (n : ℕ) → Reads plan.code at i n → at < 2 ^ 32
    low i n r = let a = r.starts in let b = code.below in omega arith

    by : (b : Bool) → Stands dest plan.code at (if b then closing_items register_homes (dests.Block y) else (item.Jump None (if copies.cold y then dests.Block y else dests.Original y) ∷ [])) to → at < 2 ^ 32
    by true st = low _ _ st.0
    by false st = low _ _ st.0

twice : (g d : ℕ) → wrap (wrap g + d) ≡ wrap (g + d)
twice g d = omega arith

pub ends_by_jcc : EntersJoined → StepsInCode → EndsByJcc
ends_by_jcc enters keeps exe plan copies dest p at to c rel s t cs ei code meet low of goes fine eip there d st h = by (value c s.cpu.flags) refl
  where
    here : found s.eip s.regions ≡ There (inst.Jcc c rel) p.size
    here = call_to exe p s (inst.Jcc c rel) of eip there ei

    next : ℕ
    next = wrap (s.eip + p.size)

    -- where the part of the address behind it ends
    mid : ℕ
    mid = at + 6 + size_of_items (part plan copies next)

    items : Stands dest plan.code at (end_by plan copies (inst.Jcc c rel) next) to
    items = subst (λ e. Stands dest plan.code at (end_by plan copies (inst.Jcc c rel) (wrap (e + p.size))) to) (sym eip) (subst (λ i. Stands dest plan.code at (end_by plan copies i (wrap (p.at + p.size))) to) ei st)

    parts : Stands dest plan.code (at + 6) (part plan copies next) mid × Stands dest plan.code mid (item.Label 1 ∷ part plan copies (wrap (next + rel))) to
    parts = stands_parts dest plan.code (at + 6) (part plan copies next) (item.Label 1 ∷ part plan copies (wrap (next + rel))) to items.1

    a : Cells
    a = cells_of s h.own h.wider.flags h.wider.marks

    k0 : At plan a at t
    k0 = begins plan code exe copies meet low enters s t at of goes h

    x : ℕ
    x = first_choice cs

    found_t : found t.eip t.regions ≡ There (inst.Jcc c (distance (at + 6) (dest (dests.Label 1)))) 6
    found_t = found_is code t a k0.sees (inst.Jcc c (distance (at + 6) (dest (dests.Label 1)))) 6 (subst (λ k. Reads plan.code k (inst.Jcc c (distance (at + 6) (dest (dests.Label 1)))) 6) (sym k0.eip) items.0)

    same : value c t.cpu.flags ≡ value c s.cpu.flags
    same = ap (value c) k0.sees.flags ∙ marked_in s c rel p.size h.wider.flags h.wider.agree here (fine.marked goes)

    lead : (v : Bool) (y e f : ℕ) → value c s.cpu.flags ≡ v → next_eip (if v then To (wrap (s.eip + p.size + rel)) else Past p.size) s.eip ≡ y → next_eip (if v then To (wrap (t.eip + 6 + distance (at + 6) (dest (dests.Label 1)))) else Past 6) t.eip ≡ e → Stands dest plan.code e (part plan copies y) f → Leads (Landed plan copies exe (step s 0).eip (step s 0)) 128 t cs
    lead v y e f is ey ee items' =
        let s1 = record s { eip = y } in
        let es : step s 0 ≡ s1 = branch s c rel p.size 0 goes here ∙ ap (λ v. record s { eip = next_eip (if v then To (wrap (s.eip + p.size + rel)) else Past p.size) s.eip }) is ∙ ap (λ y. record s { eip = y }) ey in
        let et : step t x ≡ record t { eip = e } = branch t c (distance (at + 6) (dest (dests.Label 1))) 6 x k0.sees.running found_t ∙ ap (λ v. record t { eip = next_eip (if v then To (wrap (t.eip + 6 + distance (at + 6) (dest (dests.Label 1)))) else Past 6) t.eip }) (same ∙ is) ∙ ap (λ e. record t { eip = e }) ee in
        let of1 : IsOf exe s1 = record { state = subst (IsStateOf exe) es (keeps exe s 0 of.state); high = record { regions = of.high.regions; brk = of.high.brk } } in
        let k1 : At plan a e (step t x) = record { sees = subst (λ u. Sees plan.code u a) (sym et) (at_seen t a e k0.sees); eip = ap (λ (u : State). u.eip) et } in
        let st = stands_in plan code exe copies meet low enters s t at h in
        subst (λ s1. Leads (Landed plan copies exe s1.eip s1) 128 t cs) (sym es)
        (wider (Landed plan copies exe y s1) 33 128 t cs (omega arith)
        (then_leads plan code (Landed plan copies exe y s1) 32 t a a at e 6 (inst.Jcc c (distance (at + 6) (dest (dests.Label 1)))) cs k0 items.0 k1 refl
        (part_leads plan code exe copies meet low enters dest s1 (step t x) a e f (drop 1 cs) (λ y. ap (λ (d : Dest → ℕ). d (dests.Block y)) d) (λ y. ap (λ (d : Dest → ℕ). d (dests.Original y)) d) of1 goes k1 (record { outer = st.outer; seen = st.seen; brk_start = st.brk_start; brk = st.brk; regs = st.regs; df = st.df; agree = st.agree; held = st.held }) (df_in plan code exe copies meet low enters s t at h) items')))

    by : (v : Bool) → value c s.cpu.flags ≡ v → Leads (Landed plan copies exe (step s 0).eip (step s 0)) 128 t cs
    by true is =
        let b = code.below in
        let l = items.0.ends in
        let label : mid ≡ dest (dests.Label 1) = parts.1.0 in
        let low' = part_low plan copies dest (wrap (next + rel)) mid to code parts.1.1 in
        lead true (wrap (s.eip + p.size + rel)) (dest (dests.Label 1)) to is refl
        (ap (λ e. wrap (e + 6 + distance (at + 6) (dest (dests.Label 1)))) k0.eip ∙ lands (at + 6) (dest (dests.Label 1)) (omega arith) (omega (arith, label, low')))
        (subst (λ y. Stands dest plan.code (dest (dests.Label 1)) (part plan copies y) to) (twice (s.eip + p.size) rel) (subst (λ m. Stands dest plan.code m (part plan copies (wrap (next + rel))) to) label parts.1.1))
    by false is =
        let b = code.below in
        let l = items.0.ends in
        lead false next (at + 6) mid is refl (omega (arith, k0.eip)) parts.0

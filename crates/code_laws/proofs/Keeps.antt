-- The exchange of state, where the items of the sequences stand.
use Rattle.std.proofs.Common.{◌≡◌, ℕ, zero, suc, ◌+◌, ◌^◌, ◌<◌, true, false, List, [], ◌∷◌, ◌++◌, map, length, drop, Some, None, refl, sym, ap, ◌∙◌, subst, arith, inl, inr, ◌⊎◌}
use Rattle.std.specs.Prelude.{◌==◌}
use Rattle.br_word.specs.Memory.{Region}
use Rattle.br_word.specs.State.{State}
use Rattle.br_word.specs.Words.{bit}
use Rattle.ia_inst.specs.declared.inst.Inst.{Inst}
use Rattle.ia_inst.specs.declared.inst.Inst.TheVariants.{Std, Jcc, Jmp}
use Rattle.ia_inst.specs.Canonical.{canonical}
use Rattle.par_moves.specs.declared.locations.Place.TheVariants.{Slot}
use Rattle.ia_encode.specs.declared.item.Dest.{Dest}
use Rattle.ia_encode.specs.declared.item.Dest.TheVariants.{Label as ToLabel}
use Rattle.ia_encode.specs.declared.item.Item.{Item}
use Rattle.ia_encode.specs.declared.item.Item.TheVariants.{Inst as Put, Byte, Jump, Label}
use Rattle.ia_encode.specs.Items.{Reads, StandsAt, Stands, size_of_items, size_of_jump, distance}
use Rattle.code_laws.specs.Exchange.{Homes, FlagsHeld, Besides, Captured, Restored, Opened}
use Rattle.par_moves.specs.Homes.{AreHomes}
use Rattle.fall_stubs.specs.Exchange.{capture_code, spill_code, restore_start, restore_rest, restore_items, opening_items, closing_items}
use Rattle.code_laws.specs.Seen.{Cells, IsCode, Sees, Leads, Quiet}
use Rattle.code_laws.specs.Laws.{Comes, own_start, ExchangeKeeps}
use Rattle.code_laws.proofs.Ops.{OStd, inst, acts}
use Rattle.code_laws.proofs.Runs.{leads_as, leads_then, leads_none, at_seen, Done, runs, stands_front, jz_taken, jz_past, jmp_then}
use Rattle.code_laws.proofs.Exchange.{capture_ops, fetch_ops, spill_ops, start_ops, rest_ops, capture_is, spill_is, capture_fits, fetch_fits, spill_fits, start_fits, std_fits, rest_fits, captures, high_slot, Spilled, spills, started, restores}

-- ---- lists of items

module _ (dest : Dest → ℕ) (code : Region) where
  pub stands_cut : (at : ℕ) (is : List Inst) (js : List Item) (to : ℕ) → Stands dest code at (map Put is ++ js) to → (mid : ℕ) × StandsAt code at is mid × Stands dest code mid js to
  stands_cut at [] js to h = (at, refl, h)
  stands_cut at (i ∷ is) js to h =
      let r = stands_cut (at + length (canonical i)) is js to h.1 in
      (r.0, (h.0, r.1), r.2)

  pub stands_puts : (at : ℕ) (is : List Inst) (to : ℕ) → Stands dest code at (map Put is) to → StandsAt code at is to
  stands_puts at [] to h = h
  stands_puts at (i ∷ is) to h = (h.0, stands_puts (at + length (canonical i)) is to h.1)

  -- two parts, one behind the other
  abbrev Parts : ℕ → List Item → List Item → ℕ → ℕ → Type 0
  Parts at is js mid to = Stands dest code at is mid × Stands dest code mid js to

  parts_on : (at n m : ℕ) (is js : List Item) (to : ℕ) → Parts (at + n) is js (at + n + m) to → Parts (at + n) is js (at + (n + m)) to
  parts_on at n m is js to h = let e : at + n + m ≡ at + (n + m) = omega arith in subst (λ p. Parts (at + n) is js p to) e h

  pub stands_parts : (at : ℕ) (is js : List Item) (to : ℕ) → Stands dest code at (is ++ js) to → Stands dest code at is (at + size_of_items is) × Stands dest code (at + size_of_items is) js to
  stands_parts at [] js to h = let e : at ≡ at + 0 = omega arith in (e, subst (λ p. Stands dest code p js to) e h)
  stands_parts at (Put i ∷ is) js to h =
      let r = parts_on at (length (canonical i)) (size_of_items is) is js to (stands_parts (at + length (canonical i)) is js to h.1) in
      ((h.0, r.0), r.1)
  stands_parts at (Byte b ∷ is) js to h =
      let r = parts_on at 1 (size_of_items is) is js to (stands_parts (at + 1) is js to h.1) in
      ((h.0, r.0), r.1)
  stands_parts at (Jump cond d ∷ is) js to h =
      let r = parts_on at (size_of_jump cond) (size_of_items is) is js to (stands_parts (at + size_of_jump cond) is js to h.1) in
      ((h.0, r.0), r.1)
  stands_parts at (Label l ∷ is) js to h =
      let r = stands_parts at is js to h.1 in
      let e : at + size_of_items is ≡ at + (0 + size_of_items is) = omega arith in
      let q = subst (λ p. Parts at is js p to) e r in
      ((h.0, q.0), q.1)

size_of_bytes : (bytes : List ℕ) → size_of_items (map Byte bytes) ≡ length bytes
size_of_bytes [] = refl
size_of_bytes (b ∷ bs) = let e = size_of_bytes bs in omega arith

-- ---- the sequences

zero_or_one : (d : ℕ) → d < 2 → (d ≡ 0) ⊎ (d ≡ 1)
zero_or_one zero h = inl refl
zero_or_one (suc zero) h = inr refl
zero_or_one (suc (suc d)) h = absurd (omega arith)

module _ {code : Region} (here : IsCode code) where
  pub capture_leads : (homes : Homes) → AreHomes homes → (s : State) (a : Cells) (to : ℕ) (cs : List ℕ) → Sees code s a → FlagsHeld a → StandsAt code s.eip (capture_code homes) to → Leads (Quiet a.seen) (Comes code to (Captured homes a)) (13 + length homes) s cs
  capture_leads homes hs s a to cs h f st =
      let st' = subst (λ is. StandsAt code s.eip is to) (sym (capture_is homes)) st in
      let c = stands_front code s.eip (map inst capture_ops) (map inst (fetch_ops homes)) to st' in
      leads_then (Quiet a.seen) (Done code capture_ops s a c.0) (Comes code to (Captured homes a)) 13 (length homes) s cs
      (runs here capture_ops s a c.0 cs h capture_fits c.1)
      (λ t ds d.
      subst (λ n. Leads (Quiet a.seen) (Comes code to (Captured homes a)) n t ds) (fetches homes)
      (leads_as a.seen a.seen (Done code (fetch_ops homes) t (acts capture_ops a d.choices) to) (Comes code to (Captured homes a)) (length (fetch_ops homes)) t ds refl
      (λ u e. record { cells = acts (fetch_ops homes) (acts capture_ops a d.choices) e.choices; sees = e.sees; eip = e.eip; holds = captures homes a d.choices e.choices hs f })
      (runs here (fetch_ops homes) t (acts capture_ops a d.choices) to ds d.sees (fetch_fits homes hs) (subst (λ p. StandsAt code p (map inst (fetch_ops homes)) to) (sym d.eip) c.2))))
    where
      fetches : (homes : Homes) → length (fetch_ops homes) ≡ length homes
      fetches [] = refl
      fetches (p ∷ ps) = ap suc (fetches ps)

  -- the last part of RESTORE, where DF is set
  rest_leads : (s : State) (a d : Cells) (to : ℕ) (cs : List ℕ) → Sees code s d → FlagsHeld a → ((k : ℕ) → d.cell (Slot k) ≡ a.cell (Slot k)) → bit d.df ≡ a.cell (Slot 13) → Besides a d → StandsAt code s.eip restore_rest to → Leads (Quiet a.seen) (Comes code to (Restored a)) 23 s cs
  rest_leads s a d to cs h f same df besides st =
      leads_as d.seen a.seen (Done code rest_ops s d to) (Comes code to (Restored a)) 23 s cs besides.seen
      (λ t q. record { cells = acts rest_ops d q.choices; sees = q.sees; eip = q.eip; holds = restores a d q.choices f same df besides })
      (runs here rest_ops s d to cs h rest_fits st)

  -- from the jump over STD on
  test_leads : (s : State) (a d : Cells) (m to : ℕ) (cs : List ℕ) → Sees code s d → FlagsHeld a → ((k : ℕ) → d.cell (Slot k) ≡ a.cell (Slot k)) → d.df ≡ false → Besides a d → d.flags.zf ≡ (a.cell (Slot 13) == 0) →
      Reads code s.eip (Jcc 4 (distance (s.eip + 6) m)) 6 → StandsAt code (s.eip + 6) (Std ∷ []) m → StandsAt code m restore_rest to →
      ((a.cell (Slot 13) ≡ 0) ⊎ (a.cell (Slot 13) ≡ 1)) → Leads (Quiet a.seen) (Comes code to (Restored a)) (24 + a.cell (Slot 13)) s cs
  test_leads s a d m to cs h f same df besides zf r std st (inl e) =
      let b = here.below in
      let l = st.0.starts in
      let z = zf ∙ ap (λ v. v == 0) e in
      let back = λ (n : ℕ) (t : State) (ds : List ℕ). leads_as a.seen d.seen (Comes code to (Restored a)) (Comes code to (Restored a)) n t ds (sym besides.seen) (λ u q. q) in
      subst (λ n. Leads (Quiet a.seen) (Comes code to (Restored a)) (24 + n) s cs) (sym e)
      (leads_as d.seen a.seen (Comes code to (Restored a)) (Comes code to (Restored a)) 24 s cs besides.seen (λ t q. q)
      (jz_taken here s d m 23 cs (Comes code to (Restored a)) h (omega arith) r z
      (back 23 (record s { eip = m }) (drop 1 cs) (rest_leads (record s { eip = m }) a d to (drop 1 cs) (at_seen s d m h) f same (ap bit df ∙ sym e) besides st))))
  test_leads s a d m to cs h f same df besides zf r std st (inr e) =
      let z = zf ∙ ap (λ v. v == 0) e in
      let back = λ (n : ℕ) (t : State) (ds : List ℕ). leads_as a.seen d.seen (Comes code to (Restored a)) (Comes code to (Restored a)) n t ds (sym besides.seen) (λ u q. q) in
      let past = record s { eip = s.eip + 6 } in
      subst (λ n. Leads (Quiet a.seen) (Comes code to (Restored a)) (24 + n) s cs) (sym e)
      (leads_as d.seen a.seen (Comes code to (Restored a)) (Comes code to (Restored a)) 25 s cs besides.seen (λ t q. q)
      (jz_past here s d m 24 cs (Comes code to (Restored a)) h r z
      (leads_then (Quiet d.seen) (Done code (OStd ∷ []) past d m) (Comes code to (Restored a)) 1 23 past (drop 1 cs)
      (runs here (OStd ∷ []) past d m (drop 1 cs) (at_seen s d (s.eip + 6) h) std_fits std)
      (λ t ds q. back 23 t ds (rest_leads t a (record d { df = true }) to ds q.sees f same (sym e) (record { outer = besides.outer; seen = besides.seen; brk_start = besides.brk_start; brk = besides.brk }) (subst (λ p. StandsAt code p restore_rest to) (sym q.eip) st))))))

  pub restore_leads : (dest : Dest → ℕ) (s : State) (a : Cells) (label to : ℕ) (cs : List ℕ) → Sees code s a → FlagsHeld a → Stands dest code s.eip (restore_items label) to → Leads (Quiet a.seen) (Comes code to (Restored a)) (27 + a.cell (Slot 13)) s cs
  restore_leads dest s a label to cs h f st =
      let c = stands_cut dest code s.eip restore_start (Jump (Some 4) (ToLabel label) ∷ Put Std ∷ Label label ∷ map Put restore_rest) to st in
      let m = dest (ToLabel label) in
      let j = c.2 in
      let e : c.0 + 6 + 1 ≡ m = j.1.1.0 in
      let std : StandsAt code (c.0 + 6) (Std ∷ []) m = (j.1.0, e) in
      let rest : StandsAt code m restore_rest to = subst (λ p. StandsAt code p restore_rest to) e (stands_puts dest code (c.0 + 6 + 1) restore_rest to j.1.1.1) in
      let n : 3 + (24 + a.cell (Slot 13)) ≡ 27 + a.cell (Slot 13) = omega arith in
      subst (λ k. Leads (Quiet a.seen) (Comes code to (Restored a)) k s cs) n
      (leads_then (Quiet a.seen) (Done code start_ops s a c.0) (Comes code to (Restored a)) 3 (24 + a.cell (Slot 13)) s cs
      (runs here start_ops s a c.0 cs h start_fits c.1)
      (λ t ds d.
      test_leads t a (acts start_ops a d.choices) m to ds d.sees f (λ k. refl) refl (record { outer = refl; seen = refl; brk_start = refl; brk = refl }) (started a d.choices)
      (subst (λ p. Reads code p (Jcc 4 (distance (p + 6) m)) 6) (sym d.eip) j.0)
      (subst (λ p. StandsAt code (p + 6) (Std ∷ []) m) (sym d.eip) std) rest (zero_or_one (a.cell (Slot 13)) f.df)))

  -- flags' slots are no homes
  spilled_held : (homes : Homes) → AreHomes homes → (a b : Cells) → Spilled homes a b → FlagsHeld a → FlagsHeld b
  spilled_held homes hs a b sp f = record {
    cf = subst (λ v. v < 2) (sym (high_slot homes hs a b sp 8 (omega arith))) f.cf;
    pf = subst (λ v. v < 2) (sym (high_slot homes hs a b sp 9 (omega arith))) f.pf;
    zf = subst (λ v. v < 2) (sym (high_slot homes hs a b sp 10 (omega arith))) f.zf;
    sf = subst (λ v. v < 2) (sym (high_slot homes hs a b sp 11 (omega arith))) f.sf;
    of = subst (λ v. v < 2) (sym (high_slot homes hs a b sp 12 (omega arith))) f.of;
    df = subst (λ v. v < 2) (sym (high_slot homes hs a b sp 13 (omega arith))) f.df;
  }

  opens : (homes : Homes) → AreHomes homes → (a b c : Cells) → Spilled homes a b → Restored b c → Opened homes a c
  opens homes hs a b c sp r = record {
    registers = λ v l. r.registers v l ∙ sp.homed v;
    cf = r.cf ∙ high_slot homes hs a b sp 8 (omega arith);
    pf = r.pf ∙ high_slot homes hs a b sp 9 (omega arith);
    zf = r.zf ∙ high_slot homes hs a b sp 10 (omega arith);
    sf = r.sf ∙ high_slot homes hs a b sp 11 (omega arith);
    of = r.of ∙ high_slot homes hs a b sp 12 (omega arith);
    df = r.df ∙ high_slot homes hs a b sp 13 (omega arith);
    marks = r.marks;
    homed = λ v l. r.slots v ∙ sp.homed v;
    others = λ k l. r.slots k ∙ high_slot homes hs a b sp k l;
    besides = record { outer = r.besides.outer ∙ sp.besides.outer; seen = r.besides.seen ∙ sp.besides.seen; brk_start = r.besides.brk_start ∙ sp.besides.brk_start; brk = r.besides.brk ∙ sp.besides.brk };
  }

  pub opening_leads : (homes : Homes) → AreHomes homes → (dest : Dest → ℕ) (s : State) (a : Cells) (label to : ℕ) (cs : List ℕ) → Sees code s a → FlagsHeld a → Stands dest code s.eip (opening_items homes label) to → Leads (Quiet a.seen) (Comes code to (Opened homes a)) (length homes + (27 + a.cell (Slot 13))) s cs
  opening_leads homes hs dest s a label to cs h f st =
      let c = stands_cut dest code s.eip (spill_code homes) (restore_items label) to st in
      let front = subst (λ is. StandsAt code s.eip is c.0) (sym (spill_is homes)) c.1 in
      leads_then (Quiet a.seen) (Done code (spill_ops homes) s a c.0) (Comes code to (Opened homes a)) (length homes) (27 + a.cell (Slot 13)) s cs
      (subst (λ n. Leads (Quiet a.seen) (Done code (spill_ops homes) s a c.0) n s cs) (count homes) (runs here (spill_ops homes) s a c.0 cs h (spill_fits homes hs) front))
      (λ t ds d.
      let b = acts (spill_ops homes) a d.choices in
      let sp = spills homes a d.choices hs in
      subst (λ n. Leads (Quiet a.seen) (Comes code to (Opened homes a)) (27 + n) t ds) (high_slot homes hs a b sp 13 (omega arith))
      (leads_as b.seen a.seen (Comes code to (Restored b)) (Comes code to (Opened homes a)) (27 + b.cell (Slot 13)) t ds sp.besides.seen
      (λ u q. record { cells = q.cells; sees = q.sees; eip = q.eip; holds = opens homes hs a b q.cells sp q.holds })
      (restore_leads dest t b label to ds d.sees (spilled_held homes hs a b sp f) (subst (λ p. Stands dest code p (restore_items label) to) (sym d.eip) c.2))))
    where
      count : (homes : Homes) → length (spill_ops homes) ≡ length homes
      count [] = refl
      count (p ∷ ps) = ap suc (count ps)

  pub closing_leads : (homes : Homes) → AreHomes homes → (dest : Dest → ℕ) (s : State) (a : Cells) (next : Dest) (to : ℕ) (cs : List ℕ) → Sees code s a → FlagsHeld a → dest next < 2 ^ 32 → Stands dest code s.eip (closing_items homes next) to → Leads (Quiet a.seen) (Comes code (dest next) (Captured homes a)) (14 + length homes) s cs
  closing_leads homes hs dest s a next to cs h f small st =
      let c = stands_cut dest code s.eip (capture_code homes) (Jump None next ∷ []) to st in
      let e : 13 + length homes + 1 ≡ 14 + length homes = omega arith in
      subst (λ n. Leads (Quiet a.seen) (Comes code (dest next) (Captured homes a)) n s cs) e
      (leads_then (Quiet a.seen) (Comes code c.0 (Captured homes a)) (Comes code (dest next) (Captured homes a)) (13 + length homes) 1 s cs
      (capture_leads homes hs s a c.0 cs h f c.1)
      (λ t ds q.
      leads_as q.cells.seen a.seen (Comes code (dest next) (Captured homes a)) (Comes code (dest next) (Captured homes a)) 1 t ds q.holds.besides.seen (λ u p. p)
      (jmp_then here t q.cells (dest next) 0 ds (Comes code (dest next) (Captured homes a)) q.sees small (subst (λ p. Reads code p (Jmp (distance (p + 5) (dest next))) 5) (sym q.eip) c.2.0)
      (leads_none (Quiet q.cells.seen) (Comes code (dest next) (Captured homes a)) (record t { eip = dest next }) (drop 1 ds) (record { cells = q.cells; sees = at_seen t q.cells (dest next) q.sees; eip = refl; holds = q.holds })))))

  pub exchange_keeps : (homes : Homes) (dest : Dest → ℕ) → AreHomes homes → (s : State) (a : Cells) (cs : List ℕ) → Sees code s a → FlagsHeld a → ExchangeKeeps code homes dest s a cs
  exchange_keeps homes dest hs s a cs h f = record {
    capture = λ to st. capture_leads homes hs s a to cs h f (stands_puts dest code s.eip (capture_code homes) to st);
    restore = λ label to st. restore_leads dest s a label to cs h f st;
    leaving = λ label to st. opening_leads homes hs dest s a label to cs h f st;
    opening = λ bytes label to next st.
        let p = stands_parts dest code s.eip (opening_items homes label) (map Byte bytes ++ closing_items homes next) to st in
        opening_leads homes hs dest s a label (own_start homes label s.eip) cs h f p.0;
    closing = λ bytes label at to next st e small.
        let p = (stands_parts dest code at (opening_items homes label) (map Byte bytes ++ closing_items homes next) to st).1 in
        let q = (stands_parts dest code (own_start homes label at) (map Byte bytes) (closing_items homes next) to p).1 in
        let n = ap (λ k. own_start homes label at + k) (size_of_bytes bytes) in
        closing_leads homes hs dest s a next to cs h f small (subst (λ x. Stands dest code x (closing_items homes next) to) (n ∙ sym e) q);
  }

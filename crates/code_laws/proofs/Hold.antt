-- A whole list of placed lines.
use Rattle.std.proofs.Common.{◌≡◌, ℕ, ◌+◌, ◌-◌, ◌^◌, ◌<◌, ◌≤◌, Bool, true, false, ◌&&◌, List, [], ◌∷◌, length, take, drop, get_or, Option, Some, None, refl, sym, ap, ◌∙◌, subst, arith, ⊎_elim, ◌⊎◌, inl, inr, ◌≢◌, nat_le, if◌then◌else◌, length-append}
use Rattle.std.specs.Prelude.{option_map}
use Rattle.std.proofs.lemmas.Bool.{cases_eq, eq-eqb, ne_eqb, and_right, lt-leb, leb-true, and_parts}
use Rattle.std.proofs.lemmas.Option.{none-some, same_Some}
use Rattle.br_word.specs.declared.types.Width.{Width}
use Rattle.br_word.specs.declared.types.Width.TheVariants.{B8, B16, B32}
use Rattle.br_word.specs.Memory.{Region, Use, Reads, Writes, allows, covers, bytes_at, put_over, written, number_of, bytes_of, load, store, HoldBytes}
use Rattle.br_word.specs.Words.{size_of}
use Rattle.br_word.specs.State.{State}
use Rattle.par_moves.specs.declared.locations.Place.{Place}
use Rattle.par_moves.specs.declared.locations.Place.TheVariants.{Reg, Slot}
use Rattle.par_moves.specs.Locations.{same_place as place_eq, held, InRange, IsKept}
use Rattle.ssa_form.specs.declared.form.Val.{Val}
use Rattle.ssa_form.specs.declared.form.Val.TheVariants.{Param, Line as Named}
use Rattle.ssa_form.specs.declared.form.Line.{Line}
use Rattle.ssa_form.specs.declared.form.Line.TheVariants.{Bin, One, Select, Load, Store, Gone}
use Rattle.ssa_form.specs.Value.{Env, value, with_line as name, loaded, stored, line_next, fold, IsAllowed, bin_value, one_value, select_value}
use Rattle.run_model.specs.Sound.{LoadsFit, StoresBytes}
use Rattle.emit_ops.specs.Templates.{held_by, line_code}
use Rattle.ia_encode.specs.Items.{StandsAt}
use Rattle.ssa_form.specs.declared.form.Val.TheVariants as lines
use Rattle.code_laws.specs.Seen.{Cells, private_region, IsCode, Sees, Leads, Quiet}
use Rattle.code_laws.specs.Laws.{Comes, Gave, Stored, IsOperand}
use Rattle.code_laws.specs.Placed.{IsNamed, Used, AllHigh, IsVal, ValsOf, Laid, IsSpare, Holds, Left, LinesHold}
use Rattle.emit_ops.specs.Sequences.{lines_code}
use Rattle.code_laws.proofs.Runs.{stands_front, leads_as, leads_then, leads_none}
use Rattle.code_laws.proofs.Memory.{length_bytes}
use Rattle.code_laws.proofs.Means.{template_means}

-- ---- memory behind code and private segment

low_off : (r : Region) (at n : ℕ) → 0 < n → r.start + length r.bytes ≤ 0x07010000 → 0x07010000 ≤ at → covers r at n ≡ false
low_off r at n z e l = and_right (nat_le r.start at) _ (lt-leb (at + n) (r.start + length r.bytes) (omega arith))

-- a choice that is something
chosen : {A : Type 0} (b : Bool) (x : A) (o : Option A) (y : A) → (if b then Some x else o) ≡ Some y → ((b ≡ true) × (x ≡ y)) ⊎ ((b ≡ false) × (o ≡ Some y))
chosen true x o y e = inl (refl, same_Some x y e)
chosen false x o y e = inr (refl, e)

map_some : {A B : Type 0} (f : A → B) (o : Option A) (y : B) → option_map f o ≡ Some y → (x : A) × (o ≡ Some x) × (f x ≡ y)
map_some f None y e = absurd (none-some y e)
map_some f (Some x) y e = (x, refl, same_Some (f x) y e)

covers_high : (low at n : ℕ) (r : Region) (b : Bool) → low ≤ r.start → (covers r at n && b) ≡ true → low ≤ at
covers_high low at n r b l e =
    let p = and_parts (covers r at n) b e in
    let q = and_parts (nat_le r.start at) (nat_le (at + n) (r.start + length r.bytes)) p.0 in
    let m = leb-true r.start at q.0 in
    omega arith

bytes_high : (how : Use) (low at n : ℕ) (rs : List Region) (bs : List ℕ) → AllHigh low rs → bytes_at how at n rs ≡ Some bs → low ≤ at
unfolding bytes_at
bytes_high how low at n [] bs h e = absurd (none-some bs e)
bytes_high how low at n (r ∷ rs) bs h e =
    ⊎_elim (λ t. covers_high low at n r (allows how r.perms) h.0 t.0)
    (λ t. bytes_high how low at n rs bs h.1 t.1)
    (chosen (covers r at n && allows how r.perms) (drop (at - r.start) r.bytes) (bytes_at how at n rs) bs e)

written_high : (low at : ℕ) (new : List ℕ) (rs rs' : List Region) → AllHigh low rs → written at new rs ≡ Some rs' → (low ≤ at) × AllHigh low rs'
unfolding written
written_high low at new [] rs' h e = absurd (none-some rs' e)
written_high low at new (r ∷ rs) rs' h e =
    ⊎_elim (λ t. (covers_high low at (length new) r (allows Writes r.perms) h.0 t.0, subst (AllHigh low) t.1 h))
    (λ t. let m = map_some (λ rest. r ∷ rest) (written at new rs) rs' t.1 in
    let w = written_high low at new rs m.0 h.1 m.1 in
    (w.0, subst (AllHigh low) m.2 (h.0, w.1)))
    (chosen (covers r at (length new) && allows Writes r.perms) (record r { bytes = put_over r.bytes (at - r.start) new } ∷ rs) (option_map (λ rest. r ∷ rest) (written at new rs)) rs' e)

two_off : (how : Use) (a b : Region) (at n : ℕ) (rs : List Region) → covers a at n ≡ false → covers b at n ≡ false → bytes_at how at n (a ∷ b ∷ rs) ≡ bytes_at how at n rs
unfolding bytes_at
two_off how a b at n rs e f = rw (e, f)

two_kept : (a b : Region) (at : ℕ) (new : List ℕ) (rs rs' : List Region) → covers a at (length new) ≡ false → covers b at (length new) ≡ false → written at new rs ≡ Some rs' → written at new (a ∷ b ∷ rs) ≡ Some (a ∷ b ∷ rs')
unfolding written
two_kept a b at new rs rs' e f w = rw (e, f, w)

size_pos : (w : Width) → 0 < size_of w
size_pos B8 = omega arith
size_pos B16 = omega arith
size_pos B32 = omega arith

-- what fits its bytes fits 32 bits
word_fits : (w : Width) (v : ℕ) → v < 256 ^ size_of w → v < 2 ^ 32
word_fits B8 v h = omega arith
word_fits B16 v h = omega arith
word_fits B32 v h = h

module _ {code : Region} (here : IsCode code) where
  code_low : code.start + length code.bytes ≤ 0x07010000
  code_low = let b = here.below in omega arith

  pub load_outer : (s : State) (a : Cells) → Sees code s a → (at n v : ℕ) → 0 < n → AllHigh 0x07010000 a.outer → load at n a.outer ≡ Some v → load at n s.regions ≡ Some v
  load_outer s a h at n v z high e =
      let m = map_some (λ bs. number_of (take n bs)) (bytes_at Reads at n a.outer) v e in
      let l = bytes_high Reads 0x07010000 at n a.outer m.0 high m.1 in
      let size = h.slots.size in
      ap (load at n) h.regions ∙ ap (option_map (λ bs. number_of (take n bs))) (two_off Reads code (private_region h.own) at n a.outer (low_off code at n z code_low l) (low_off (private_region h.own) at n z (omega arith) l)) ∙ e

  pub store_outer : (s : State) (a : Cells) → (h : Sees code s a) → (at n v : ℕ) (rs : List Region) → 0 < n → AllHigh 0x07010000 a.outer → store at n v a.outer ≡ Some rs → store at n v s.regions ≡ Some (code ∷ private_region h.own ∷ rs)
  store_outer s a h at n v rs z high e =
      let w = written_high 0x07010000 at (bytes_of n v) a.outer rs high e in
      let size = h.slots.size in
      let z' : 0 < length (bytes_of n v) = subst (λ k. 0 < k) (sym (length_bytes n v)) z in
      ap (store at n v) h.regions ∙ two_kept code (private_region h.own) at (bytes_of n v) a.outer rs (low_off code at (length (bytes_of n v)) z' code_low w.0) (low_off (private_region h.own) at (length (bytes_of n v)) z' (omega arith) w.0) e

-- registers of a list, slots of a function
abbrev cell_of : List ℕ → (Place → ℕ) → Place → ℕ
cell_of regs f (Reg r) = get_or regs r 0
cell_of regs f (Slot k) = f (Slot k)

-- a state after a store behind the private segment
abbrev after_store : State → Cells → List Region → Cells
after_store t a rs = record a { cell = cell_of t.cpu.regs a.cell; outer = rs }

stored_sees : {code : Region} (s : State) (a : Cells) (h : Sees code s a) (rs : List Region) (to : ℕ) (t : State) → Stored a (code ∷ private_region h.own ∷ rs) to t → Sees code t (after_store t a rs)
stored_sees s a h rs to t q = record { own = h.own; regions = q.regions; slots = h.slots; regs = record { count = q.count; each = λ r l. refl }; small = smalls; flags = q.flags; marks = q.marks; df = q.df; seen = q.seen; brk_start = q.brk_start; brk = q.brk; running = q.running }
  where
    smalls : (p : Place) → InRange p → cell_of t.cpu.regs a.cell p < 2 ^ 32
    smalls (Reg r) l = q.small r l
    smalls (Slot k) l = h.small (Slot k) l

stored_kept : (a : Cells) (m : List Region) (to : ℕ) (t : State) → Stored a m to t → (p : Place) → InRange p → IsKept p → cell_of t.cpu.regs a.cell p ≡ a.cell p
stored_kept a m to t q (Reg r) l k = q.regs r l k
stored_kept a m to t q (Slot j) l k = refl

-- ---- lines

module _ (limit : ℕ) (home place : ℕ → Place) (last : ℕ → Bool) (laid : Laid limit home place) where
  held_value : (ps : List (ℕ × Line)) (e : Env) (a : Cells) → Holds limit home place last ps e a → (v : Val) → IsVal limit v → ((j : ℕ) → IsNamed v j → Used last ps j) → held a.cell (held_by home place v) ≡ value e v
  held_value ps e a h (Param v) i u = h.params v i
  held_value ps e a h (Named j) i u = h.lines j i (u j refl)
  held_value ps e a h (lines.Num n) i u = refl

  operand : (v : Val) → IsVal limit v → IsOperand (held_by home place v)
  operand (Param v) i = (laid.homes v i, laid.homes_fit v i)
  operand (Named j) i = (laid.places j i, laid.places_fit j i)
  operand (lines.Num n) i = (tt, i)

  -- a line with a result
  gave_left : (i : ℕ) → i < limit → (l : Line) (ps : List (ℕ × Line)) (e : Env) (a b : Cells) (v w : ℕ) → ((j : ℕ) → j ≢ i → Used last ps j → Used last ((i, l) ∷ ps) j) → ((j : ℕ) → j < limit → Used last ps j → j ≢ i → place_eq (place j) (place i) ≡ false) → Holds limit home place last ((i, l) ∷ ps) e a → v ≡ w → Gave a (place i) v b → Left limit home place last ps (name i w e) a b
  gave_left i li l ps e a b v w on spare h same g = record {
    holds = record {
      params = λ u lu. g.others (home u) (laid.homes u lu) (laid.apart u i lu li) ∙ h.params u lu;
      lines = λ j lj used. ⊎_elim
          (λ (q : j ≡ i). rw (q, eq-eqb i i refl) (g.value ∙ same))
          (λ (n : j ≢ i). rw (ne_eqb j i n) (g.others (place j) (laid.places j lj) (spare j lj used n) ∙ h.lines j lj (on j n used)))
          (cases_eq j i);
      mem = g.besides.outer ∙ h.mem;
      high = h.high;
      bytes = h.bytes;
    };
    kept = λ q rq kq u. g.others q kq (u i li);
    df = g.df;
    seen = g.besides.seen;
    brk_start = g.besides.brk_start;
    brk = g.besides.brk;
  }

  module _ (loads : LoadsFit) (stores : StoresBytes) {code : Region} (here : IsCode code) where
    abbrev Onward : List (ℕ × Line) → Env → Cells → ℕ → State → Type 0
    Onward ps e a to t = Comes code to (Left limit home place last ps e a) t

    gives : (i : ℕ) → i < limit → (l : Line) (ps : List (ℕ × Line)) (e : Env) (a : Cells) (to v w n : ℕ) (s : State) (cs : List ℕ) → ((j : ℕ) → j ≢ i → Used last ps j → Used last ((i, l) ∷ ps) j) → ((j : ℕ) → j < limit → Used last ps j → j ≢ i → place_eq (place j) (place i) ≡ false) → Holds limit home place last ((i, l) ∷ ps) e a → v ≡ w → Leads (Quiet a.seen) (Comes code to (Gave a (place i) v)) n s cs → Leads (Quiet a.seen) (Onward ps (name i w e) a to) n s cs
    gives i li l ps e a to v w n s cs on spare h same le =
        leads_as a.seen a.seen (Comes code to (Gave a (place i) v)) (Onward ps (name i w e) a to) n s cs refl
        (λ t c. record { cells = c.cells; sees = c.sees; eip = c.eip; holds = gave_left i li l ps e a c.cells v w on spare h same c.holds }) le

    line_leads : (s : State) (i : ℕ) (l : Line) (ps : List (ℕ × Line)) (e : Env) (a : Cells) (to : ℕ) (cs : List ℕ) → Sees code s a → i < limit → ValsOf limit l → IsSpare limit place last l i ps → Holds limit home place last ((i, l) ∷ ps) e a → IsAllowed l e → StandsAt code s.eip (line_code home place i l) to → Leads (Quiet a.seen) (Onward ps (line_next i l e) a to) (length (line_code home place i l)) s cs
    line_leads s i (Bin op x y) ps e a to cs se li v sp h al st =
        let q = held_value ((i, Bin op x y) ∷ ps) e a h x v.0 (λ j n. inl (inl n)) in
        let r = held_value ((i, Bin op x y) ∷ ps) e a h y v.1 (λ j n. inl (inr n)) in
        gives i li (Bin op x y) ps e a to (bin_value op (held a.cell (held_by home place x)) (held a.cell (held_by home place y))) (bin_value op (value e x) (value e y)) (length (line_code home place i (Bin op x y))) s cs (λ j n u. inr (n, u)) sp h (rw (q, r) refl)
        ((template_means here s a to cs se).bin op (held_by home place x) (held_by home place y) (place i) (operand x v.0) (operand y v.1) (laid.places i li, laid.places_fit i li) st)
    line_leads s i (One op x) ps e a to cs se li v sp h al st =
        let q = held_value ((i, One op x) ∷ ps) e a h x v (λ j n. inl n) in
        gives i li (One op x) ps e a to (one_value op (held a.cell (held_by home place x))) (one_value op (value e x)) (length (line_code home place i (One op x))) s cs (λ j n u. inr (n, u)) sp h (rw q refl)
        ((template_means here s a to cs se).one op (held_by home place x) (place i) (operand x v) (laid.places i li, laid.places_fit i li) st)
    line_leads s i (Select c x y) ps e a to cs se li v sp h al st =
        let p = held_value ((i, Select c x y) ∷ ps) e a h c v.0 (λ j n. inl (inl n)) in
        let q = held_value ((i, Select c x y) ∷ ps) e a h x v.1 (λ j n. inl (inr (inl n))) in
        let r = held_value ((i, Select c x y) ∷ ps) e a h y v.2 (λ j n. inl (inr (inr n))) in
        gives i li (Select c x y) ps e a to (select_value (held a.cell (held_by home place c)) (held a.cell (held_by home place x)) (held a.cell (held_by home place y))) (select_value (value e c) (value e x) (value e y)) (length (line_code home place i (Select c x y))) s cs (λ j n u. inr (n, u)) sp h (rw (p, q, r) refl)
        ((template_means here s a to cs se).select (held_by home place c) (held_by home place x) (held_by home place y) (place i) (operand c v.0) (operand x v.1) (operand y v.2) (laid.places i li, laid.places_fit i li) st)
    line_leads s i (Load w at) ps e a to cs se li v sp h al st =
        let q = held_value ((i, Load w at) ∷ ps) e a h at v (λ j n. inl n) in
        let high = subst (AllHigh 0x07010000) (sym h.mem) h.high in
        let o : load (held a.cell (held_by home place at)) (size_of w) a.outer ≡ Some al.0 = rw (q, h.mem) al.1 in
        gives i li (Load w at) ps e a to al.0 (loaded (load (value e at) (size_of w) e.mem)) (length (line_code home place i (Load w at))) s cs (λ j n u. inr (n, u)) sp h (sym (ap loaded al.1))
        ((template_means here s a to cs se).load w (held_by home place at) (place i) al.0 (operand at v) (laid.places i li, laid.places_fit i li) (load_outer here s a se (held a.cell (held_by home place at)) (size_of w) al.0 (size_pos w) high o) (word_fits w al.0 (loads (value e at) (size_of w) e.mem al.0 h.bytes al.1)) st)
    line_leads s i (Store w at x) ps e a to cs se li v sp h al st =
        let q = held_value ((i, Store w at x) ∷ ps) e a h at v.0 (λ j n. inl (inl n)) in
        let r = held_value ((i, Store w at x) ∷ ps) e a h x v.1 (λ j n. inl (inr n)) in
        let high = subst (AllHigh 0x07010000) (sym h.mem) h.high in
        let o : store (held a.cell (held_by home place at)) (size_of w) (held a.cell (held_by home place x)) a.outer ≡ Some al.0 = rw (q, r, h.mem) al.1 in
        let m = code ∷ private_region se.own ∷ al.0 in
        let f = written_high 0x07010000 (held a.cell (held_by home place at)) (bytes_of (size_of w) (held a.cell (held_by home place x))) a.outer al.0 high o in
        let z = sym (ap (stored e.mem) al.1) in
        leads_as a.seen a.seen (Stored a m to) (Onward ps (line_next i (Store w at x) e) a to) 3 s cs refl
        (λ t c. record {
          cells = after_store t a al.0;
          sees = stored_sees s a se al.0 to t c;
          eip = c.eip;
          holds = record {
            holds = record {
              params = λ u lu. stored_kept a m to t c (home u) (laid.homes_fit u lu) (laid.homes u lu) ∙ h.params u lu;
              lines = λ j lj used. stored_kept a m to t c (place j) (laid.places_fit j lj) (laid.places j lj) ∙ h.lines j lj (inr used);
              mem = z;
              high = subst (AllHigh 0x07010000) z f.1;
              bytes = subst HoldBytes z (stores (value e at) (size_of w) (value e x) e.mem al.0 h.bytes al.1);
            };
            kept = λ p rp kp u. stored_kept a m to t c p rp kp;
            df = refl;
            seen = refl;
            brk_start = refl;
            brk = refl;
          };
        })
        ((template_means here s a to cs se).store w (held_by home place at) (held_by home place x) m (operand at v.0) (operand x v.1) (store_outer here s a se (held a.cell (held_by home place at)) (size_of w) (held a.cell (held_by home place x)) al.0 (size_pos w) high o) st)
    line_leads s i Gone ps e a to cs se li v sp h al st =
        leads_none (Quiet a.seen) (Onward ps e a to) s cs (record { cells = a; sees = se; eip = st; holds = record { holds = record { params = h.params; lines = λ j lj used. h.lines j lj (inr used); mem = h.mem; high = h.high; bytes = h.bytes }; kept = λ q rq kq u. refl; df = refl; seen = refl; brk_start = refl; brk = refl } })

    pub lines_hold : LinesHold code limit home place last
    lines_hold [] s e a to cs se safe h al st = leads_none (Quiet a.seen) (Onward [] e a to) s cs (record { cells = a; sees = se; eip = st; holds = record { holds = h; kept = λ q rq kq u. refl; df = refl; seen = refl; brk_start = refl; brk = refl } })
    lines_hold (p ∷ ps) s e a to cs se safe h al st =
        let c = line_code home place p.0 p.1 in
        let js = lines_code home place ps in
        let f = line_next p.0 p.1 e in
        let cut = stands_front code s.eip c js to st in
        subst (λ n. Leads (Quiet a.seen) (Onward [] (fold ps f) a to) n s cs) (sym (length-append c js))
        (leads_then (Quiet a.seen) (Onward ps f a cut.0) (Onward [] (fold ps f) a to) (length c) (length js) s cs
        (line_leads s p.0 p.1 ps e a cut.0 cs se safe.0 safe.1 safe.2 h al.0 cut.1)
        (λ t ds r.
        leads_as r.cells.seen a.seen (Onward [] (fold ps f) r.cells to) (Onward [] (fold ps f) a to) (length js) t ds r.holds.seen
        (λ u q. record { cells = q.cells; sees = q.sees; eip = q.eip; holds = record { holds = q.holds.holds; kept = λ p rp kp n. q.holds.kept p rp kp n ∙ r.holds.kept p rp kp n; df = q.holds.df ∙ r.holds.df; seen = q.holds.seen ∙ r.holds.seen; brk_start = q.holds.brk_start ∙ r.holds.brk_start; brk = q.holds.brk ∙ r.holds.brk } })
        (lines_hold ps t f r.cells to ds r.sees safe.3 r.holds.holds al.1 (subst (λ x. StandsAt code x js to) (sym r.eip) cut.2))))

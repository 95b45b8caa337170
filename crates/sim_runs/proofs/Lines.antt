-- What is not live, and what is not kept, does not matter to what is.
use Rattle.std.proofs.Common.{◌≡◌, ℕ, suc, ◌+◌, ◌<◌, ◌≤◌, Bool, true, false, List, [], ◌∷◌, length, refl, sym, ap, ◌∙◌, subst, arith, ⊎_elim}
use Rattle.std.specs.Prelude.{nat_eq, if◌then◌else◌}
use Rattle.std.proofs.lemmas.Bool.{cases_lt, true≢false, eqb-true, eq-eqb, ne_eqb}
use Rattle.br_word.specs.Memory.{load, store}
use Rattle.br_word.specs.Words.{size_of}
use Rattle.ssa_form.specs.declared.form.Val.{Val}
use Rattle.ssa_form.specs.declared.form.Val.TheVariants.{Param, Line as Named, Num}
use Rattle.ssa_form.specs.declared.form.Line.{Line}
use Rattle.ssa_form.specs.declared.form.Line.TheVariants.{Bin, One, Select, Load, Store, Gone}
use Rattle.ssa_form.specs.Value.{Env, value, with_line, loaded, stored, line_next, fold, IsAllowed, AllAllowed, bin_value, one_value, select_value}
use Rattle.sim_runs.specs.Lines.{NamedIn, LineIn, MustStay, Closed, Alike, Below, LineBelow, Ordered, IsSunk, AllSunk, either}
use Rattle.emit_ops.specs.Sequences.{kept}

module _ (on keep : ℕ → Bool) where
  pub same_value : (e f : Env) → Alike on keep e f → (v : Val) → NamedIn on keep v → value e v ≡ value f v
  same_value e f h (Param v) n = h.params v n
  same_value e f h (Named j) n = h.lines j n
  same_value e f h (Num k) n = refl

  both_named : (e f : Env) (i x y : ℕ) → Alike on keep e f → x ≡ y → Alike on keep (with_line i x e) (with_line i y f)
  both_named e f i x y h q = record { params = h.params; lines = λ j k. each j k (nat_eq j i); mem = h.mem }
    where
      each : (j : ℕ) → keep j ≡ true → (b : Bool) → (if b then x else e.lines j) ≡ (if b then y else f.lines j)
      each j k true = q
      each j k false = h.lines j k

  one_named : (e f : Env) (i y : ℕ) → keep i ≡ false → Alike on keep e f → Alike on keep e (with_line i y f)
  one_named e f i y d h = record { params = h.params; lines = λ j k. each j k (nat_eq j i) refl; mem = h.mem }
    where
      each : (j : ℕ) → keep j ≡ true → (b : Bool) → nat_eq j i ≡ b → e.lines j ≡ (if b then y else f.lines j)
      each j k true q = absurd (true≢false (sym k ∙ ap keep (eqb-true j i q) ∙ d))
      each j k false q = h.lines j k

  same_next : (e f : Env) (i : ℕ) (l : Line) → Alike on keep e f → LineIn on keep l → Alike on keep (line_next i l e) (line_next i l f)
  same_next e f i (Bin op a b) h n = both_named e f i _ _ h (ap (λ x. bin_value op x (value e b)) (same_value e f h a n.0) ∙ ap (bin_value op (value f a)) (same_value e f h b n.1))
  same_next e f i (One op a) h n = both_named e f i _ _ h (ap (one_value op) (same_value e f h a n))
  same_next e f i (Select c a b) h n = both_named e f i _ _ h (ap (λ x. select_value x (value e a) (value e b)) (same_value e f h c n.0) ∙ ap (λ x. select_value (value f c) x (value e b)) (same_value e f h a n.1) ∙ ap (select_value (value f c) (value f a)) (same_value e f h b n.2))
  same_next e f i (Load w at) h n = both_named e f i _ _ h (ap (λ x. loaded (load x (size_of w) e.mem)) (same_value e f h at n) ∙ ap (λ m. loaded (load (value f at) (size_of w) m)) h.mem)
  same_next e f i (Store w at a) h n = record {
    params = h.params;
    lines = h.lines;
    mem =
        ap (λ m. stored m (store (value e at) (size_of w) (value e a) m)) h.mem
        ∙ ap (λ x. stored f.mem (store x (size_of w) (value e a) f.mem)) (same_value e f h at n.0)
        ∙ ap (λ x. stored f.mem (store (value f at) (size_of w) x f.mem)) (same_value e f h a n.1);
  }
  same_next e f i Gone h n = h

  skipped_next : (e f : Env) (i : ℕ) (l : Line) → keep i ≡ false → MustStay keep i l → Alike on keep e f → Alike on keep e (line_next i l f)
  skipped_next e f i (Bin op a b) d m h = one_named e f i _ d h
  skipped_next e f i (One op a) d m h = one_named e f i _ d h
  skipped_next e f i (Select c a b) d m h = one_named e f i _ d h
  skipped_next e f i (Load k at) d m h = one_named e f i _ d h
  skipped_next e f i (Store k at a) d m h = absurd (true≢false (sym m ∙ d))
  skipped_next e f i Gone d m h = h

  same_allowed : (e f : Env) (l : Line) → Alike on keep e f → LineIn on keep l → IsAllowed l f → IsAllowed l e
  same_allowed e f (Bin op a b) h n w = tt
  same_allowed e f (One op a) h n w = tt
  same_allowed e f (Select c a b) h n w = tt
  same_allowed e f (Load t at) h n w = (w.0, ap (λ x. load x (size_of t) e.mem) (same_value e f h at n) ∙ ap (load (value f at) (size_of t)) h.mem ∙ w.1)
  same_allowed e f (Store t at a) h n w = (w.0, ap (λ x. store x (size_of t) (value e a) e.mem) (same_value e f h at n.0) ∙ ap (λ x. store (value f at) (size_of t) x e.mem) (same_value e f h a n.1) ∙ ap (store (value f at) (size_of t) (value f a)) h.mem ∙ w.1)
  same_allowed e f Gone h n w = tt

  -- the kept lines alone give each kept line its value, and the same memory, and are allowed what the whole is
  pub kept_alike : (ps : List (ℕ × Line)) (e f : Env) → Closed on keep ps → Alike on keep e f → AllAllowed ps f → Alike on keep (fold (kept keep ps) e) (fold ps f) × AllAllowed (kept keep ps) e
  kept_alike [] e f c h w = (h, tt)
  kept_alike (p ∷ ps) e f c h w =
      go (keep p.0) refl (λ k. kept_alike ps (line_next p.0 p.1 e) (line_next p.0 p.1 f) c.2 (same_next e f p.0 p.1 h (c.1 k)) w.1) (λ k. kept_alike ps e (line_next p.0 p.1 f) c.2 (skipped_next e f p.0 p.1 k c.0 h) w.1)
    where
      go : (b : Bool) → keep p.0 ≡ b → (keep p.0 ≡ true → Alike on keep (fold (kept keep ps) (line_next p.0 p.1 e)) (fold ps (line_next p.0 p.1 f)) × AllAllowed (kept keep ps) (line_next p.0 p.1 e)) → (keep p.0 ≡ false → Alike on keep (fold (kept keep ps) e) (fold ps (line_next p.0 p.1 f)) × AllAllowed (kept keep ps) e) → Alike on keep (fold (if b then p ∷ kept keep ps else kept keep ps) e) (fold ps (line_next p.0 p.1 f)) × AllAllowed (if b then p ∷ kept keep ps else kept keep ps) e
      go true q k d = let r = k q in (r.0, (same_allowed e f p.1 h (c.1 q) w.0, r.1))
      go false q k d = d q

-- a line's value in the end
abbrev Solves : Line → ℕ → Env → Type 0
Solves (Bin op a b) i f = f.lines i ≡ bin_value op (value f a) (value f b)
Solves (One op a) i f = f.lines i ≡ one_value op (value f a)
Solves (Select c a b) i f = f.lines i ≡ select_value (value f c) (value f a) (value f b)
Solves (Load n at) i f = Unit {0}
Solves (Store n at a) i f = Unit {0}
Solves Gone i f = Unit {0}

abbrev Solved : List (ℕ × Line) → Env → Type 0
Solved [] f = Unit {0}
Solved (p ∷ ps) f = Solves p.1 p.0 f × Solved ps f

-- a line leaves the parameters, and the lines before
record Earlier (at : ℕ) (e f : Env) : Type 0 where
  params : (v : ℕ) → f.params v ≡ e.params v
  lines : (j : ℕ) → j < at → f.lines j ≡ e.lines j

name_earlier : (at v : ℕ) (e : Env) → Earlier at e (with_line at v e)
name_earlier at v e = record { params = λ u. refl; lines = λ j l. rw (ne_eqb j at (omega arith)) refl }

next_earlier : (at : ℕ) (l : Line) (e : Env) → Earlier at e (line_next at l e)
next_earlier at (Bin op a b) e = name_earlier at _ e
next_earlier at (One op a) e = name_earlier at _ e
next_earlier at (Select c a b) e = name_earlier at _ e
next_earlier at (Load n a) e = name_earlier at _ e
next_earlier at (Store n a b) e = record { params = λ u. refl; lines = λ j l. refl }
next_earlier at Gone e = record { params = λ u. refl; lines = λ j l. refl }

fold_earlier : (at : ℕ) (ps : List (ℕ × Line)) (e : Env) → Ordered at ps → Earlier at e (fold ps e)
fold_earlier at [] e o = record { params = λ u. refl; lines = λ j l. refl }
fold_earlier at (p ∷ ps) e o =
    let n = next_earlier at p.1 e in
    let r = fold_earlier (suc at) ps (line_next p.0 p.1 e) o.2 in
    let q : line_next p.0 p.1 e ≡ line_next at p.1 e = ap (λ i. line_next i p.1 e) o.0 in
    record {
      params = λ v. r.params v ∙ ap (λ (e : Env). e.params v) q ∙ n.params v;
      lines = λ j l. r.lines j (omega arith) ∙ ap (λ (e : Env). e.lines j) q ∙ n.lines j l;
    }

value_earlier : (at : ℕ) (e f : Env) → Earlier at e f → (v : Val) → Below at v → value f v ≡ value e v
value_earlier at e f h (Param v) b = h.params v
value_earlier at e f h (Named j) b = h.lines j b
value_earlier at e f h (Num n) b = refl

named_last : (at v : ℕ) (ps : List (ℕ × Line)) (e : Env) → Ordered (suc at) ps → (fold ps (with_line at v e)).lines at ≡ v
named_last at v ps e o =
    let r = fold_earlier (suc at) ps (with_line at v e) o in
    let here : (with_line at v e).lines at ≡ v = rw (eq-eqb at at refl) refl in
    r.lines at (omega arith) ∙ here

all_earlier : (at v : ℕ) (ps : List (ℕ × Line)) (e : Env) → Ordered (suc at) ps → Earlier at e (fold ps (with_line at v e))
all_earlier at v ps e o =
    let r = fold_earlier (suc at) ps (with_line at v e) o in
    let n = name_earlier at v e in
    record { params = λ u. r.params u ∙ n.params u; lines = λ j l. r.lines j (omega arith) ∙ n.lines j l }

head_solves : (at : ℕ) (l : Line) (ps : List (ℕ × Line)) (e : Env) → LineBelow at l → Ordered (suc at) ps → Solves l at (fold ps (line_next at l e))
head_solves at (Bin op a b) ps e h o =
    let v : ℕ = bin_value op (value e a) (value e b) in
    let f : Env = fold ps (with_line at v e) in
    let all = all_earlier at v ps e o in
    named_last at v ps e o ∙ ap (λ x. bin_value op x (value e b)) (sym (value_earlier at e f all a h.0)) ∙ ap (bin_value op (value f a)) (sym (value_earlier at e f all b h.1))
head_solves at (One op a) ps e h o =
    let v : ℕ = one_value op (value e a) in
    let f : Env = fold ps (with_line at v e) in
    let all = all_earlier at v ps e o in
    named_last at v ps e o ∙ ap (one_value op) (sym (value_earlier at e f all a h))
head_solves at (Select c a b) ps e h o =
    let v : ℕ = select_value (value e c) (value e a) (value e b) in
    let f : Env = fold ps (with_line at v e) in
    let all = all_earlier at v ps e o in
    named_last at v ps e o ∙ ap (λ x. select_value x (value e a) (value e b)) (sym (value_earlier at e f all c h.0)) ∙ ap (λ x. select_value (value f c) x (value e b)) (sym (value_earlier at e f all a h.1)) ∙ ap (select_value (value f c) (value f a)) (sym (value_earlier at e f all b h.2))
head_solves at (Load n a) ps e h o = tt
head_solves at (Store n a b) ps e h o = tt
head_solves at Gone ps e h o = tt

pub solved : (at : ℕ) (ps : List (ℕ × Line)) (e : Env) → Ordered at ps → Solved ps (fold ps e)
solved at [] e o = tt
solved at (p ∷ ps) e o =
    let s = head_solves at p.1 ps e o.1 o.2 in
    (subst (λ i. Solves p.1 i (fold ps (line_next i p.1 e))) (sym o.0) s, solved (suc at) ps (line_next p.0 p.1 e) o.2)

module _ (on keep sunk : ℕ → Bool) (f : Env) where
  -- what is known while sunk lines are done: live parameters, the body, and sunk lines so far
  pub record Known (at : ℕ) (b : Env) : Type 0 where
    pub params : (v : ℕ) → on v ≡ true → b.params v ≡ f.params v
    pub body : (j : ℕ) → keep j ≡ true → b.lines j ≡ f.lines j
    pub sunk_lines : (j : ℕ) → j < at → sunk j ≡ true → b.lines j ≡ f.lines j
    pub mem : b.mem ≡ f.mem

  pub known_value : (at : ℕ) (b : Env) → Known at b → (v : Val) → Below at v → NamedIn on (either keep sunk) v → value b v ≡ value f v
  known_value at b h (Param v) l n = h.params v n
  known_value at b h (Named j) l n = go (keep j) refl n
    where
      go : (k : Bool) → keep j ≡ k → (if k then true else sunk j) ≡ true → b.lines j ≡ f.lines j
      go true e n = h.body j e
      go false e n = h.sunk_lines j l n
  known_value at b h (Num k) l n = refl

  named_known : (at v : ℕ) (b : Env) → Known at b → v ≡ f.lines at → Known (suc at) (with_line at v b)
  named_known at v b h e = record {
    params = h.params;
    body = λ j k. each j (nat_eq j at) refl (λ _. h.body j k);
    sunk_lines = λ j l k. each j (nat_eq j at) refl (λ n. h.sunk_lines j (below j l n) k);
    mem = h.mem;
  }
    where
      each : (j : ℕ) (t : Bool) → nat_eq j at ≡ t → (nat_eq j at ≡ false → b.lines j ≡ f.lines j) → (if t then v else b.lines j) ≡ f.lines j
      each j true q k = e ∙ ap f.lines (sym (eqb-true j at q))
      each j false q k = k q

      below : (j : ℕ) → j < suc at → nat_eq j at ≡ false → j < at
      below j l n = ⊎_elim (λ (q : j < at). q) (λ (q : at ≤ j). absurd (true≢false (sym (eq-eqb j at (omega arith)) ∙ n))) (cases_lt j at)

  sunk_next : (at : ℕ) (l : Line) (b : Env) → Known at b → LineBelow at l → IsSunk on keep sunk l → Solves l at f → Known (suc at) (line_next at l b)
  sunk_next at (Bin op x y) b h w s q = named_known at _ b h (ap (λ v. bin_value op v (value b y)) (known_value at b h x w.0 s.0) ∙ ap (bin_value op (value f x)) (known_value at b h y w.1 s.1) ∙ sym q)
  sunk_next at (One op x) b h w s q = named_known at _ b h (ap (one_value op) (known_value at b h x w s) ∙ sym q)
  sunk_next at (Select z x y) b h w s q = named_known at _ b h (ap (λ v. select_value v (value b x) (value b y)) (known_value at b h z w.0 s.0) ∙ ap (λ v. select_value (value f z) v (value b y)) (known_value at b h x w.1 s.1) ∙ ap (select_value (value f z) (value f x)) (known_value at b h y w.2 s.2) ∙ sym q)
  sunk_next at (Load n a) b h w s q = absurd s
  sunk_next at (Store n a c) b h w s q = absurd s
  sunk_next at Gone b h w s q = absurd s

  pass_by : (at : ℕ) (b : Env) → Known at b → sunk at ≡ false → Known (suc at) b
  pass_by at b h n = record {
    params = h.params;
    body = h.body;
    mem = h.mem;
    sunk_lines = λ j l k. ⊎_elim (λ (q : j < at). h.sunk_lines j q k) (λ (q : at ≤ j). let e : j ≡ at = omega arith in absurd (true≢false (sym k ∙ ap sunk e ∙ n))) (cases_lt j at);
  }

  -- sunk lines after the body get the values that they have in their place
  pub sunk_known : (at : ℕ) (ps : List (ℕ × Line)) (b : Env) → Ordered at ps → AllSunk on keep sunk ps → Solved ps f → Known at b → Known (at + length ps) (fold (kept sunk ps) b)
  sunk_known at [] b o a s h = let z : at ≡ at + 0 = omega arith in subst (λ n. Known n b) z h
  sunk_known at (p ∷ ps) b o a s h =
      let q : Solves p.1 at f = subst (λ i. Solves p.1 i f) o.0 s.0 in
      go (sunk p.0) refl
      (λ k. sunk_known (suc at) ps (line_next p.0 p.1 b) o.2 a.1 s.1 (subst (λ i. Known (suc at) (line_next i p.1 b)) (sym o.0) (sunk_next at p.1 b h o.1 (a.0 k) q)))
      (λ k. sunk_known (suc at) ps b o.2 a.1 s.1 (pass_by at b h (ap sunk (sym o.0) ∙ k)))
    where
      go : (t : Bool) → sunk p.0 ≡ t → (sunk p.0 ≡ true → Known (suc at + length ps) (fold (kept sunk ps) (line_next p.0 p.1 b))) → (sunk p.0 ≡ false → Known (suc at + length ps) (fold (kept sunk ps) b)) → Known (at + suc (length ps)) (fold (if t then p ∷ kept sunk ps else kept sunk ps) b)
      go true e k d = let z : suc at + length ps ≡ at + suc (length ps) = omega arith in subst (λ n. Known n (fold (kept sunk ps) (line_next p.0 p.1 b))) z (k e)
      go false e k d = let z : suc at + length ps ≡ at + suc (length ps) = omega arith in subst (λ n. Known n (fold (kept sunk ps) b)) z (d e)

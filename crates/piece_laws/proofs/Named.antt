-- Whether lines, outs or the exit name a line, decided.
use Rattle.std.proofs.Common.{◌≡◌, ℕ, zero, suc, ◌<◌, Bool, true, false, ◌||◌, List, [], ◌∷◌, ◌++◌, length, get_or, refl, sym, ap, arith, ◌⊎◌, inl, inr, ⊎_elim}
use Rattle.std.specs.Prelude.{nat_eq}
use Rattle.std.proofs.lemmas.Bool.{eqb-true, eq-eqb, true≢false}
use Rattle.ssa_form.specs.declared.form.Val.{Val}
use Rattle.ssa_form.specs.declared.form.Val.TheVariants.{Param, Line as Named, Num}
use Rattle.ssa_form.specs.declared.form.Line.{Line}
use Rattle.ssa_form.specs.declared.form.Line.TheVariants.{Bin, One, Select, Load, Store, Gone}
use Rattle.ssa_form.specs.declared.form.Exit.{Exit}
use Rattle.ssa_form.specs.declared.form.Exit.TheVariants.{Jump, Cond, Way, Island}
use Rattle.ssa_form.specs.declared.form.Block.{Block}
use Rattle.code_laws.specs.Placed.{IsNamed, Names, Later, Used}
use Rattle.sim_runs.specs.Coding.{NamesIt, LineNames, ExitNames, NamedLater}

names_it : ℕ → Val → Bool
names_it i (Param v) = false
names_it i (Named j) = nat_eq j i
names_it i (Num n) = false

line_names_it : ℕ → Line → Bool
line_names_it i (Bin op a b) = names_it i a || names_it i b
line_names_it i (One op a) = names_it i a
line_names_it i (Select c a b) = names_it i c || (names_it i a || names_it i b)
line_names_it i (Load w at) = names_it i at
line_names_it i (Store w at a) = names_it i at || names_it i a
line_names_it i Gone = false

exit_names_it : ℕ → Exit → Bool
exit_names_it i (Jump to) = false
exit_names_it i (Cond t taken next) = names_it i t
exit_names_it i (Way v) = names_it i v
exit_names_it i (Island len) = false

outs_name_it : ℕ → List Val → Bool
outs_name_it i [] = false
outs_name_it i (v ∷ vs) = names_it i v || outs_name_it i vs

pub named_later : Block → ℕ → List (ℕ × Line) → Bool
named_later b i [] = exit_names_it i b.exit || outs_name_it i b.outs
named_later b i (q ∷ qs) = line_names_it i q.1 || named_later b i qs

-- ---- it is decided rightly

or_left : (a b : Bool) → a ≡ true → (a || b) ≡ true
or_left a b h = ap (λ z. z || b) h

or_right : (a b : Bool) → b ≡ true → (a || b) ≡ true
or_right true b h = refl
or_right false b h = h

or_cases : (a b : Bool) → (a || b) ≡ true → (a ≡ true) ⊎ (b ≡ true)
or_cases true b h = inl refl
or_cases false b h = inr h

names_true : (i : ℕ) (v : Val) → NamesIt i v → names_it i v ≡ true
unfolding names_it
names_true i (Param v) h = absurd h
names_true i (Named j) h = eq-eqb j i h
names_true i (Num n) h = absurd h

true_names : (i : ℕ) (v : Val) → names_it i v ≡ true → NamesIt i v
unfolding names_it
true_names i (Param v) h = true≢false (sym h)
true_names i (Named j) h = eqb-true j i h
true_names i (Num n) h = true≢false (sym h)

line_true : (i : ℕ) (l : Line) → LineNames i l → line_names_it i l ≡ true
unfolding line_names_it
line_true i (Bin op a b) (inl h) = or_left _ _ (names_true i a h)
line_true i (Bin op a b) (inr h) = or_right (names_it i a) _ (names_true i b h)
line_true i (One op a) h = names_true i a h
line_true i (Select c a b) (inl h) = or_left _ _ (names_true i c h)
line_true i (Select c a b) (inr (inl h)) = or_right (names_it i c) _ (or_left _ _ (names_true i a h))
line_true i (Select c a b) (inr (inr h)) = or_right (names_it i c) _ (or_right (names_it i a) _ (names_true i b h))
line_true i (Load w at) h = names_true i at h
line_true i (Store w at a) (inl h) = or_left _ _ (names_true i at h)
line_true i (Store w at a) (inr h) = or_right (names_it i at) _ (names_true i a h)
line_true i Gone h = absurd h

true_line : (i : ℕ) (l : Line) → line_names_it i l ≡ true → LineNames i l
unfolding line_names_it
true_line i (Bin op a b) h = ⊎_elim (λ (e : names_it i a ≡ true). inl (true_names i a e)) (λ (e : names_it i b ≡ true). inr (true_names i b e)) (or_cases _ _ h)
true_line i (One op a) h = true_names i a h
true_line i (Select c a b) h = ⊎_elim
    (λ (e : names_it i c ≡ true). inl (true_names i c e))
    (λ (e : (names_it i a || names_it i b) ≡ true). inr (⊎_elim (λ (f : names_it i a ≡ true). inl (true_names i a f)) (λ (f : names_it i b ≡ true). inr (true_names i b f)) (or_cases _ _ e)))
    (or_cases _ _ h)
true_line i (Load w at) h = true_names i at h
true_line i (Store w at a) h = ⊎_elim (λ (e : names_it i at ≡ true). inl (true_names i at e)) (λ (e : names_it i a ≡ true). inr (true_names i a e)) (or_cases _ _ h)
true_line i Gone h = true≢false (sym h)

exit_true : (i : ℕ) (x : Exit) → ExitNames i x → exit_names_it i x ≡ true
unfolding exit_names_it
exit_true i (Jump to) h = absurd h
exit_true i (Cond t taken next) h = names_true i t h
exit_true i (Way v) h = names_true i v h
exit_true i (Island len) h = absurd h

true_exit : (i : ℕ) (x : Exit) → exit_names_it i x ≡ true → ExitNames i x
unfolding exit_names_it
true_exit i (Jump to) h = true≢false (sym h)
true_exit i (Cond t taken next) h = true_names i t h
true_exit i (Way v) h = true_names i v h
true_exit i (Island len) h = true≢false (sym h)

outs_true : (i : ℕ) (vs : List Val) (v : ℕ) → NamesIt i (get_or vs v (Num 0)) → outs_name_it i vs ≡ true
unfolding outs_name_it
outs_true i [] v h = absurd h
outs_true i (x ∷ vs) zero h = or_left _ _ (names_true i x h)
outs_true i (x ∷ vs) (suc v) h = or_right (names_it i x) _ (outs_true i vs v h)

true_outs : (i : ℕ) (vs : List Val) → outs_name_it i vs ≡ true → (v : ℕ) × (v < length vs) × NamesIt i (get_or vs v (Num 0))
unfolding outs_name_it
true_outs i [] h = absurd (true≢false (sym h))
true_outs i (x ∷ vs) h = ⊎_elim
    (λ (e : names_it i x ≡ true). (0, omega arith, true_names i x e))
    (λ (e : outs_name_it i vs ≡ true). let q = true_outs i vs e in let l = q.1 in (suc q.0, omega (arith, l), q.2))
    (or_cases _ _ h)

pub later_true : (b : Block) (i : ℕ) (qs : List (ℕ × Line)) → NamedLater b i qs → named_later b i qs ≡ true
unfolding named_later
later_true b i [] (inl h) = or_left _ _ (exit_true i b.exit h)
later_true b i [] (inr h) = or_right (exit_names_it i b.exit) _ (outs_true i b.outs h.0 h.2)
later_true b i (q ∷ qs) (inl h) = or_left _ _ (line_true i q.1 h)
later_true b i (q ∷ qs) (inr h) = or_right (line_names_it i q.1) _ (later_true b i qs h)

pub true_later : (b : Block) → length b.outs ≡ 14 → (i : ℕ) (qs : List (ℕ × Line)) → named_later b i qs ≡ true → NamedLater b i qs
unfolding named_later
true_later b n i [] h = ⊎_elim
    (λ (e : exit_names_it i b.exit ≡ true). inl (true_exit i b.exit e))
    (λ (e : outs_name_it i b.outs ≡ true). let q = true_outs i b.outs e in let l = q.1 in inr (q.0, omega (arith, l, n), q.2))
    (or_cases _ _ h)
true_later b n i (q ∷ qs) h = ⊎_elim
    (λ (e : line_names_it i q.1 ≡ true). inl (true_line i q.1 e))
    (λ (e : named_later b i qs ≡ true). inr (true_later b n i qs e))
    (or_cases _ _ h)

-- ---- the words of code_laws and those of the simulation

pub it_named : (v : Val) (j : ℕ) → NamesIt j v → IsNamed v j
it_named (Param v) j h = h
it_named (Named k) j h = h
it_named (Num n) j h = h

pub named_it : (v : Val) (j : ℕ) → IsNamed v j → NamesIt j v
named_it (Param v) j h = h
named_it (Named k) j h = h
named_it (Num n) j h = h

line_named_it : (l : Line) (j : ℕ) → Names l j → LineNames j l
line_named_it (Bin op a b) j (inl h) = inl (named_it a j h)
line_named_it (Bin op a b) j (inr h) = inr (named_it b j h)
line_named_it (One op a) j h = named_it a j h
line_named_it (Select c a b) j (inl h) = inl (named_it c j h)
line_named_it (Select c a b) j (inr (inl h)) = inr (inl (named_it a j h))
line_named_it (Select c a b) j (inr (inr h)) = inr (inr (named_it b j h))
line_named_it (Load w at) j h = named_it at j h
line_named_it (Store w at a) j (inl h) = inl (named_it at j h)
line_named_it (Store w at a) j (inr h) = inr (named_it a j h)
line_named_it Gone j h = h

pub it_line_named : (l : Line) (j : ℕ) → LineNames j l → Names l j
it_line_named (Bin op a b) j (inl h) = inl (it_named a j h)
it_line_named (Bin op a b) j (inr h) = inr (it_named b j h)
it_line_named (One op a) j h = it_named a j h
it_line_named (Select c a b) j (inl h) = inl (it_named c j h)
it_line_named (Select c a b) j (inr (inl h)) = inr (inl (it_named a j h))
it_line_named (Select c a b) j (inr (inr h)) = inr (inr (it_named b j h))
it_line_named (Load w at) j h = it_named at j h
it_line_named (Store w at a) j (inl h) = inl (it_named at j h)
it_line_named (Store w at a) j (inr h) = inr (it_named a j h)
it_line_named Gone j h = h

-- what is used behind a line is used, and is not the line's own result
pub later_of : (l : Line) (i j : ℕ) (U : Type 0) → Later l i j U → U
later_of (Bin op a b) i j U h = h.1
later_of (One op a) i j U h = h.1
later_of (Select c a b) i j U h = h.1
later_of (Load w at) i j U h = h.1
later_of (Store w at a) i j U h = h
later_of Gone i j U h = h

pub used_named : (b : Block) (last : ℕ → Bool) (tail : List (ℕ × Line)) → ((j : ℕ) → last j ≡ true → NamedLater b j tail) → (qs : List (ℕ × Line)) (j : ℕ) → Used last qs j → NamedLater b j (qs ++ tail)
used_named b last tail h [] j u = h j u
used_named b last tail h (q ∷ qs) j (inl n) = inl (line_named_it q.1 j n)
used_named b last tail h (q ∷ qs) j (inr u) = inr (used_named b last tail h qs j (later_of q.1 q.0 j (Used last qs j) u))

-- What checked blocks name, row by row.
use Rattle.std.proofs.Common.{◌≡◌, ℕ, zero, suc, ◌+◌, ◌<◌, ◌≤◌, Bool, true, false, ◌&&◌, List, [], ◌∷◌, length, get_or, refl, sym, ap, ◌∙◌, subst, arith, inl, inr}
use Rattle.std.specs.Prelude.{IsTrue, nat_lt, nat_eq}
use Rattle.std.proofs.lemmas.Bool.{ltb-true, eqb-true, true≢false}
use Rattle.ssa_form.specs.declared.form.Val.{Val}
use Rattle.ssa_form.specs.declared.form.Val.TheVariants.{Param, Line as Named, Num}
use Rattle.ssa_form.specs.declared.form.Line.{Line}
use Rattle.ssa_form.specs.declared.form.Line.TheVariants.{Bin, One, Select, Load, Store, Gone}
use Rattle.ssa_form.specs.declared.form.Exit.{Exit}
use Rattle.ssa_form.specs.declared.form.Exit.TheVariants.{Jump, Cond, Way, Island}
use Rattle.ssa_form.specs.declared.form.Block.{Block}
use Rattle.ssa_form.specs.Checked.{has_result, val_checked, line_checked, lines_checked, vals_checked, exit_checked, checked}
use Rattle.ssa_form.specs.Same.{IsWord, OnWords, AllOnWords, SpellsWords, rows}
use Rattle.ssa_form.specs.Value.{numbered}
use Rattle.code_laws.specs.Placed.{IsNamed, Names, IsVal, ValsOf}
use Rattle.code_laws.specs.Moves.{AreOuts}

pub both : (a b : Bool) → (a && b) ≡ true → (a ≡ true) × (b ≡ true)
both true true h = (refl, refl)
both true false h = (refl, h)
both false b h = absurd (true≢false (sym h))

-- the line has a result
abbrev pub Gives : List Line → ℕ → Type 0
Gives ls j = has_result (get_or ls j Gone) ≡ true

pub gives_low : (ls : List Line) (j : ℕ) → Gives ls j → j < length ls
gives_low [] j h = absurd (true≢false (sym h))
gives_low (l ∷ ls) zero h = omega arith
gives_low (l ∷ ls) (suc j) h = let q = gives_low ls j h in omega (arith, q)

-- a name of one of the first n lines
abbrev pub Checks : List Line → ℕ → Val → Type 0
Checks ls n (Param v) = v < 14
Checks ls n (Named j) = (j < n) × Gives ls j
Checks ls n (Num k) = Unit {0}

pub val_checks : (ls : List Line) (n : ℕ) (v : Val) → val_checked ls n v ≡ true → Checks ls n v
val_checks ls n (Param v) h = ltb-true v 14 h
val_checks ls n (Named j) h = let q = both (nat_lt j n) (has_result (get_or ls j Gone)) h in (ltb-true j n q.0, q.1)
val_checks ls n (Num k) h = tt

pub names_checks : (ls : List Line) (n : ℕ) (v : Val) (j : ℕ) → Checks ls n v → IsNamed v j → (j < n) × Gives ls j
names_checks ls n (Param v) j h i = absurd i
names_checks ls n (Named k) j h i = subst (λ m. (m < n) × Gives ls m) i h
names_checks ls n (Num k) j h i = absurd i

pub val_fits : (ls : List Line) (n limit : ℕ) (v : Val) → n ≤ limit → Checks ls n v → IsWord v → IsVal limit v
val_fits ls n limit (Param v) l h w = h
val_fits ls n limit (Named j) l h w = let q = h.0 in omega (arith, l, q)
val_fits ls n limit (Num k) l h w = w

abbrev pub LineChecks : List Line → ℕ → Line → Type 0
LineChecks ls n (Bin op a b) = Checks ls n a × Checks ls n b
LineChecks ls n (One op a) = Checks ls n a
LineChecks ls n (Select c a b) = Checks ls n c × Checks ls n a × Checks ls n b
LineChecks ls n (Load w at) = Checks ls n at
LineChecks ls n (Store w at a) = Checks ls n at × Checks ls n a
LineChecks ls n Gone = Unit {0}

line_checks : (ls : List Line) (n : ℕ) (l : Line) → line_checked ls n l ≡ true → LineChecks ls n l
line_checks ls n (Bin op a b) h = let q = both (val_checked ls n a) (val_checked ls n b) h in (val_checks ls n a q.0, val_checks ls n b q.1)
line_checks ls n (One op a) h = val_checks ls n a h
line_checks ls n (Select c a b) h =
    let q = both (val_checked ls n c) (val_checked ls n a && val_checked ls n b) h in
    let r = both (val_checked ls n a) (val_checked ls n b) q.1 in
    (val_checks ls n c q.0, val_checks ls n a r.0, val_checks ls n b r.1)
line_checks ls n (Load w at) h = val_checks ls n at h
line_checks ls n (Store w at a) h = let q = both (val_checked ls n at) (val_checked ls n a) h in (val_checks ls n at q.0, val_checks ls n a q.1)
line_checks ls n Gone h = tt

pub line_names : (ls : List Line) (n : ℕ) (l : Line) (j : ℕ) → LineChecks ls n l → Names l j → (j < n) × Gives ls j
line_names ls n (Bin op a b) j h (inl i) = names_checks ls n a j h.0 i
line_names ls n (Bin op a b) j h (inr i) = names_checks ls n b j h.1 i
line_names ls n (One op a) j h i = names_checks ls n a j h i
line_names ls n (Select c a b) j h (inl i) = names_checks ls n c j h.0 i
line_names ls n (Select c a b) j h (inr (inl i)) = names_checks ls n a j h.1 i
line_names ls n (Select c a b) j h (inr (inr i)) = names_checks ls n b j h.2 i
line_names ls n (Load w at) j h i = names_checks ls n at j h i
line_names ls n (Store w at a) j h (inl i) = names_checks ls n at j h.0 i
line_names ls n (Store w at a) j h (inr i) = names_checks ls n a j h.1 i
line_names ls n Gone j h i = absurd i

pub line_fits : (ls : List Line) (n limit : ℕ) (l : Line) → n ≤ limit → LineChecks ls n l → OnWords l → ValsOf limit l
line_fits ls n limit (Bin op a b) k h w = (val_fits ls n limit a k h.0 w.0, val_fits ls n limit b k h.1 w.1)
line_fits ls n limit (One op a) k h w = val_fits ls n limit a k h w
line_fits ls n limit (Select c a b) k h w = (val_fits ls n limit c k h.0 w.0, val_fits ls n limit a k h.1 w.1, val_fits ls n limit b k h.2 w.2)
line_fits ls n limit (Load s at) k h w = val_fits ls n limit at k h w
line_fits ls n limit (Store s at a) k h w = (val_fits ls n limit at k h.0 w.0, val_fits ls n limit a k h.1 w.1)
line_fits ls n limit Gone k h w = tt

-- rows from a number on: each is the line of its number, and names earlier ones
abbrev pub RowsCheck : List Line → ℕ → List (ℕ × Line) → Type 0
RowsCheck ls at [] = at ≡ length ls
RowsCheck ls at (p ∷ ps) = (p.0 ≡ at) × (get_or ls at Gone ≡ p.1) × LineChecks ls at p.1 × OnWords p.1 × RowsCheck ls (suc at) ps

rows_from : (ls : List Line) (at : ℕ) (rest : List Line) → at + length rest ≡ length ls → ((i : ℕ) → get_or ls (at + i) Gone ≡ get_or rest i Gone) → lines_checked ls at rest ≡ true → AllOnWords rest → RowsCheck ls at (numbered at rest)
rows_from ls at [] n e h w = omega (arith, n)
rows_from ls at (l ∷ rest) n e h w =
    let q = both (line_checked ls at l) (lines_checked ls (suc at) rest) h in
    let z : at + 0 ≡ at = omega arith in (
      refl,
      ap (λ k. get_or ls k Gone) (sym z) ∙ e 0,
      line_checks ls at l q.0,
      w.0,
      rows_from ls (suc at) rest (omega (arith, n)) (λ i. let y : suc at + i ≡ at + suc i = omega arith in ap (λ k. get_or ls k Gone) y ∙ e (suc i)) q.1 w.1,
    )

module _ (b : Block) (ok : IsTrue (checked b)) (words : SpellsWords b) where
  parts : (nat_eq (length b.outs) 14 ≡ true) × (lines_checked b.lines 0 b.lines ≡ true) × (vals_checked b.lines (length b.lines) b.outs ≡ true) × (exit_checked b.lines (length b.lines) b.exit ≡ true)
  parts =
      let p = both _ _ ok in
      let q = both _ _ p.1 in
      let r = both _ _ q.1 in
      (p.0, q.0, r.0, r.1)

  pub rows_check : RowsCheck b.lines 0 (rows b)
  rows_check = rows_from b.lines 0 b.lines (omega arith) (λ i. let z : 0 + i ≡ i = omega arith in ap (λ k. get_or b.lines k Gone) z) parts.1 words.lines

  pub outs_count : length b.outs ≡ 14
  outs_count = eqb-true (length b.outs) 14 parts.0

  out_from : (vs : List Val) → vals_checked b.lines (length b.lines) vs ≡ true → (v : ℕ) → Checks b.lines (length b.lines) (get_or vs v (Num 0))
  out_from [] h v = tt
  out_from (x ∷ vs) h zero = val_checks b.lines (length b.lines) x (both _ _ h).0
  out_from (x ∷ vs) h (suc v) = out_from vs (both _ _ h).1 v

  pub out_checks : (v : ℕ) → Checks b.lines (length b.lines) (get_or b.outs v (Num 0))
  out_checks v = out_from b.outs parts.2 v

  pub are_outs : AreOuts (length b.lines) b.outs
  are_outs = record { count = outs_count; each = λ v l. val_fits b.lines (length b.lines) (length b.lines) (get_or b.outs v (Num 0)) (omega arith) (out_checks v) (words.outs v) }

  abbrev pub ExitChecks : Exit → Type 0
  ExitChecks (Cond test taken next) = Checks b.lines (length b.lines) test
  ExitChecks (Way v) = Checks b.lines (length b.lines) v
  ExitChecks (Jump to) = Unit {0}
  ExitChecks (Island len) = Unit {0}

  exit_from : (x : Exit) → exit_checked b.lines (length b.lines) x ≡ true → ExitChecks x
  exit_from (Cond test taken next) h = val_checks b.lines (length b.lines) test h
  exit_from (Way v) h = val_checks b.lines (length b.lines) v h
  exit_from (Jump to) h = tt
  exit_from (Island len) h = tt

  pub exit_checks : ExitChecks b.exit
  exit_checks = exit_from b.exit parts.3

-- Every line in the body.
use Rattle.std.proofs.Common.{◌≡◌, ℕ, zero, suc, ◌+◌, ◌<◌, Bool, true, false, ◌&&◌, List, [], ◌∷◌, length, get_or, refl, inl, inr, ap, ◌∙◌, arith}
use Rattle.std.specs.Prelude.{nat_lt, replicate}
use Rattle.std.proofs.lemmas.Bool.{and_parts, ltb-true, or_left}
use Rattle.std.proofs.lemmas.List.{length-replicate, get_or-replicate}
use Rattle.ssa_form.specs.declared.form.Val.{Val}
use Rattle.ssa_form.specs.declared.form.Val.TheVariants as val
use Rattle.ssa_form.specs.declared.form.Line.{Line}
use Rattle.ssa_form.specs.declared.form.Line.TheVariants.{Bin, One, Select, Load, Store, Gone}
use Rattle.ssa_form.specs.declared.form.Block.{Block}
use Rattle.ssa_form.specs.Checked.{has_result, val_checked, line_checked, lines_checked, checked}
use Rattle.reg_place.specs.Places.{IsNamed, Names, IsSplit, is_in}

module _ (ls : List Line) where
  val_named : (n : ℕ) (v : Val) (j : ℕ) → val_checked ls n v ≡ true → IsNamed v j → j < n
  val_named n (val.Param v) j c h = absurd h
  val_named n (val.Line k) j c h = let l = ltb-true k n (and_parts (nat_lt k n) (has_result (get_or ls k Gone)) c).0 in omega (arith, l, h)
  val_named n (val.Num k) j c h = absurd h

  line_named : (n : ℕ) (l : Line) (j : ℕ) → line_checked ls n l ≡ true → Names l j → j < n
  line_named n (Bin op a b) j c (inl h) = val_named n a j (and_parts (val_checked ls n a) (val_checked ls n b) c).0 h
  line_named n (Bin op a b) j c (inr h) = val_named n b j (and_parts (val_checked ls n a) (val_checked ls n b) c).1 h
  line_named n (One op a) j c h = val_named n a j c h
  line_named n (Select t a b) j c (inl h) = val_named n t j (and_parts (val_checked ls n t) (val_checked ls n a && val_checked ls n b) c).0 h
  line_named n (Select t a b) j c (inr (inl h)) = val_named n a j (and_parts (val_checked ls n a) (val_checked ls n b) (and_parts (val_checked ls n t) (val_checked ls n a && val_checked ls n b) c).1).0 h
  line_named n (Select t a b) j c (inr (inr h)) = val_named n b j (and_parts (val_checked ls n a) (val_checked ls n b) (and_parts (val_checked ls n t) (val_checked ls n a && val_checked ls n b) c).1).1 h
  line_named n (Load w at) j c h = val_named n at j c h
  line_named n (Store w at a) j c (inl h) = val_named n at j (and_parts (val_checked ls n at) (val_checked ls n a) c).0 h
  line_named n (Store w at a) j c (inr h) = val_named n a j (and_parts (val_checked ls n at) (val_checked ls n a) c).1 h
  line_named n Gone j c h = absurd h

  lines_named : (n : ℕ) (rest : List Line) (i j : ℕ) → lines_checked ls n rest ≡ true → Names (get_or rest i Gone) j → j < n + i
  lines_named n [] i j c h = absurd h
  lines_named n (l ∷ rest) zero j c h = let q = line_named n l j (and_parts (line_checked ls n l) (lines_checked ls (suc n) rest) c).0 h in omega (arith, q)
  lines_named n (l ∷ rest) (suc i) j c h = let q = lines_named (suc n) rest i j (and_parts (line_checked ls n l) (lines_checked ls (suc n) rest) c).1 h in omega (arith, q)

pub all_in_body : (b : Block) (body sunk : List Bool) → checked b ≡ true → body ≡ replicate (length b.lines) true → sunk ≡ replicate (length b.lines) false → IsSplit b (record { body = body; sunk = sunk })
all_in_body b body sunk c e f =
    let lines : lines_checked b.lines 0 b.lines ≡ true = (and_parts (lines_checked b.lines 0 b.lines) _ (and_parts _ _ c).1).0 in
    let on : (j : ℕ) → j < length b.lines → is_in body j ≡ true = λ j l. ap (λ xs. is_in xs j) e ∙ get_or-replicate (length b.lines) j true false l in
    let named : (i j : ℕ) → i < length b.lines → Names (get_or b.lines i Gone) j → j < length b.lines = λ i j l h. let q : j < 0 + i = lines_named b.lines 0 b.lines i j lines h in omega (arith, q, l) in
    record {
      body = ap length e ∙ length-replicate (length b.lines) true;
      sunk = ap length f ∙ length-replicate (length b.lines) false;
      apart = λ i h. ap (λ xs. is_in xs i) f ∙ off i (length b.lines);
      closed = λ i j l h n. on j (named i j l n);
      together = λ i j l h n. or_left (is_in body j) (is_in sunk j) (on j (named i j l n));
    }
  where
    off : (i n : ℕ) → is_in (replicate n false) i ≡ false
    off i zero = refl
    off zero (suc n) = refl
    off (suc i) (suc n) = off i n

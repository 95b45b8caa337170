-- Folded blocks are checked.
use Rattle.std.proofs.Common.{◌≡◌, ℕ, suc, ◌+◌, ◌<◌, ◌⊎◌, Bool, true, List, [], ◌∷◌, ◌++◌, length, get_or, map, Option, Some, None, sym, ap, subst, ◌∙◌, refl, arith, ⊎_elim, length-append}
use Rattle.std.specs.Prelude.{◌&&◌, nat_lt, nat_eq}
use Rattle.std.proofs.lemmas.Bool.{cases_lt}
use Rattle.std.proofs.lemmas.Bool.Decides.{nat_tests}
use Rattle.std.proofs.lemmas.List.{get_or_append_left, get_or_at}
use Rattle.ssa_form.specs.declared.form.Val.{Val}
use Rattle.ssa_form.specs.declared.form.Val.TheVariants.{Param, Line as Of, Num}
use Rattle.ssa_form.specs.declared.form.Line.{Line}
use Rattle.ssa_form.specs.declared.form.Line.TheVariants.{Bin, One, Select, Load, Store, Gone}
use Rattle.ssa_form.specs.declared.form.Exit.{Exit}
use Rattle.ssa_form.specs.declared.form.Exit.TheVariants.{Jump, Cond, Way, Island}
use Rattle.ssa_form.specs.declared.form.Block.{Block}
use Rattle.ssa_form.specs.Checked.{has_result, val_checked, line_checked, lines_checked, vals_checked, exit_checked, checked}
use Rattle.pass_const.specs.Rule.{rule, IsNumber, IsOperand, EachIsOperand}
use Rattle.pass_copy.specs.Folded.{replaced, line_replaced, exit_replaced, kept, stand, folded_lines, stands, folded, SameKind}
use Rattle.pass_copy.proofs.Keeping.{and_left, and_right, folded_length}

both : (a b : Bool) → a ≡ true → b ≡ true → (a && b) ≡ true
both a b e g = rw e g

less : (j n : ℕ) → nat_lt j n ≡ true → j < n
less j n e = grind (arith, nat_tests)

is_less : (j n : ℕ) → j < n → nat_lt j n ≡ true
is_less j n e = grind (arith, nat_tests)

-- ---- what takes a line's place is checked
module _ (operands : EachIsOperand) (new : List Line) (n : ℕ) where
  abbrev pub Fine : Option Val → Type 0
  Fine None = Unit {0}
  Fine (Some v) = val_checked new n v ≡ true

  number_fine : (v : Val) → IsNumber v → val_checked new n v ≡ true
  number_fine v h = ap (val_checked new n) h.1

  one_of : (a b v : Val) → val_checked new n a ≡ true → val_checked new n b ≡ true → IsNumber v ⊎ ((v ≡ a) ⊎ (v ≡ b)) → val_checked new n v ≡ true
  one_of a b v h g o = ⊎_elim (number_fine v) (λ i. ⊎_elim (λ q. ap (val_checked new n) q ∙ h) (λ q. ap (val_checked new n) q ∙ g) i) o

  operand_fine : (l : Line) (v : Val) → line_checked new n l ≡ true → IsOperand l v → val_checked new n v ≡ true
  operand_fine (Bin o a b) v c i = one_of a b v (and_left _ _ c) (and_right (val_checked new n a) _ c) i
  operand_fine (One o a) v c i = number_fine v i
  operand_fine (Select x a b) v c i = let r = and_right (val_checked new n x) _ c in one_of a b v (and_left _ _ r) (and_right (val_checked new n a) _ r) i
  operand_fine (Load w at) v c i = number_fine v i
  operand_fine (Store w at a) v c i = number_fine v i
  operand_fine Gone v c i = number_fine v i

  rule_fine : (l : Line) → line_checked new n l ≡ true → Fine (rule l)
  rule_fine l c = go (rule l) refl
    where
      go : (o : Option Val) → rule l ≡ o → Fine o
      go None q = tt
      go (Some v) q = operand_fine l v c (operands l v q)

module _ (operands : EachIsOperand) (all new : List Line) where
  -- the Vals that stand for lines with a result are checked
  record Standing (n : ℕ) (t : List Val) : Type 0 where
    pub count : length t ≡ n
    pub each : (j : ℕ) → j < n → has_result (get_or all j Gone) ≡ true → val_checked new n (get_or t j (Num 0)) ≡ true

  replaced_checked : (n : ℕ) (t : List Val) (v : Val) → Standing n t → val_checked all n v ≡ true → val_checked new n (replaced t v) ≡ true
  replaced_checked n t (Param v) h c = c
  replaced_checked n t (Of j) h c = h.each j (less j n (and_left (nat_lt j n) _ c)) (and_right (nat_lt j n) _ c)
  replaced_checked n t (Num k) h c = refl

  line_replaced_checked : (n : ℕ) (t : List Val) (l : Line) → Standing n t → line_checked all n l ≡ true → line_checked new n (line_replaced t l) ≡ true
  line_replaced_checked n t (Bin op a b) h c = both _ _ (replaced_checked n t a h (and_left _ _ c)) (replaced_checked n t b h (and_right (val_checked all n a) _ c))
  line_replaced_checked n t (One op a) h c = replaced_checked n t a h c
  line_replaced_checked n t (Select x a b) h c =
      let r = and_right (val_checked all n x) _ c in
      both _ _ (replaced_checked n t x h (and_left _ _ c)) (both _ _ (replaced_checked n t a h (and_left _ _ r)) (replaced_checked n t b h (and_right (val_checked all n a) _ r)))
  line_replaced_checked n t (Load w at) h c = replaced_checked n t at h c
  line_replaced_checked n t (Store w at a) h c = both _ _ (replaced_checked n t at h (and_left _ _ c)) (replaced_checked n t a h (and_right (val_checked all n at) _ c))
  line_replaced_checked n t Gone h c = refl

  kept_checked : (n : ℕ) (o : Option Val) (m : Line) → line_checked new n m ≡ true → line_checked new n (kept o m) ≡ true
  kept_checked n None m c = c
  kept_checked n (Some v) m c = refl

  later_checked : (n : ℕ) (v : Val) → val_checked new n v ≡ true → val_checked new (suc n) v ≡ true
  later_checked n (Param v) c = c
  later_checked n (Of j) c = both _ _ (is_less j (suc n) (let l = less j n (and_left (nat_lt j n) _ c) in omega arith)) (and_right (nat_lt j n) _ c)
  later_checked n (Num k) c = refl

  same_result : (t : List Val) (l : Line) → has_result (line_replaced t l) ≡ has_result l
  same_result t (Bin op a b) = refl
  same_result t (One op a) = refl
  same_result t (Select x a b) = refl
  same_result t (Load w at) = refl
  same_result t (Store w at a) = refl
  same_result t Gone = refl

  stand_checked : (n k : ℕ) (o : Option Val) (m : Line) → k ≡ n → get_or new n Gone ≡ kept o m → has_result m ≡ true → Fine operands new n o → val_checked new (suc n) (stand o k) ≡ true
  stand_checked n k None m q g r f =
      let P : ℕ → Type 0 = λ i. val_checked new (suc n) (Of i) ≡ true in
      subst P (sym q) (both _ _ (is_less n (suc n) (omega arith)) (ap has_result g ∙ r))
  stand_checked n k (Some w) m q g r f = later_checked n w f

  standing_more : (n : ℕ) (t : List Val) (w : Val) → Standing n t → (has_result (get_or all n Gone) ≡ true → val_checked new (suc n) w ≡ true) → Standing (suc n) (t ++ w ∷ [])
  standing_more n t w h own = record {
    count = omega (arith, length-append t (w ∷ []), h.count);
    each = λ j l r. ⊎_elim
        (λ low. let c : j < length t = omega (arith, h.count) in
        let H : Val → Type 0 = λ v. val_checked new (suc n) v ≡ true in
        subst H (sym (get_or_append_left t (w ∷ []) (Num 0) j c)) (later_checked n (get_or t j (Num 0)) (h.each j low r)))
        (λ ge. let is : n ≡ j = omega arith in
        let H : Val → Type 0 = λ v. val_checked new (suc n) v ≡ true in
        subst H (sym (get_or_at t w [] (Num 0) j (h.count ∙ is))) (own (ap (λ i. has_result (get_or all i Gone)) is ∙ r)))
        (cases_lt j n);
  }

  -- both lists from line n on
  standing_step : (n : ℕ) (t : List Val) (l : Line) → get_or all n Gone ≡ l → get_or new n Gone ≡ kept (rule (line_replaced t l)) (line_replaced t l) → line_checked all n l ≡ true → Standing n t → Standing (suc n) (t ++ stand (rule (line_replaced t l)) (length t) ∷ [])
  standing_step n t l a g c h =
      let m = line_replaced t l in
      standing_more n t _ h (λ r. stand_checked n (length t) (rule m) m h.count g (same_result t l ∙ ap has_result (sym a) ∙ r) (rule_fine operands new n m (line_replaced_checked n t l h c)))

  lines_folded : (n : ℕ) (t : List Val) (ls : List Line) → ((k j : ℕ) → j ≡ n + k → get_or all j Gone ≡ get_or ls k Gone) → ((k j : ℕ) → j ≡ n + k → get_or new j Gone ≡ get_or (folded_lines t ls) k Gone) → lines_checked all n ls ≡ true → Standing n t → (lines_checked new n (folded_lines t ls) ≡ true) × Standing (n + length ls) (stands t ls)
  lines_folded n t [] a g c h = let z : n ≡ n + 0 = omega arith in let P : ℕ → Type 0 = λ i. Standing i t in (refl, subst P z h)
  lines_folded n t (l ∷ ls) a g c h =
      let k = and_left (line_checked all n l) _ c in
      let next = standing_step n t l (a 0 n (omega arith)) (g 0 n (omega arith)) k h in
      let r = lines_folded (suc n) (t ++ stand (rule (line_replaced t l)) (length t) ∷ []) ls (λ k j e. a (suc k) j (omega arith)) (λ k j e. g (suc k) j (omega arith)) (and_right (line_checked all n l) _ c) next in
      let z : suc n + length ls ≡ n + suc (length ls) = omega arith in
      let P : ℕ → Type 0 = λ i. Standing i (stands t (l ∷ ls)) in
      (both _ _ (kept_checked n (rule (line_replaced t l)) (line_replaced t l) (line_replaced_checked n t l h k)) r.0, subst P z r.1)

  outs_folded : (n : ℕ) (t : List Val) (vs : List Val) → Standing n t → vals_checked all n vs ≡ true → vals_checked new n (map (replaced t) vs) ≡ true
  outs_folded n t [] h c = refl
  outs_folded n t (v ∷ vs) h c = both _ _ (replaced_checked n t v h (and_left _ _ c)) (outs_folded n t vs h (and_right (val_checked all n v) _ c))

  exit_folded : (n : ℕ) (t : List Val) (x : Exit) → Standing n t → exit_checked all n x ≡ true → exit_checked new n (exit_replaced t x) ≡ true
  exit_folded n t (Jump to) h c = refl
  exit_folded n t (Cond test taken next) h c = replaced_checked n t test h c
  exit_folded n t (Way v) h c = replaced_checked n t v h c
  exit_folded n t (Island len) h c = refl

outs_length : (t vs : List Val) → length (map (replaced t) vs) ≡ length vs
outs_length t [] = refl
outs_length t (v ∷ vs) = ap suc (outs_length t vs)

pub folded_checked : EachIsOperand → (b : Block) → checked b ≡ true → checked (folded b) ≡ true
folded_checked operands b c =
    let new = folded_lines [] b.lines in
    let t = stands [] b.lines in
    let r = and_right (nat_eq (length b.outs) 14) _ c in
    let s = and_right (lines_checked b.lines 0 b.lines) _ r in
    let h = lines_folded operands b.lines new 0 [] b.lines
    (λ k j e. let z : j ≡ k = omega arith in ap (λ i. get_or b.lines i Gone) z)
    (λ k j e. let z : j ≡ k = omega arith in ap (λ i. get_or new i Gone) z)
    (and_left _ _ r) (record { count = refl; each = λ j l g. absurd (omega arith) }) in
    let z : 0 + length b.lines ≡ length b.lines = omega arith in
    let P : ℕ → Type 0 = λ n. Standing operands b.lines new n t in
    let u = subst P z h.1 in
    let Q : ℕ → Type 0 = λ n. (vals_checked new n (map (replaced t) b.outs) && exit_checked new n (exit_replaced t b.exit)) ≡ true in
    both _ _ (ap (λ n. nat_eq n 14) (outs_length t b.outs) ∙ and_left _ _ c) (both _ _ h.0
    (subst Q (sym (folded_length b.lines [])) (both _ _
    (outs_folded operands b.lines new (length b.lines) t b.outs u (and_left _ _ s))
    (exit_folded operands b.lines new (length b.lines) t b.exit u (and_right (vals_checked b.lines (length b.lines) b.outs) _ s)))))

pub same_kind : (t : List Val) (x : Exit) → SameKind x (exit_replaced t x)
same_kind t (Jump to) = refl
same_kind t (Cond test taken next) = (refl, refl)
same_kind t (Way v) = tt
same_kind t (Island len) = refl

-- Folding keeps values.
use Rattle.std.proofs.Common.{◌≡◌, ℕ, zero, suc, ◌+◌, ◌^◌, ◌<◌, ◌≤◌, Bool, true, false, List, [], ◌∷◌, ◌++◌, length, get_or, Option, Some, None, map, ◌⊎◌, sym, ap, subst, ◌∙◌, refl, arith, length-append, ⊎_elim}
use Rattle.std.specs.Prelude.{◌&&◌, nat_lt, nat_eq, if◌then◌else◌}
use Rattle.std.proofs.lemmas.Bool.{eq-eqb, ne_eqb, cases_lt}
use Rattle.std.proofs.lemmas.Bool.Decides.{nat_tests}
use Rattle.std.proofs.lemmas.List.{get_or_append_left, get_or_at}
use Rattle.br_word.specs.Words.{size_of}
use Rattle.br_word.specs.Memory.{Region, load, store}
use Rattle.ssa_form.specs.declared.form.Val.{Val}
use Rattle.ssa_form.specs.declared.form.Val.TheVariants.{Param, Line as Of, Num}
use Rattle.ssa_form.specs.declared.form.Line.{Line}
use Rattle.ssa_form.specs.declared.form.Line.TheVariants.{Bin, One, Select, Load, Store, Gone}
use Rattle.ssa_form.specs.declared.form.Exit.{Exit}
use Rattle.ssa_form.specs.declared.form.Exit.TheVariants.{Jump, Cond, Way, Island}
use Rattle.ssa_form.specs.declared.form.Block.{Block}
use Rattle.ssa_form.specs.Value.{Env, value, with_line, line_next, fold, IsAllowed, AllAllowed, numbered, bin_value, one_value, select_value, loaded, stored, outs_of, exit_of}
use Rattle.ssa_form.specs.Checked.{val_checked, line_checked, lines_checked, vals_checked, exit_checked, checked}
use Rattle.ssa_form.specs.Same.{IsWord, OnWords, AllOnWords, HasWords, AreSmall, start_env, end_env, KeepsMeaning}
use Rattle.pass_copy.proofs.Bytes.{HoldsBytes, small_memory}
use Rattle.pass_copy.specs.Folded.{replaced, line_replaced, exit_replaced, kept, stand, folded_lines, stands, folded}
use Rattle.pass_const.specs.Rule.{rule, ReadsWords, EachHolds, IsNumber, IsOperand, EachIsOperand}
use Rattle.pass_copy.proofs.Words.{bin_fits, one_fits, select_fits, load_fits, store_small}

-- the name is of no line from n on
abbrev pub Below : ℕ → Val → Type 0
Below n (Param v) = Unit {0}
Below n (Of j) = j < n
Below n (Num k) = Unit {0}

-- the name has the value x, now and after more lines
pub record Holds (e : Env) (n : ℕ) (v : Val) (x : ℕ) : Type 0 where
  pub reads : value e v ≡ x
  pub made : Below n v

-- where a rule fits, its name has the value
abbrev pub Keeps : Env → ℕ → Option Val → ℕ → Type 0
Keeps e n None x = Unit {0}
Keeps e n (Some v) x = Holds e n v x

-- ---- what checked lines of words name
abbrev pub IsFine : ℕ → Val → Type 0
IsFine n (Param v) = v < 14
IsFine n (Of j) = j < n
IsFine n (Num k) = k < 2 ^ 32

abbrev pub NamesFine : ℕ → Line → Type 0
NamesFine n (Bin op a b) = IsFine n a × IsFine n b
NamesFine n (One op a) = IsFine n a
NamesFine n (Select c a b) = IsFine n c × IsFine n a × IsFine n b
NamesFine n (Load w at) = IsFine n at
NamesFine n (Store w at a) = IsFine n at × IsFine n a
NamesFine n Gone = Unit {0}

abbrev pub AllFine : ℕ → List Line → Type 0
AllFine n [] = Unit {0}
AllFine n (l ∷ ls) = NamesFine n l × AllFine (suc n) ls

pub and_left : (a b : Bool) → (a && b) ≡ true → a ≡ true
and_left true b q = refl
and_left false b q = q

pub and_right : (a b : Bool) → (a && b) ≡ true → b ≡ true
and_right true b q = q
and_right false b q = absurd (cc)

below_of : (j n : ℕ) → nat_lt j n ≡ true → j < n
below_of j n e = grind (arith, nat_tests)

fine : (ls : List Line) (n : ℕ) (v : Val) → val_checked ls n v ≡ true → IsWord v → IsFine n v
fine ls n (Param v) c w = below_of v 14 c
fine ls n (Of j) c w = below_of j n (and_left (nat_lt j n) _ c)
fine ls n (Num k) c w = w

line_fine : (ls : List Line) (n : ℕ) (l : Line) → line_checked ls n l ≡ true → OnWords l → NamesFine n l
line_fine ls n (Bin op a b) c w = (fine ls n a (and_left _ _ c) w.0, fine ls n b (and_right (val_checked ls n a) _ c) w.1)
line_fine ls n (One op a) c w = fine ls n a c w
line_fine ls n (Select x a b) c w =
    let r = and_right (val_checked ls n x) _ c in
    (fine ls n x (and_left _ _ c) w.0, fine ls n a (and_left _ _ r) w.1, fine ls n b (and_right (val_checked ls n a) _ r) w.2)
line_fine ls n (Load k at) c w = fine ls n at c w
line_fine ls n (Store k at a) c w = (fine ls n at (and_left _ _ c) w.0, fine ls n a (and_right (val_checked ls n at) _ c) w.1)
line_fine ls n Gone c w = tt

all_fine : (all : List Line) (n : ℕ) (ls : List Line) → lines_checked all n ls ≡ true → AllOnWords ls → AllFine n ls
all_fine all n [] c w = tt
all_fine all n (l ∷ ls) c w = (line_fine all n l (and_left _ _ c) w.0, all_fine all (suc n) ls (and_right (line_checked all n l) _ c) w.1)

-- ---- words
pub record AllWords (e : Env) : Type 0 where
  pub params : AreSmall e.params
  pub lines : (j : ℕ) → e.lines j < 2 ^ 32
  pub mem : HoldsBytes e.mem

val_fits : (n : ℕ) (e : Env) (v : Val) → AllWords e → IsFine n v → value e v < 2 ^ 32
val_fits n e (Param v) h i = h.params v i
val_fits n e (Of j) h i = h.lines j
val_fits n e (Num k) h i = i

line_words : (n x : ℕ) (e : Env) → x < 2 ^ 32 → AllWords e → AllWords (with_line n x e)
line_words n x e l h = record { params = h.params; lines = λ j. pick (nat_eq j n) j; mem = h.mem }
  where
    pick : (b : Bool) (j : ℕ) → (if b then x else e.lines j) < 2 ^ 32
    pick true j = l
    pick false j = h.lines j

words_on : (n : ℕ) (l : Line) (e : Env) → NamesFine n l → AllWords e → AllWords (line_next n l e)
words_on n (Bin o a b) e i h = line_words n _ e (bin_fits o _ _ (val_fits n e a h i.0) (val_fits n e b h i.1)) h
words_on n (One o a) e i h = line_words n _ e (one_fits o _) h
words_on n (Select c a b) e i h = line_words n _ e (select_fits (value e c) _ _ (val_fits n e a h i.1) (val_fits n e b h i.2)) h
words_on n (Load w at) e i h = line_words n _ e (load_fits w (value e at) e.mem h.mem) h
words_on n (Store w at a) e i h = record { params = h.params; lines = h.lines; mem = store_small (value e at) (size_of w) (value e a) e.mem h.mem }
words_on n Gone e i h = h

-- ---- the Vals that stand for the first n lines have their values
pub record Alike (n : ℕ) (t : List Val) (e f : Env) : Type 0 where
  pub params : f.params ≡ e.params
  pub mem : f.mem ≡ e.mem
  pub count : length t ≡ n
  pub holds : (j : ℕ) → j < n → Holds f n (get_or t j (Num 0)) (e.lines j)
  pub rest : (j : ℕ) → n ≤ j → f.lines j ≡ e.lines j

pub replaced_holds : (n : ℕ) (t : List Val) (e f : Env) (v : Val) → Alike n t e f → Below n v → Holds f n (replaced t v) (value e v)
replaced_holds n t e f (Param v) h i = record { reads = ap (λ g. g v) h.params; made = tt }
replaced_holds n t e f (Of j) h i = h.holds j i
replaced_holds n t e f (Num k) h i = record { reads = refl; made = tt }

below : (n : ℕ) (v : Val) → IsFine n v → Below n v
below n (Param v) i = tt
below n (Of j) i = i
below n (Num k) i = tt

moved : (n : ℕ) (f g : Env) (v : Val) (x : ℕ) → g.params ≡ f.params → ((j : ℕ) → j < n → g.lines j ≡ f.lines j) → Holds f n v x → Holds g (suc n) v x
moved n f g (Param v) x p l h = record { reads = ap (λ k. k v) p ∙ h.reads; made = tt }
moved n f g (Of j) x p l h = let m : j < n = h.made in record { reads = l j m ∙ h.reads; made = omega arith }
moved n f g (Num k) x p l h = record { reads = h.reads; made = tt }

pushed : (n : ℕ) (t : List Val) (e f e' f' : Env) (w : Val) → Alike n t e f → f'.params ≡ f.params → e'.params ≡ e.params → f'.mem ≡ e'.mem → ((j : ℕ) → j < n → e'.lines j ≡ e.lines j) → ((j : ℕ) → j < n → f'.lines j ≡ f.lines j) → Holds f' (suc n) w (e'.lines n) → ((j : ℕ) → suc n ≤ j → f'.lines j ≡ e'.lines j) → Alike (suc n) (t ++ w ∷ []) e' f'
pushed n t e f e' f' w h p q m le lf own rest = record {
  params = p ∙ h.params ∙ sym q;
  mem = m;
  count = omega (arith, length-append t (w ∷ []), h.count);
  holds = λ j l. ⊎_elim
      (λ low. let c : j < length t = omega (arith, h.count) in
      let H : Val → Type 0 = λ v. Holds f' (suc n) v (e'.lines j) in
      let K : ℕ → Type 0 = λ x. Holds f' (suc n) (get_or t j (Num 0)) x in
      subst H (sym (get_or_append_left t (w ∷ []) (Num 0) j c)) (subst K (sym (le j low)) (moved n f f' _ _ p lf (h.holds j low))))
      (λ ge. let is : n ≡ j = omega arith in
      let H : Val → Type 0 = λ v. Holds f' (suc n) v (e'.lines j) in
      let K : ℕ → Type 0 = λ x. Holds f' (suc n) w (e'.lines x) in
      subst H (sym (get_or_at t w [] (Num 0) j (h.count ∙ is))) (subst K is own))
      (cases_lt j n);
  rest = rest;
}

own_line : (n x : ℕ) (e : Env) → (with_line n x e).lines n ≡ x
own_line n x e = rw (eq-eqb n n refl) refl

other_line : (n x j : ℕ) (e : Env) → (j ≡ n → ⊥) → (with_line n x e).lines j ≡ e.lines j
other_line n x j e h = ap (λ (b : Bool). if b then x else e.lines j) (ne_eqb j n h)

-- a line that stays, that is replaced, that has no result
stays : (n k : ℕ) (t : List Val) (e f : Env) (x : ℕ) → k ≡ n → Alike n t e f → Alike (suc n) (t ++ Of k ∷ []) (with_line n x e) (with_line n x f)
stays n k t e f x q h = pushed n t e f _ _ (Of k) h refl refl h.mem
    (λ j l. other_line n x j e (λ z. omega arith))
    (λ j l. other_line n x j f (λ z. omega arith))
    (record { reads = ap (with_line n x f).lines q ∙ own_line n x f ∙ sym (own_line n x e); made = omega arith })
    (λ j l. other_line n x j f (λ z. omega arith) ∙ h.rest j (omega arith) ∙ sym (other_line n x j e (λ z. omega arith)))

goes : (n : ℕ) (t : List Val) (e f : Env) (w : Val) (x : ℕ) → Holds f n w x → Alike n t e f → Alike (suc n) (t ++ w ∷ []) (with_line n x e) f
goes n t e f w x k h =
    let H : ℕ → Type 0 = λ y. Holds f (suc n) w y in
    pushed n t e f _ _ w h refl refl h.mem
    (λ j l. other_line n x j e (λ z. omega arith))
    (λ j l. refl)
    (subst H (sym (own_line n x e)) (moved n f f w x refl (λ j l. refl) k))
    (λ j l. h.rest j (omega arith) ∙ sym (other_line n x j e (λ z. omega arith)))

silent : (n k : ℕ) (t : List Val) (e f : Env) (m m' : List Region) → k ≡ n → m' ≡ m → Alike n t e f → Alike (suc n) (t ++ Of k ∷ []) (record e { mem = m }) (record f { mem = m' })
silent n k t e f m m' q s h = pushed n t e f _ _ (Of k) h refl refl s (λ j l. refl) (λ j l. refl)
    (record { reads = ap f.lines q ∙ h.rest n (omega arith); made = omega arith })
    (λ j l. h.rest j (omega arith))

pure : (n : ℕ) (t : List Val) (e f : Env) (m : Line) (x : ℕ) (o : Option Val) → Alike n t e f → line_next n m f ≡ with_line n x f → Keeps f n o x → Alike (suc n) (t ++ stand o (length t) ∷ []) (with_line n x e) (line_next n (kept o m) f)
pure n t e f m x None h q k =
    let A : Env → Type 0 = λ g. Alike (suc n) (t ++ Of (length t) ∷ []) (with_line n x e) g in
    subst A (sym q) (stays n (length t) t e f x h.count h)
pure n t e f m x (Some w) h q k = goes n t e f w x k h

pub two : {A B C : Type 0} (f : A → B → C) (a a' : A) (b b' : B) → a ≡ a' → b ≡ b' → f a b ≡ f a' b'
two f a a' b b' e g = ap (λ x. f x b) e ∙ ap (f a') g

pub three : {A B C D : Type 0} (f : A → B → C → D) (a a' : A) (b b' : B) (c c' : C) → a ≡ a' → b ≡ b' → c ≡ c' → f a b c ≡ f a' b' c'
three f a a' b b' c c' e g h = ap (λ x. f x b c) e ∙ ap (λ y. f a' y c) g ∙ ap (f a' b') h

no_access : (o : Option Val) (m : Line) (f : Env) → IsAllowed m f → IsAllowed (kept o m) f
no_access None m f h = h
no_access (Some v) m f h = tt

step_allowed : (n : ℕ) (t : List Val) (e f : Env) (l : Line) → NamesFine n l → Alike n t e f → IsAllowed l e → IsAllowed (kept (rule (line_replaced t l)) (line_replaced t l)) f
step_allowed n t e f (Bin o a b) i h q = no_access (rule (line_replaced t (Bin o a b))) _ f tt
step_allowed n t e f (One o a) i h q = no_access (rule (line_replaced t (One o a))) _ f tt
step_allowed n t e f (Select c a b) i h q = no_access (rule (line_replaced t (Select c a b))) _ f tt
step_allowed n t e f (Load w at) i h q =
    let x = replaced_holds n t e f at h (below n at i) in
    (q.0, two (λ a m. load a (size_of w) m) _ _ _ _ x.reads h.mem ∙ q.1)
step_allowed n t e f (Store w at a) i h q =
    let x = replaced_holds n t e f at h (below n at i.0) in
    let y = replaced_holds n t e f a h (below n a i.1) in
    (q.0, three (λ p v m. store p (size_of w) v m) _ _ _ _ _ _ x.reads y.reads h.mem ∙ q.1)
step_allowed n t e f Gone i h q = tt

pub folded_length : (ls : List Line) (t : List Val) → length (folded_lines t ls) ≡ length ls
folded_length [] t = refl
folded_length (l ∷ ls) t = ap suc (folded_length ls _)

-- ---- outs and exit
below_checked : (ls : List Line) (n : ℕ) (v : Val) → val_checked ls n v ≡ true → Below n v
below_checked ls n (Param v) c = tt
below_checked ls n (Of j) c = below_of j n (and_left (nat_lt j n) _ c)
below_checked ls n (Num k) c = tt

outs_same : (ls : List Line) (n : ℕ) (t : List Val) (e f : Env) (vs : List Val) (v : ℕ) → vals_checked ls n vs ≡ true → Alike n t e f → outs_of (map (replaced t) vs) f v ≡ outs_of vs e v
outs_same ls n t e f [] v c h = refl
outs_same ls n t e f (x ∷ vs) zero c h = (replaced_holds n t e f x h (below_checked ls n x (and_left _ _ c))).reads
outs_same ls n t e f (x ∷ vs) (suc v) c h = outs_same ls n t e f vs v (and_right (val_checked ls n x) _ c) h

exit_same : (ls : List Line) (n : ℕ) (t : List Val) (e f : Env) (x : Exit) → exit_checked ls n x ≡ true → Alike n t e f → exit_of (exit_replaced t x) f ≡ exit_of x e
exit_same ls n t e f (Jump to) c h = refl
exit_same ls n t e f (Cond test taken next) c h = ap (λ z. select_value z taken next) (replaced_holds n t e f test h (below_checked ls n test c)).reads
exit_same ls n t e f (Way v) c h = (replaced_holds n t e f v h (below_checked ls n v c)).reads
exit_same ls n t e f (Island len) c h = refl

fits : (x y : ℕ) → x ≡ y → y < 2 ^ 32 → x < 2 ^ 32
fits x y e l = omega arith

-- a name that takes a line's place is a number or one of these
number_below : (n : ℕ) (v : Val) → IsNumber v → Below n v
number_below n v h = let P : Val → Type 0 = λ w. Below n w in subst P (sym h.1) tt

operand_below : (n : ℕ) (a b v : Val) → Below n a → Below n b → IsNumber v ⊎ ((v ≡ a) ⊎ (v ≡ b)) → Below n v
operand_below n a b v h g o = let P : Val → Type 0 = λ w. Below n w in ⊎_elim (number_below n v) (λ i. ⊎_elim (λ q. subst P (sym q) h) (λ q. subst P (sym q) g) i) o

module _ (rules : EachHolds) (operands : EachIsOperand) where
  -- the rule's name, where the line would get x
  ruled : (n x : ℕ) (f : Env) (m : Line) → ReadsWords f m → ((v : Val) → IsOperand m v → Below n v) → line_next n m f ≡ with_line n x f → Keeps f n (rule m) x
  ruled n x f m words made next = go (rule m) refl
    where
      go : (o : Option Val) → rule m ≡ o → Keeps f n o x
      go None q = tt
      go (Some v) q = record {
        reads = sym (own_line n (value f v) f) ∙ ap (λ (e : Env). e.lines n) (sym (rules m f n v words q) ∙ next) ∙ own_line n x f;
        made = made v (operands m v q);
      }

  step_alike : (n : ℕ) (t : List Val) (e f : Env) (l : Line) → NamesFine n l → AllWords e → Alike n t e f → Alike (suc n) (t ++ stand (rule (line_replaced t l)) (length t) ∷ []) (line_next n l e) (line_next n (kept (rule (line_replaced t l)) (line_replaced t l)) f)
  step_alike n t e f (Bin o a b) i w h =
      let x = replaced_holds n t e f a h (below n a i.0) in
      let y = replaced_holds n t e f b h (below n b i.1) in
      let next = ap (λ z. with_line n z f) (two (bin_value o) _ _ _ _ x.reads y.reads) in
      pure n t e f _ _ _ h next (ruled n _ f (line_replaced t (Bin o a b)) (fits _ _ x.reads (val_fits n e a w i.0), fits _ _ y.reads (val_fits n e b w i.1)) (λ v q. operand_below n _ _ v x.made y.made q) next)
  step_alike n t e f (One o a) i w h =
      let x = replaced_holds n t e f a h (below n a i) in
      let next = ap (λ z. with_line n (one_value o z) f) x.reads in
      pure n t e f _ _ _ h next (ruled n _ f (line_replaced t (One o a)) (fits _ _ x.reads (val_fits n e a w i)) (λ v q. number_below n v q) next)
  step_alike n t e f (Select c a b) i w h =
      let z = replaced_holds n t e f c h (below n c i.0) in
      let x = replaced_holds n t e f a h (below n a i.1) in
      let y = replaced_holds n t e f b h (below n b i.2) in
      let next = ap (λ z. with_line n z f) (three select_value _ _ _ _ _ _ z.reads x.reads y.reads) in
      pure n t e f _ _ _ h next (ruled n _ f (line_replaced t (Select c a b)) (fits _ _ z.reads (val_fits n e c w i.0), fits _ _ x.reads (val_fits n e a w i.1), fits _ _ y.reads (val_fits n e b w i.2)) (λ v q. operand_below n _ _ v x.made y.made q) next)
  step_alike n t e f (Load w at) i ws h =
      let x = replaced_holds n t e f at h (below n at i) in
      pure n t e f (Load w (replaced t at)) _ None h (ap (λ z. with_line n (loaded z) f) (two (λ a m. load a (size_of w) m) _ _ _ _ x.reads h.mem)) tt
  step_alike n t e f (Store w at a) i ws h =
      let x = replaced_holds n t e f at h (below n at i.0) in
      let y = replaced_holds n t e f a h (below n a i.1) in
      silent n (length t) t e f _ _ h.count (three (λ p v m. stored m (store p (size_of w) v m)) _ _ _ _ _ _ x.reads y.reads h.mem) h
  step_alike n t e f Gone i w h = silent n (length t) t e f e.mem f.mem h.count h.mem h

  -- ---- all lines
  pub lines_alike : (ls : List Line) (n : ℕ) (t : List Val) (e f : Env) → AllFine n ls → AllWords e → Alike n t e f → Alike (n + length ls) (stands t ls) (fold (numbered n ls) e) (fold (numbered n (folded_lines t ls)) f)
  lines_alike [] n t e f i w h =
      let z : n ≡ n + 0 = omega arith in
      let A : ℕ → Type 0 = λ k. Alike k t e f in
      subst A z h
  lines_alike (l ∷ ls) n t e f i w h =
      let z : suc n + length ls ≡ n + length (l ∷ ls) = omega arith in
      let A : ℕ → Type 0 = λ k. Alike k (stands t (l ∷ ls)) (fold (numbered n (l ∷ ls)) e) (fold (numbered n (folded_lines t (l ∷ ls))) f) in
      subst A z (lines_alike ls (suc n) _ _ _ i.1 (words_on n l e i.0 w) (step_alike n t e f l i.0 w h))

  pub lines_allowed : (ls : List Line) (n : ℕ) (t : List Val) (e f : Env) → AllFine n ls → AllWords e → Alike n t e f → AllAllowed (numbered n ls) e → AllAllowed (numbered n (folded_lines t ls)) f
  lines_allowed [] n t e f i w h a = tt
  lines_allowed (l ∷ ls) n t e f i w h a = (step_allowed n t e f l i.0 h a.0, lines_allowed ls (suc n) _ _ _ i.1 (words_on n l e i.0 w) (step_alike n t e f l i.0 w h) a.1)

  -- folding keeps what the block may do and gives
  pub fold_keeps : (b : Block) → checked b ≡ true → HasWords b → KeepsMeaning b (folded b)
  fold_keeps b c w p m small bytes a =
      let r = and_right (nat_eq (length b.outs) 14) _ c in
      let s = and_right (lines_checked b.lines 0 b.lines) _ r in
      let i = all_fine b.lines 0 b.lines (and_left _ _ r) w in
      let e = start_env p m in
      let ws : AllWords e = record { params = small; lines = λ j. omega arith; mem = small_memory m bytes } in
      let same : Alike 0 [] e e = record { params = refl; mem = refl; count = refl; holds = λ j l. absurd (omega arith); rest = λ j l. refl } in
      let z : 0 + length b.lines ≡ length b.lines = omega arith in
      let A : ℕ → Type 0 = λ k. Alike k (stands [] b.lines) (end_env b p m) (end_env (folded b) p m) in
      let h = subst A z (lines_alike b.lines 0 [] e e i ws same) in
      record {
        allowed = lines_allowed b.lines 0 [] e e i ws same a;
        outs = λ v l. outs_same b.lines (length b.lines) _ _ _ b.outs v (and_left _ _ s) h;
        memory = h.mem;
        exit = exit_same b.lines (length b.lines) _ _ _ b.exit (and_right (vals_checked b.lines (length b.lines) b.outs) _ s) h;
      }

-- Distances that are filled in, in code that is a part of more.
use Rattle.std.proofs.Common.{◌≡◌, ℕ, suc, ◌+◌, ◌≤◌, List, [], ◌∷◌, ◌++◌, length, take, drop, map, refl, sym, ap, ◌∙◌, arith, All, length-append}
use Rattle.std.proofs.lemmas.List.{append_assoc, take-append-le, drop-append-le, length-take-le, length-drop}
use Rattle.std.proofs.lemmas.List.Elements.{All-head, All-tail}
use Rattle.br_word.proofs.BitLaws.{length_bytes_of}
use Rattle.br_word.specs.Memory.{bytes_of}
use Rattle.ia_encode.specs.declared.item.Dest.{Dest}
use Rattle.ia_encode.specs.declared.item.Dest.TheVariants.{Block, Original, Label}
use Rattle.ia_encode.specs.Items.{distance}
use Rattle.block_make.specs.declared.fragment.Fix.{Fix}
use Rattle.code_layout.specs.Linked.{goes_out}
use Rattle.code_layout.specs.Layout.{Added, with_word, dest_of_fix, filled, filled_code, filled_from}
use Rattle.code_layout.specs.Rows.{forth, bytes_in, fixes_in}

-- a fix lies in so many bytes
abbrev pub IsInside : ℕ → Fix → Type 0
IsInside n f = f.at + 4 ≤ n

-- each fix of each fragment lies in it
abbrev pub AreInside : List Added → Type 0
AreInside [] = Unit {0}
AreInside (a ∷ more) = All (IsInside (length a.code.bytes)) a.code.fixes × AreInside more

take_front : (front x : List ℕ) (m k : ℕ) → m ≡ length front + k → take m (front ++ x) ≡ front ++ take k x
take_front [] x m k e = let s : m ≡ k = omega arith in ap (λ i. take i x) s
take_front (y ∷ front) x m k e = let s : m ≡ suc (length front + k) = omega arith in ap (λ i. take i (y ∷ (front ++ x))) s ∙ ap (λ l. y ∷ l) (take_front front x (length front + k) k refl)

drop_front : (front x : List ℕ) (m k : ℕ) → m ≡ length front + k → drop m (front ++ x) ≡ drop k x
drop_front [] x m k e = let s : m ≡ k = omega arith in ap (λ i. drop i x) s
drop_front (y ∷ front) x m k e = let s : m ≡ suc (length front + k) = omega arith in ap (λ i. drop i (y ∷ (front ++ x))) s ∙ drop_front front x (length front + k) k refl

-- a word put over bytes that follow others
pub word_front : (front x : List ℕ) (m k w : ℕ) → m ≡ length front + k → with_word m w (front ++ x) ≡ front ++ with_word k w x
word_front front x m k w e =
    ap (λ l. l ++ (bytes_of 4 w ++ drop (m + 4) (front ++ x))) (take_front front x m k e)
    ∙ ap (λ l. (front ++ take k x) ++ (bytes_of 4 w ++ l)) (drop_front front x (m + 4) (k + 4) (omega arith))
    ∙ append_assoc front (take k x) (bytes_of 4 w ++ drop (k + 4) x)

-- and before others
word_left : (x behind : List ℕ) (k w : ℕ) → k + 4 ≤ length x → with_word k w (x ++ behind) ≡ with_word k w x ++ behind
word_left x behind k w l =
    ap (λ z. z ++ (bytes_of 4 w ++ drop (k + 4) (x ++ behind))) (take-append-le k x behind (omega arith))
    ∙ ap (λ z. take k x ++ (bytes_of 4 w ++ z)) (drop-append-le (k + 4) x behind l)
    ∙ ap (λ z. take k x ++ z) (sym (append_assoc (bytes_of 4 w) (drop (k + 4) x) behind))
    ∙ sym (append_assoc (take k x) (bytes_of 4 w ++ drop (k + 4) x) behind)

pub length_word : (x : List ℕ) (k w : ℕ) → k + 4 ≤ length x → length (with_word k w x) ≡ length x
length_word x k w l = omega (arith, length-append (take k x) (bytes_of 4 w ++ drop (k + 4) x), length-append (bytes_of 4 w) (drop (k + 4) x), length_bytes_of 4 w, length-take-le k x (omega arith), length-drop (k + 4) x)

module _ (goes : Dest → ℕ) where
  abbrev put : ℕ → Fix → List ℕ → List ℕ
  put at f x = with_word f.at (distance (at + f.at + 4) (goes (dest_of_fix f))) x

  pub length_filled : (at : ℕ) (fs : List Fix) (x : List ℕ) → All (IsInside (length x)) fs → length (filled goes at fs x) ≡ length x
  length_filled at [] x h = refl
  length_filled at (f ∷ fs) x h =
      let l = length_word x f.at (distance (at + f.at + 4) (goes (dest_of_fix f))) (All-head (IsInside (length x)) f fs h) in
      length_filled at fs (put at f x) (rw l (All-tail (IsInside (length x)) f fs h)) ∙ l

  pub filled_left : (at : ℕ) (fs : List Fix) (x behind : List ℕ) → All (IsInside (length x)) fs → filled goes at fs (x ++ behind) ≡ filled goes at fs x ++ behind
  filled_left at [] x behind h = refl
  filled_left at (f ∷ fs) x behind h =
      let w = distance (at + f.at + 4) (goes (dest_of_fix f)) in
      let i = All-head (IsInside (length x)) f fs h in
      ap (filled goes at fs) (word_left x behind f.at w i)
      ∙ filled_left at fs (put at f x) behind (rw (length_word x f.at w i) (All-tail (IsInside (length x)) f fs h))

  filled_front : (at n : ℕ) (fs : List Fix) (front x : List ℕ) → length front ≡ n → filled goes at (map (forth n) fs) (front ++ x) ≡ front ++ filled goes (at + n) fs x
  filled_front at n [] front x e = refl
  filled_front at n (f ∷ fs) front x e =
      let d : at + (n + f.at) + 4 ≡ at + n + f.at + 4 = omega arith in
      ap (λ i. filled goes at (map (forth n) fs) (with_word (n + f.at) (distance i (goes (dest_of_fix f))) (front ++ x))) d
      ∙ ap (filled goes at (map (forth n) fs)) (word_front front x (n + f.at) f.at (distance (at + n + f.at + 4) (goes (dest_of_fix f))) (omega arith))
      ∙ filled_front at n fs front (put (at + n) f x) e

  pub filled_append : (at : ℕ) (fs gs : List Fix) (x : List ℕ) → filled goes at (fs ++ gs) x ≡ filled goes at gs (filled goes at fs x)
  filled_append at [] gs x = refl
  filled_append at (f ∷ fs) gs x = filled_append at fs gs (put at f x)

  filled_added : (at n : ℕ) (front : List ℕ) (added : List Added) → length front ≡ n → AreInside added → filled goes at (fixes_in n added) (front ++ bytes_in added) ≡ front ++ filled_from goes (at + n) added
  filled_added at n front [] e h = refl
  filled_added at n front (a ∷ more) e h =
      let first = filled_code goes (at + n) a.code in
      let rest = fixes_in (n + length a.code.bytes) more in
      let l : length first ≡ length a.code.bytes = length_filled (at + n) a.code.fixes a.code.bytes h.0 in
      let s : at + (n + length a.code.bytes) ≡ at + n + length a.code.bytes = omega arith in
      filled_append at (map (forth n) a.code.fixes) rest (front ++ (a.code.bytes ++ bytes_in more))
      ∙ ap (filled goes at rest) (filled_front at n a.code.fixes front (a.code.bytes ++ bytes_in more) e
      ∙ ap (λ z. front ++ z) (filled_left (at + n) a.code.fixes a.code.bytes (bytes_in more) h.0)
      ∙ sym (append_assoc front first (bytes_in more)))
      ∙ filled_added at (n + length a.code.bytes) (front ++ first) more (omega (arith, length-append front first, l, e)) h.1
      ∙ ap (λ i. (front ++ first) ++ filled_from goes i more) s
      ∙ append_assoc front first (filled_from goes (at + n + length a.code.bytes) more)

  -- all of it
  pub filled_all : (at : ℕ) (fs : List Fix) (x : List ℕ) (added : List Added) → All (IsInside (length x)) fs → AreInside added → filled goes at (fs ++ fixes_in (length x) added) (x ++ bytes_in added) ≡ filled goes at fs x ++ filled_from goes (at + length x) added
  filled_all at fs x added h i =
      filled_append at fs (fixes_in (length x) added) (x ++ bytes_in added)
      ∙ ap (filled goes at (fixes_in (length x) added)) (filled_left at fs x (bytes_in added) h)
      ∙ filled_added at (length x) (filled goes at fs x) added (length_filled at fs x h) i

-- destinations that are the same
pub goes_same : (p q out : ℕ → ℕ) → ((y : ℕ) → p y ≡ q y) → (d : Dest) → goes_out p out d ≡ goes_out q out d
goes_same p q out e (Block y) = e y
goes_same p q out e (Original y) = refl
goes_same p q out e (Label l) = refl

pub filled_same : (p q : Dest → ℕ) → ((d : Dest) → p d ≡ q d) → (at : ℕ) (fs : List Fix) (x : List ℕ) → filled p at fs x ≡ filled q at fs x
filled_same p q e at [] x = refl
filled_same p q e at (f ∷ fs) x =
    ap (λ t. filled p at fs (with_word f.at (distance (at + f.at + 4) t) x)) (e (dest_of_fix f))
    ∙ filled_same p q e at fs (with_word f.at (distance (at + f.at + 4) (q (dest_of_fix f))) x)

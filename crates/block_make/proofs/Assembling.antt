-- Assembling, one item further.
use Rattle.std.proofs.Common.{◌≡◌, ℕ, zero, suc, ◌+◌, ◌-◌, ◌<◌, ◌≤◌, All, List, [], ◌∷◌, ◌++◌, length, get_or, take, drop, Option, Some, None, refl, sym, ap, ◌∙◌, subst, arith, append_assoc, length-append, add-one}
use Rattle.std.specs.Prelude.{if◌then◌else◌, slice_get}
use Rattle.std.proofs.lemmas.List.{append-nil, length-take-le, length-drop, drop_all}
use Rattle.std.proofs.lemmas.List.Elements.{All-nil, All-cons}
use Rattle.br_word.proofs.BitLaws.{length_bytes_of}
use Rattle.br_word.specs.Memory.{bytes_of}
use Rattle.std.proofs.Math.Seq.{drop-cons}
use Rattle.ia_inst.specs.Canonical.{canonical}
use Rattle.ia_inst.specs.declared.inst.Inst.TheVariants.{Jcc, Jmp}
use Rattle.ia_encode.specs.declared.item.Dest.{Dest}
use Rattle.ia_encode.specs.declared.item.Dest.TheVariants as dests
use Rattle.ia_encode.specs.declared.item.Item.{Item}
use Rattle.ia_encode.specs.declared.item.Item.TheVariants as item
use Rattle.ia_encode.specs.Items.{jump_inst, size_of_jump, size_of_item, size_of_items, is_label, label_at, dest_at, distance, AreValid}
use Rattle.block_make.specs.declared.fragment.Fix.{Fix}
use Rattle.block_make.specs.FragmentCode.{open_bytes, open_items, fix_of, fixes_of}
use Rattle.block_make.specs.Labels.{IsItem, IsInside, noted_or, offset_in, blank_bytes, local_of, with_word, closed}

split : (xs : List Item) (i : ℕ) (d : Item) → i < length xs → drop i xs ≡ get_or xs i d ∷ drop (i + 1) xs
split xs i d l = drop-cons xs i d l ∙ ap (λ k. get_or xs i d ∷ drop k xs) (sym (add-one i))

-- ---- items of a list

-- what an index past the end reads
abbrev pub no_item : Item
no_item = item.Inst (Rattle.ia_inst.specs.declared.inst.Inst.TheVariants.Alu 0 Rattle.br_word.specs.declared.types.Width.TheVariants.B8 (Rattle.ia_inst.specs.declared.inst.Rm.TheVariants.Reg 0) (Rattle.ia_inst.specs.declared.inst.Src.TheVariants.Rm (Rattle.ia_inst.specs.declared.inst.Rm.TheVariants.Reg 0)))

pub item_valid : (items : List Item) (i : ℕ) (d : Item) → i < length items → AreValid items → IsItem (get_or items i d)
item_valid [] i d l v = absurd (omega arith)
item_valid (item.Inst x ∷ is) zero d l v = v.0
item_valid (item.Byte b ∷ is) zero d l v = tt
item_valid (item.Jump cond t ∷ is) zero d l v = v.0
item_valid (item.Label m ∷ is) zero d l v = tt
item_valid (item.Inst x ∷ is) (suc i) d l v = item_valid is i d (omega arith) v.1
item_valid (item.Byte b ∷ is) (suc i) d l v = item_valid is i d (omega arith) v
item_valid (item.Jump cond t ∷ is) (suc i) d l v = item_valid is i d (omega arith) v.1
item_valid (item.Label m ∷ is) (suc i) d l v = item_valid is i d (omega arith) v

pub sizes_more : (items : List Item) (i : ℕ) (d : Item) → i < length items → size_of_items (drop i items) ≡ size_of_item (get_or items i d) + size_of_items (drop (i + 1) items)
sizes_more items i d l = ap size_of_items (split items i d l)

-- ---- labels

abbrev pub AreNoted : List (Option ℕ) → ℕ → List Item → List Item → Type 0
AreNoted labels offset items all = (l : ℕ) → noted_or (label_at offset items l) (slice_get labels l) ≡ label_at 0 all l

pub none_noted : (all : List Item) → AreNoted [] 0 all all
none_noted all l = refl

pub item_noted : (labels more : List (Option ℕ)) (items all : List Item) (i offset next : ℕ) (d : Item) → i < length items → next ≡ offset + size_of_item (get_or items i d) → ((l other : ℕ) → noted_or other (slice_get more l) ≡ noted_or (if is_label l (get_or items i d) then offset else other) (slice_get labels l)) → AreNoted labels offset (drop i items) all → AreNoted more next (drop (i + 1) items) all
item_noted labels more items all i offset next d lt n m h l =
    ap (λ k. noted_or (label_at k (drop (i + 1) items) l) (slice_get more l)) n
    ∙ m l (label_at (offset + size_of_item (get_or items i d)) (drop (i + 1) items) l)
    ∙ sym (ap (λ xs. noted_or (label_at offset xs l) (slice_get labels l)) (split items i d lt))
    ∙ h l

-- ---- bytes and fixes

-- what `direct_lengths` says
pub record HasLengths : Type 0 where
  pub jcc : (cond distance : ℕ) → length (canonical (Jcc cond distance)) ≡ 6
  pub jmp : (distance : ℕ) → length (canonical (Jmp distance)) ≡ 5

jump_length : HasLengths → (cond : Option ℕ) (rel : ℕ) → length (canonical (jump_inst cond rel)) ≡ size_of_jump cond
jump_length h None rel = h.jmp rel
jump_length h (Some c) rel = h.jcc c rel

pub open_length : HasLengths → (dest : Dest → ℕ) (at : ℕ) (x : Item) → length (open_bytes dest at x) ≡ size_of_item x
open_length h dest at (item.Jump cond (dests.Block y)) = jump_length h cond 0
open_length h dest at (item.Jump cond (dests.Original y)) = jump_length h cond 0
open_length h dest at (item.Jump cond (dests.Label l)) = jump_length h cond (distance (at + size_of_jump cond) (dest (dests.Label l)))
open_length h dest at (item.Inst i) = refl
open_length h dest at (item.Byte b) = refl
open_length h dest at (item.Label l) = refl

blank_length : HasLengths → (x : Item) → length (blank_bytes x) ≡ size_of_item x
blank_length h (item.Jump cond d) = jump_length h cond 0
blank_length h (item.Inst i) = refl
blank_length h (item.Byte b) = refl
blank_length h (item.Label l) = refl

-- of items, one behind another
abbrev pub blank_items : List Item → List ℕ
blank_items [] = []
blank_items (i ∷ is) = blank_bytes i ++ blank_items is

abbrev pub locals_of : ℕ → List Item → List (ℕ × ℕ)
locals_of at [] = []
locals_of at (i ∷ is) = local_of at i ++ locals_of (at + size_of_item i) is

-- what stands of the items from i on, behind these labels, bytes, fixes and distances
pub record Stands (items : List Item) (labels : List (Option ℕ)) (bytes : List ℕ) (fixes : List Fix) (locals : List (ℕ × ℕ)) (i : ℕ) : Type 0 where
  pub found : AreNoted labels (length bytes) (drop i items) items
  pub written : blank_items items ≡ bytes ++ blank_items (drop i items)
  pub noted : fixes_of 0 items ≡ fixes ++ fixes_of (length bytes) (drop i items)
  pub linked : locals_of 0 items ≡ locals ++ locals_of (length bytes) (drop i items)
  pub room : length bytes + size_of_items (drop i items) ≡ size_of_items items

pub stands_first : (items : List Item) → Stands items [] [] [] [] 0
stands_first items =
    let z : 0 + size_of_items items ≡ size_of_items items = omega arith in
    record { found = none_noted items; written = refl; noted = refl; linked = refl; room = z }

pub stands_more : HasLengths → (items : List Item) (i : ℕ) (d : Item) (labels labelled : List (Option ℕ)) (bytes more : List ℕ) (fixes fixed : List Fix) (locals opened : List (ℕ × ℕ)) → i < length items
    → ((l other : ℕ) → noted_or other (slice_get labelled l) ≡ noted_or (if is_label l (get_or items i d) then length bytes else other) (slice_get labels l))
    → more ≡ bytes ++ blank_bytes (get_or items i d) → fixed ≡ fixes ++ fix_of (length bytes) (get_or items i d) → opened ≡ locals ++ local_of (length bytes) (get_or items i d)
    → Stands items labels bytes fixes locals i → Stands items labelled more fixed opened (i + 1)
stands_more h items i d labels labelled bytes more fixes fixed locals opened l m e f o s =
    let x = get_or items i d in
    let n : length more ≡ length bytes + size_of_item x = ap length e ∙ length-append bytes (blank_bytes x) ∙ ap (λ k. length bytes + k) (blank_length h x) in
    let rest = drop (i + 1) items in
    let r = s.room in
    let z = sizes_more items i d l in
    record {
      found = item_noted labels labelled items items i (length bytes) (length more) d l n m s.found;
      written = s.written ∙ ap (λ xs. bytes ++ blank_items xs) (split items i d l)
          ∙ sym (append_assoc bytes (blank_bytes x) (blank_items rest))
          ∙ ap (λ xs. xs ++ blank_items rest) (sym e);
      noted = s.noted ∙ ap (λ xs. fixes ++ fixes_of (length bytes) xs) (split items i d l)
          ∙ sym (append_assoc fixes (fix_of (length bytes) x) (fixes_of (length bytes + size_of_item x) rest))
          ∙ ap (λ k. (fixes ++ fix_of (length bytes) x) ++ fixes_of k rest) (sym n)
          ∙ ap (λ xs. xs ++ fixes_of (length more) rest) (sym f);
      linked = s.linked ∙ ap (λ xs. locals ++ locals_of (length bytes) xs) (split items i d l)
          ∙ sym (append_assoc locals (local_of (length bytes) x) (locals_of (length bytes + size_of_item x) rest))
          ∙ ap (λ k. (locals ++ local_of (length bytes) x) ++ locals_of k rest) (sym n)
          ∙ ap (λ xs. xs ++ locals_of (length more) rest) (sym o);
      room = omega (arith, n, r, z);
    }

-- ---- distances that are filled in

take_front : (front x : List ℕ) (m k : ℕ) → m ≡ length front + k → take m (front ++ x) ≡ front ++ take k x
take_front [] x m k e = let s : m ≡ k = omega arith in ap (λ i. take i x) s
take_front (y ∷ front) x m k e = let s : m ≡ suc (length front + k) = omega arith in ap (λ i. take i (y ∷ (front ++ x))) s ∙ ap (λ l. y ∷ l) (take_front front x (length front + k) k refl)

drop_front : (front x : List ℕ) (m k : ℕ) → m ≡ length front + k → drop m (front ++ x) ≡ drop k x
drop_front [] x m k e = let s : m ≡ k = omega arith in ap (λ i. drop i x) s
drop_front (y ∷ front) x m k e = let s : m ≡ suc (length front + k) = omega arith in ap (λ i. drop i (y ∷ (front ++ x))) s ∙ drop_front front x (length front + k) k refl

-- a word put over bytes that follow others
word_front : (front x : List ℕ) (m k w : ℕ) → m ≡ length front + k → with_word m w (front ++ x) ≡ front ++ with_word k w x
word_front front x m k w e =
    ap (λ l. l ++ (bytes_of 4 w ++ drop (m + 4) (front ++ x))) (take_front front x m k e)
    ∙ ap (λ l. (front ++ take k x) ++ (bytes_of 4 w ++ l)) (drop_front front x (m + 4) (k + 4) (omega arith))
    ∙ append_assoc front (take k x) (bytes_of 4 w ++ drop (k + 4) x)

pub length_word : (x : List ℕ) (k w : ℕ) → k + 4 ≤ length x → length (with_word k w x) ≡ length x
length_word x k w l = omega (arith, length-append (take k x) (bytes_of 4 w ++ drop (k + 4) x), length-append (bytes_of 4 w) (drop (k + 4) x), length_bytes_of 4 w, length-take-le k x (omega arith), length-drop (k + 4) x)

module _ (dest : Dest → ℕ) where
  abbrev offset : ℕ → ℕ
  offset l = dest (dests.Label l)

  abbrev Closes : ℕ → Item → Type 0
  Closes off i = (front rest : List ℕ) → length front ≡ off → closed offset (local_of off i) (front ++ (blank_bytes i ++ rest)) ≡ front ++ (open_bytes dest off i ++ rest)

  word_at : (front x : List ℕ) (m k end to : ℕ) → m ≡ length front + k → m + 4 ≡ end → with_word m (distance (m + 4) to) (front ++ x) ≡ front ++ with_word k (distance end to) x
  word_at front x m k end to e f = ap (λ z. with_word m (distance z to) (front ++ x)) f ∙ word_front front x m k (distance end to) e

  closes_label : (off : ℕ) (cond : Option ℕ) (l : ℕ) → Closes off (item.Jump cond (dests.Label l))
  unfolding bytes_of
  closes_label off None l front rest e = word_at front (canonical (jump_inst None 0) ++ rest) (off + 5 - 4) 1 (off + 5) (offset l) (omega arith) (omega arith)
  closes_label off (Some c) l front rest e = word_at front (canonical (jump_inst (Some c) 0) ++ rest) (off + 6 - 4) 2 (off + 6) (offset l) (omega arith) (omega arith)

  closed_append : (ps qs : List (ℕ × ℕ)) (x : List ℕ) → closed offset (ps ++ qs) x ≡ closed offset qs (closed offset ps x)
  closed_append [] qs x = refl
  closed_append (p ∷ ps) qs x = closed_append ps qs (with_word p.0 (distance (p.0 + 4) (offset p.1)) x)

  closes_rest : HasLengths → (off : ℕ) (i : Item) (is : List Item) (front : List ℕ) → length front ≡ off → Closes off i
      → ((front : List ℕ) → length front ≡ off + size_of_item i → closed offset (locals_of (off + size_of_item i) is) (front ++ blank_items is) ≡ front ++ open_items dest (off + size_of_item i) is)
      → closed offset (locals_of off (i ∷ is)) (front ++ blank_items (i ∷ is)) ≡ front ++ open_items dest off (i ∷ is)
  closes_rest h off i is front e one more =
      let n = off + size_of_item i in
      let b = open_bytes dest off i in
      closed_append (local_of off i) (locals_of n is) (front ++ (blank_bytes i ++ blank_items is))
      ∙ ap (closed offset (locals_of n is)) (one front (blank_items is) e ∙ sym (append_assoc front b (blank_items is)))
      ∙ more (front ++ b) (omega (arith, length-append front b, open_length h dest off i, e))
      ∙ append_assoc front b (open_items dest n is)

  closes : HasLengths → (off : ℕ) (is : List Item) (front : List ℕ) → length front ≡ off → closed offset (locals_of off is) (front ++ blank_items is) ≡ front ++ open_items dest off is
  closes h off [] front e = refl
  closes h off (item.Inst i ∷ is) front e = closes_rest h off (item.Inst i) is front e (λ f r d. refl) (λ f d. closes h (off + length (canonical i)) is f d)
  closes h off (item.Byte b ∷ is) front e = closes_rest h off (item.Byte b) is front e (λ f r d. refl) (λ f d. closes h (off + 1) is f d)
  closes h off (item.Label l ∷ is) front e = closes_rest h off (item.Label l) is front e (λ f r d. refl) (λ f d. closes h (off + 0) is f d)
  closes h off (item.Jump cond (dests.Label l) ∷ is) front e = closes_rest h off (item.Jump cond (dests.Label l)) is front e (closes_label off cond l) (λ f d. closes h (off + size_of_jump cond) is f d)
  closes h off (item.Jump cond (dests.Block y) ∷ is) front e = closes_rest h off (item.Jump cond (dests.Block y)) is front e (λ f r d. refl) (λ f d. closes h (off + size_of_jump cond) is f d)
  closes h off (item.Jump cond (dests.Original y) ∷ is) front e = closes_rest h off (item.Jump cond (dests.Original y)) is front e (λ f r d. refl) (λ f d. closes h (off + size_of_jump cond) is f d)

-- offsets that are the same
closed_same : (p q : ℕ → ℕ) → ((l : ℕ) → p l ≡ q l) → (ls : List (ℕ × ℕ)) (x : List ℕ) → closed p ls x ≡ closed q ls x
closed_same p q e [] x = refl
closed_same p q e (k ∷ ls) x =
    ap (λ t. closed p ls (with_word k.0 (distance (k.0 + 4) t) x)) (e k.1)
    ∙ closed_same p q e ls (with_word k.0 (distance (k.0 + 4) (q k.1)) x)

-- each distance lies in the bytes
locals_inside : (n off : ℕ) (is : List Item) → off + size_of_items is ≤ n → All (IsInside n) (locals_of off is)
locals_inside n off [] l = All-nil (IsInside n)
locals_inside n off (item.Inst i ∷ is) l = locals_inside n (off + length (canonical i)) is (omega arith)
locals_inside n off (item.Byte b ∷ is) l = locals_inside n (off + 1) is (omega arith)
locals_inside n off (item.Label m ∷ is) l = locals_inside n (off + 0) is (omega arith)
locals_inside n off (item.Jump cond (dests.Block y) ∷ is) l = locals_inside n (off + size_of_jump cond) is (omega arith)
locals_inside n off (item.Jump cond (dests.Original y) ∷ is) l = locals_inside n (off + size_of_jump cond) is (omega arith)
locals_inside n off (item.Jump None (dests.Label m) ∷ is) l = All-cons (IsInside n) (off + 5 - 4, m) (locals_of (off + 5) is) (omega arith) (locals_inside n (off + 5) is (omega arith))
locals_inside n off (item.Jump (Some c) (dests.Label m) ∷ is) l = All-cons (IsInside n) (off + 6 - 4, m) (locals_of (off + 6) is) (omega arith) (locals_inside n (off + 6) is (omega arith))

-- ---- behind the last item

module _ (items : List Item) (labels : List (Option ℕ)) (bytes : List ℕ) (fixes : List Fix) (locals : List (ℕ × ℕ)) (i : ℕ) (l : length items ≤ i) (s : Stands items labels bytes fixes locals i) where
  ends : {A : Type 0} → (f : List Item → List A) → f [] ≡ [] → (all front : List A) → all ≡ front ++ f (drop i items) → front ≡ all
  ends f n all front e = sym (e ∙ ap (λ xs. front ++ f xs) (drop_all i items l) ∙ ap (λ xs. front ++ xs) n ∙ append-nil front)

  all_locals : locals ≡ locals_of 0 items
  all_locals = ends (locals_of (length bytes)) refl (locals_of 0 items) locals s.linked

  all_bytes : bytes ≡ blank_items items
  all_bytes = ends blank_items refl (blank_items items) bytes s.written

  pub all_fixes : fixes ≡ fixes_of 0 items
  all_fixes = ends (fixes_of (length bytes)) refl (fixes_of 0 items) fixes s.noted

  pub all_length : length bytes ≡ size_of_items items
  all_length = let r = s.room in let z = ap size_of_items (drop_all i items l) in omega (arith, r, z)

  pub all_inside : All (IsInside (length bytes)) locals
  all_inside = let n = all_length in subst (All (IsInside (length bytes))) (sym all_locals) (locals_inside (length bytes) 0 items (omega (arith, n)))

  pub all_closed : HasLengths → closed (offset_in labels) locals bytes ≡ open_items (dest_at (λ y. 0) 0 items) 0 items
  all_closed h =
      let dest = dest_at (λ y. 0) 0 items in
      let found : (k : ℕ) → offset_in labels k ≡ dest (dests.Label k) =
      λ k. sym (ap (λ xs. noted_or (label_at (length bytes) xs k) (slice_get labels k)) (drop_all i items l)) ∙ s.found k in
      ap (λ ps. closed (offset_in labels) ps bytes) all_locals ∙ ap (closed (offset_in labels) (locals_of 0 items)) all_bytes
      ∙ closed_same (offset_in labels) (λ k. dest (dests.Label k)) found (locals_of 0 items) (blank_items items)
      ∙ closes dest h 0 items [] refl

-- Items stand where their bytes lie.
use Rattle.std.proofs.Common.{◌≡◌, ℕ, suc, nat_lt, ◌||◌, ◌+◌, ◌-◌, ◌^◌, ◌<◌, ◌≤◌, Bool, true, false, List, [], ◌∷◌, ◌++◌, length, drop, get_or, Option, Some, None, refl, sym, ap, ◌∙◌, subst, arith, nat_eq, length-append, ◌⊎◌, inl, inr, map, length-drop}
use Rattle.std.specs.Prelude.{IsTrue}
use Rattle.std.proofs.lemmas.Bool.{cases_Bool, eq-eqb, lt-ltb, and_from, true≢false, eqb-true}
use Rattle.std.proofs.lemmas.List.{drop_more}
use Rattle.std.proofs.lemmas.Option.{none-some}
use Rattle.br_word.specs.Memory.{Region}
use Rattle.ia_inst.specs.declared.inst.Inst.{Inst}
use Rattle.ia_inst.specs.Canonical.{valid_of, canonical}
use Rattle.ia_inst.specs.Instructions.{decode_of, inst_at, behind_at}
use Rattle.ia_inst.specs.Prefixes.{prefixes_at}
use Rattle.ia_inst.specs.Reading.{byte_at}
use Rattle.ia_encode.specs.declared.item.Dest.{Dest}
use Rattle.ia_encode.specs.declared.item.Dest.TheVariants as dests
use Rattle.ia_encode.specs.declared.item.Item.{Item}
use Rattle.ia_encode.specs.declared.item.Item.TheVariants as item
use Rattle.ia_encode.specs.Items.{jump_inst, size_of_jump, distance, size_of_items, bytes_of_items, is_label, label_at, with_labels, Lacks, AreDistinct, IsCondition, AreValid, Reads, Stands}

pub length_jump : (cond : Option ℕ) (rel : ℕ) → length (canonical (jump_inst cond rel)) ≡ size_of_jump cond
length_jump None rel = refl
length_jump (Some c) rel = refl

pub jump_valid : (cond : Option ℕ) (rel : ℕ) → IsCondition cond → rel < 2 ^ 32 → IsTrue (valid_of (jump_inst cond rel))
jump_valid None rel c l = lt-ltb rel (2 ^ 32) l
jump_valid (Some k) rel c l = and_from (nat_lt k 16) (nat_lt rel (2 ^ 32)) (lt-ltb k 16 c) (lt-ltb rel (2 ^ 32) l)

drop_front : (xs ys : List ℕ) → drop (length xs) (xs ++ ys) ≡ ys
drop_front [] ys = refl
drop_front (x ∷ xs) ys = drop_front xs ys

get_front : (xs ys : List ℕ) → get_or (xs ++ ys) (length xs) 0 ≡ get_or ys 0 0
get_front [] ys = refl
get_front (x ∷ xs) ys = get_front xs ys

append_assoc : (xs ys zs : List ℕ) → xs ++ (ys ++ zs) ≡ (xs ++ ys) ++ zs
append_assoc [] ys zs = refl
append_assoc (x ∷ xs) ys zs = ap (λ l. x ∷ l) (append_assoc xs ys zs)

-- where the code's bytes are split, the address between is start + the length of the front
record Splits (code : Region) (at : ℕ) (bytes : List ℕ) : Type 0 where
  front : List ℕ
  behind : List ℕ
  is : code.bytes ≡ front ++ (bytes ++ behind)
  here : at ≡ code.start + length front

split_next : (code : Region) (at : ℕ) (b c : List ℕ) (n : ℕ) → length b ≡ n → Splits code at (b ++ c) → Splits code (at + n) c
split_next code at b c n l s = record {
  front = s.front ++ b;
  behind = s.behind;
  is = s.is ∙ ap (λ x. s.front ++ x) (sym (append_assoc b c s.behind)) ∙ append_assoc s.front b (c ++ s.behind);
  here = let e = s.here in omega (arith, length-append s.front b);
}

-- each label is where its destination says
abbrev Labelled : (Dest → ℕ) → ℕ → List Item → Type 0
Labelled dest at [] = Unit {0}
Labelled dest at (item.Label l ∷ is) = (at ≡ dest (dests.Label l)) × Labelled dest at is
Labelled dest at (item.Inst i ∷ is) = Labelled dest (at + length (canonical i)) is
Labelled dest at (item.Byte b ∷ is) = Labelled dest (at + 1) is
Labelled dest at (item.Jump cond d ∷ is) = Labelled dest (at + size_of_jump cond) is

abbrev has_label : ℕ → List Item → Bool
has_label l [] = false
has_label l (i ∷ is) = is_label l i || has_label l is

lacking : (l : ℕ) (is : List Item) → Lacks l is → has_label l is ≡ false
lacking l [] h = refl
lacking l (i ∷ is) h = rw (h.0) (lacking l is h.1)

labelled : (dest : Dest → ℕ) (at : ℕ) (is : List Item) → AreDistinct is → ((l : ℕ) → has_label l is ≡ true → dest (dests.Label l) ≡ label_at at is l) → Labelled dest at is
labelled dest at [] d h = tt
labelled dest at (item.Inst i ∷ is) d h = labelled dest (at + length (canonical i)) is d h
labelled dest at (item.Byte b ∷ is) d h = labelled dest (at + 1) is d h
labelled dest at (item.Jump cond x ∷ is) d h = labelled dest (at + size_of_jump cond) is d h
labelled dest at (item.Label m ∷ is) d h = (sym (h m (own m) ∙ rw (eq-eqb m m refl)), labelled dest at is d.1 (λ l e. later l e (cases_Bool (nat_eq m l))))
  where
    own : (m : ℕ) → has_label m (item.Label m ∷ is) ≡ true
    own m = rw (eq-eqb m m refl)

    both : (b c : Bool) → c ≡ true → (b || c) ≡ true
    both true c e = refl
    both false c e = e

    later : (l : ℕ) → has_label l is ≡ true → ((nat_eq m l ≡ true) ⊎ (nat_eq m l ≡ false)) → dest (dests.Label l) ≡ label_at at is l
    later l e (inl q) = let z = subst (λ k. has_label k is ≡ false) (eqb-true m l q) (lacking m is d.0) in absurd (true≢false (sym e ∙ z))
    later l e (inr q) =
        let n : at + 0 ≡ at = omega arith in
        h l (both (nat_eq m l) (has_label l is) e) ∙ rw (q, n)

nothing_empty : decode_of [] ≡ None
unfolding decode_of inst_at prefixes_at behind_at byte_at
nothing_empty = refl

-- given the contract of round_trip
module _ (again : (i : Inst) (rest : List ℕ) → IsTrue (valid_of i) → decode_of (canonical i ++ rest) ≡ Some (i, length (canonical i))) where
  -- an instruction that is first of what follows is read there
  reads_there : (code : Region) (at : ℕ) (i : Inst) (n : ℕ) (c : List ℕ) → length (canonical i) ≡ n → 0 < n → IsTrue (valid_of i) → Splits code at (canonical i ++ c) → Reads code at i n
  reads_there code at i n c l z v s =
      let e = s.here in
      let total : length code.bytes ≡ length s.front + (n + length (c ++ s.behind)) = ap length s.is ∙ length-append s.front ((canonical i ++ c) ++ s.behind) ∙ ap (λ x. length s.front + length x) (sym (append_assoc (canonical i) c s.behind)) ∙ ap (λ x. length s.front + x) (length-append (canonical i) (c ++ s.behind) ∙ ap (λ k. k + length (c ++ s.behind)) l) in
      let d : at - code.start ≡ length s.front = omega arith in
      record {
        from = omega arith;
        starts = omega arith;
        ends = omega arith;
        spelled = ap decode_of (ap (λ k. drop k code.bytes) d ∙ ap (drop (length s.front)) s.is ∙ drop_front s.front ((canonical i ++ c) ++ s.behind) ∙ sym (append_assoc (canonical i) c s.behind)) ∙ again i (c ++ s.behind) v ∙ ap (λ k. Some (i, k)) l;
      }

  pub not_empty : (i : Inst) → IsTrue (valid_of i) → 0 < length (canonical i)
  not_empty i v = go (canonical i) (again i [] v)
    where
      go : (l : List ℕ) → decode_of (l ++ []) ≡ Some (i, length (canonical i)) → 0 < length l
      go [] e = absurd (none-some (i, length (canonical i)) (sym nothing_empty ∙ e))
      go (x ∷ l) e = omega arith

  stand : (dest : Dest → ℕ) (code : Region) (at : ℕ) (is : List Item) → Splits code at (bytes_of_items dest at is) → AreValid is → Labelled dest at is → Stands dest code at is (at + size_of_items is)
  stand dest code at [] s v l = omega arith
  stand dest code at (item.Inst i ∷ is) s v l =
      let e : at + length (canonical i) + size_of_items is ≡ at + (length (canonical i) + size_of_items is) = omega arith in (
        reads_there code at i (length (canonical i)) (bytes_of_items dest (at + length (canonical i)) is) refl (not_empty i v.0) v.0 s,
        subst (Stands dest code (at + length (canonical i)) is) e (stand dest code (at + length (canonical i)) is (split_next code at (canonical i) (bytes_of_items dest (at + length (canonical i)) is) (length (canonical i)) refl s) v.1 l),
      )
  stand dest code at (item.Byte b ∷ is) s v l =
      let e : at + 1 + size_of_items is ≡ at + (1 + size_of_items is) = omega arith in
      let h = s.here in
      let d : at - code.start ≡ length s.front = omega arith in
      let rest = bytes_of_items dest (at + 1) is in
      let total : length code.bytes ≡ length s.front + suc (length (rest ++ s.behind)) = ap length s.is ∙ length-append s.front (b ∷ (rest ++ s.behind)) in (
        record { from = omega arith; inside = omega arith; is = ap (λ k. get_or code.bytes k 0) d ∙ ap (λ l. get_or l (length s.front) 0) s.is ∙ get_front s.front (b ∷ (rest ++ s.behind)) },
        subst (Stands dest code (at + 1) is) e (stand dest code (at + 1) is (split_next code at (b ∷ []) rest 1 refl s) v l),
      )
  stand dest code at (item.Jump cond d ∷ is) s v l =
      let n = size_of_jump cond in
      let rel = distance (at + n) (dest d) in
      let i = jump_inst cond rel in
      let e : at + n + size_of_items is ≡ at + (n + size_of_items is) = omega arith in
      let ok = jump_valid cond rel v.0 (omega arith) in
      let size = length_jump cond rel in (
        reads_there code at i n (bytes_of_items dest (at + n) is) size (subst (λ k. 0 < k) size (not_empty i ok)) ok s,
        subst (Stands dest code (at + n) is) e (stand dest code (at + n) is (split_next code at (canonical i) (bytes_of_items dest (at + n) is) n size s) v.1 l),
      )
  stand dest code at (item.Label m ∷ is) s v l =
      let z : at + 0 ≡ at = omega arith in
      let e : at + size_of_items is ≡ at + (0 + size_of_items is) = omega arith in
      (l.0, subst (Stands dest code at is) e (stand dest code at is (subst (λ p. Splits code at (bytes_of_items dest p is)) z s) v l.1))

  pub items_stand : (code : Region) (dest : Dest → ℕ) (at : ℕ) (items : List Item) (front behind : List ℕ) → code.bytes ≡ front ++ (bytes_of_items (with_labels dest at items) at items ++ behind) → at ≡ code.start + length front → AreValid items → AreDistinct items → Stands (with_labels dest at items) code at items (at + size_of_items items)
  items_stand code dest at items front behind e h v d = stand (with_labels dest at items) code at items (record { front = front; behind = behind; is = e; here = h }) v (labelled (with_labels dest at items) at items d (λ l q. refl))

-- ---- bytes of a native instruction

bytes_stand : (dest : Dest → ℕ) (code : Region) (bs : List ℕ) (is : List Item) (at to : ℕ) → code.start ≤ at → Stands dest code at (map item.Byte bs ++ is) to → (behind : List ℕ) × (drop (at - code.start) code.bytes ≡ bs ++ behind)
bytes_stand dest code [] is at to l h = (drop (at - code.start) code.bytes, refl)
bytes_stand dest code (b ∷ bs) is at to l h =
    let high = h.0.inside in
    let r = bytes_stand dest code bs is (at + 1) to (omega arith) h.1 in
    let d : at + 1 - code.start ≡ at - code.start + 1 = omega arith in
    (r.0, drop_more code.bytes (at - code.start) 0 (omega arith) ∙ rw (h.0.is) (ap (λ t. b ∷ t) (ap (λ k. drop k code.bytes) (sym d) ∙ r.1)))

-- where they spell an instruction, whatever follows, it is read there
pub own_reads : (dest : Dest → ℕ) (code : Region) (bs : List ℕ) (is : List Item) (at to : ℕ) (i : Inst) → 0 < length bs → ((behind : List ℕ) → decode_of (bs ++ behind) ≡ Some (i, length bs)) → Stands dest code at (map item.Byte bs ++ is) to → Reads code at i (length bs)
own_reads dest code [] is at to i l spelled h = absurd (omega arith)
own_reads dest code (b ∷ bs) is at to i l spelled h =
    let low = h.0.from in
    let high = h.0.inside in
    let r = bytes_stand dest code (b ∷ bs) is at to low h in
    let total : length code.bytes - (at - code.start) ≡ length (b ∷ bs) + length r.0 = sym (length-drop (at - code.start) code.bytes) ∙ ap length r.1 ∙ length-append (b ∷ bs) r.0 in
    record { from = low; starts = high; ends = omega arith; spelled = ap decode_of r.1 ∙ spelled r.0 }

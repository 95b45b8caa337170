-- What was laid out of keys so far, by what is left of them.
use Rattle.std.proofs.Common.{◌≡◌, ℕ, suc, ◌+◌, ◌<◌, ◌≤◌, List, [], ◌∷◌, ◌++◌, length, drop, map, get_or, refl, sym, ap, ◌∙◌, subst, arith, All}
use Rattle.std.specs.List.Sorted.{IsStrictlyIncreasing}
use Rattle.std.proofs.Math.Seq.{drop-cons}
use Rattle.std.proofs.lemmas.List.Elements.{All-nil, All-cons, All-head, All-tail, All-weaker}
use Rattle.elf_read.specs.declared.exe.Exe.{Exe}
use Rattle.ssa_form.specs.declared.form.BlockKey.{BlockKey}
use Rattle.block_make.specs.declared.fragment.Fix.{Fix}
use Rattle.block_make.specs.FragmentCode.{code_of_items, coded}
use Rattle.code_layout.specs.Linked.{entry_items, has_key}
use Rattle.code_layout.specs.Growth.{IsNext, LayoutsGrow}
use Rattle.code_layout.specs.Layout.{Added, LayoutView, entry_code, with_added, added_length, code_length, IsAddedFix, AreAdded, added_of, layout_of}

-- ---- order

later : (x : ℕ) (xs : List ℕ) → IsStrictlyIncreasing (x ∷ xs) → IsStrictlyIncreasing xs
later x xs up k l =
    let e : suc k + 1 ≡ suc (k + 1) = omega arith in
    let P : ℕ → Type 0 = λ n. get_or xs k 0 < get_or (x ∷ xs) n 0 in
    subst P e (up (suc k) (omega (arith, l)))

above : (x : ℕ) (xs : List ℕ) → IsStrictlyIncreasing (x ∷ xs) → All (λ y. x < y) xs
above x [] up = All-nil (λ y. x < y)
above x (y ∷ ys) up =
    let l : x < y = up 0 (omega arith) in
    All-cons (λ z. x < z) y ys l (All-weaker (λ z. y < z) (λ z. x < z) (λ z m. omega (arith, m, l)) ys (above y ys (later x (y ∷ ys) up)))

abbrev starts : List Added → List ℕ
starts list = map (λ (a : Added). a.start) list

in_middle : (x : ℕ) (done : List Added) (a : Added) (rest : List Added) → All (λ y. x < y) (starts (done ++ (a ∷ rest))) → x < a.start
in_middle x [] a rest h = All-head (λ y. x < y) a.start (starts rest) h
in_middle x (b ∷ done) a rest h = in_middle x done a rest (All-tail (λ y. x < y) b.start (starts (done ++ (a ∷ rest))) h)

below : (done : List Added) (a : Added) (rest : List Added) → IsStrictlyIncreasing (starts (done ++ (a ∷ rest))) → All (λ (b : Added). b.start < a.start) done
below [] a rest up = All-nil (λ (b : Added). b.start < a.start)
below (b ∷ done) a rest up =
    All-cons (λ (b : Added). b.start < a.start) b done
    (in_middle b.start done a rest (above b.start (starts (done ++ (a ∷ rest))) up))
    (below done a rest (later b.start (starts (done ++ (a ∷ rest))) up))

-- ---- fixes and length

inside : (list done : List Added) (a : Added) (rest : List Added) → AreAdded list (done ++ (a ∷ rest)) → All (λ (f : Fix). f.at + 4 ≤ length a.code.bytes) a.code.fixes
inside list [] a rest h = All-weaker (IsAddedFix list (length a.code.bytes)) (λ (f : Fix). f.at + 4 ≤ length a.code.bytes) (λ f i. i.inside) a.code.fixes h.0
inside list (b ∷ done) a rest h = inside list done a rest h.1

longer : (done : List Added) (a : Added) (rest : List Added) → added_length (done ++ (a ∷ [])) ≤ added_length (done ++ (a ∷ rest))
longer [] a rest = omega arith
longer (b ∷ done) a rest = omega (arith, longer done a rest)

-- ---- of keys

starts_of_added : (exe : Exe) (keys : List BlockKey) → starts (added_of exe keys) ≡ map (λ (key : BlockKey). key.start) keys
starts_of_added exe [] = refl
starts_of_added exe (key ∷ keys) = ap (λ l. key.start ∷ l) (starts_of_added exe keys)

module _ (exe : Exe) (keys : List BlockKey) (v : LayoutView) (i : ℕ) (key : BlockKey) (next_is : IsNext exe keys v i key) where
  abbrev rest : List Added
  rest = added_of exe (drop (suc i) keys)

  abbrev next : Added
  next = record { start = key.start; code = coded exe key }

  split : v.added ++ (next ∷ rest) ≡ added_of exe keys
  split =
      ap (λ (k : BlockKey). v.added ++ (record { start = k.start; code = coded exe k } ∷ rest)) next_is.is
      ∙ ap (λ k. v.added ++ added_of exe k) (sym (drop-cons keys i key next_is.inside))
      ∙ next_is.added

  below_next : IsStrictlyIncreasing (map (λ (k : BlockKey). k.start) keys) → All (λ (a : Added). a.start < key.start) v.added
  below_next up =
      let e : map (λ (k : BlockKey). k.start) keys ≡ starts (v.added ++ (next ∷ rest)) = sym (starts_of_added exe keys) ∙ ap starts (sym split) in
      below v.added next rest (subst IsStrictlyIncreasing e up)

  inside_next : AreAdded (added_of exe keys) (added_of exe keys) → All (λ (x : Fix). x.at + 4 ≤ length (coded exe key).bytes) (coded exe key).fixes
  inside_next h = inside (added_of exe keys) v.added next rest (subst (AreAdded (added_of exe keys)) (sym split) h)

  -- no part of the keys is longer than all
  longest : v.entry ≡ exe.entry → v.known ≡ has_key keys exe.entry → code_length (with_added v key.start (coded exe key)) ≤ code_length (layout_of exe keys)
  longest e n =
      let entry : length (entry_code v).bytes ≡ length (entry_code (layout_of exe keys)).bytes =
      ap (λ x. length (code_of_items (entry_items x v.known)).bytes) e ∙ ap (λ b. length (code_of_items (entry_items exe.entry b)).bytes) n in
      omega (arith, entry, longer v.added next rest, ap added_length split)

pub grow : LayoutsGrow
grow = record {
  order = λ exe keys v i key is. below_next exe keys v i key is;
  fixes = λ exe keys v i key is whole. inside_next exe keys v i key is whole.targets;
  part = λ exe keys v i key is. longest exe keys v i key is;
}

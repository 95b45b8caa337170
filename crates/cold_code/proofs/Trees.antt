-- The tree of comparisons, its parts, and lists that are joined.
use Rattle.std.proofs.Common.{◌≡◌, ℕ, zero, suc, ◌+◌, ◌/◌, ◌<◌, ◌≤◌, Bool, true, false, List, [], ◌∷◌, ◌++◌, length, take, drop, get_or, Some, None, refl, sym, ap, ◌∙◌, arith, append_assoc}
use Rattle.std.specs.Prelude.{nat_lt, if◌then◌else◌}
use Rattle.std.proofs.lemmas.List.{length-take, length-drop, drop_more}
use Rattle.ia_encode.specs.declared.item.Dest.TheVariants as dests
use Rattle.ia_encode.specs.declared.item.Item.TheVariants as item
use Rattle.cold_code.specs.Dispatcher.{merge_step, merged, compare_with, tree}

halved : (n : ℕ) → n / 2 < suc n
halved n = omega arith

-- the fuel does not matter where it is enough
pub tree_fuel : (n m : ℕ) (l : List ℕ) (i miss fresh : ℕ) → length l ≤ n → length l ≤ m → tree n l i miss fresh ≡ tree m l i miss fresh
unfolding tree
tree_fuel zero zero l i miss fresh a b = refl
tree_fuel zero (suc m) [] i miss fresh a b = refl
tree_fuel zero (suc m) (x ∷ xs) i miss fresh a b = absurd (omega (arith, a))
tree_fuel (suc n) zero [] i miss fresh a b = refl
tree_fuel (suc n) zero (x ∷ xs) i miss fresh a b = absurd (omega (arith, b))
tree_fuel (suc n) (suc m) [] i miss fresh a b = refl
tree_fuel (suc n) (suc m) (x ∷ []) i miss fresh a b = refl
tree_fuel (suc n) (suc m) (x ∷ y ∷ ys) i miss fresh a b =
    let l : List ℕ = x ∷ y ∷ ys in
    let half = length l / 2 in
    let d = length-drop half l in
    let t = length-take half l in
    let high = tree_fuel n m (drop half l) (i + half) miss (fresh + half) (omega (arith, d, a)) (omega (arith, d, b)) in
    let low = tree_fuel n m (take half l) i miss (suc fresh) (omega (arith, t, a)) (omega (arith, t, b)) in
    ap (λ z. compare_with (get_or l half 0) ∷ item.Jump (Some 2) (dests.Label fresh) ∷ (z ++ (item.Label fresh ∷ tree n (take half l) i miss (suc fresh)))) high
    ∙ ap (λ z. compare_with (get_or l half 0) ∷ item.Jump (Some 2) (dests.Label fresh) ∷ (tree m (drop half l) (i + half) miss (fresh + half) ++ (item.Label fresh ∷ z))) low

-- of no address, of one, and of more
pub tree_none : (l : List ℕ) (i miss fresh : ℕ) → length l ≡ 0 → tree (length l) l i miss fresh ≡ []
unfolding tree
tree_none [] i miss fresh e = refl
tree_none (x ∷ xs) i miss fresh e = absurd (omega (arith, e))

pub tree_one : (l : List ℕ) (i miss fresh : ℕ) → length l ≡ 1 → tree (length l) l i miss fresh ≡ compare_with (get_or l 0 0) ∷ item.Jump (Some 4) (dests.Label (i + 1)) ∷ item.Jump None (dests.Label miss) ∷ []
unfolding tree
tree_one [] i miss fresh e = absurd (omega (arith, e))
tree_one (x ∷ []) i miss fresh e = let s : 1 + i ≡ i + 1 = omega arith in ap (λ k. compare_with x ∷ item.Jump (Some 4) (dests.Label k) ∷ item.Jump None (dests.Label miss) ∷ []) s
tree_one (x ∷ y ∷ ys) i miss fresh e = absurd (omega (arith, e))

pub tree_more : (l : List ℕ) (i miss fresh half : ℕ) → 2 ≤ length l → half ≡ length l / 2 → tree (length l) l i miss fresh ≡ compare_with (get_or l half 0) ∷ item.Jump (Some 2) (dests.Label fresh) ∷ (tree (length (drop half l)) (drop half l) (i + half) miss (fresh + half) ++ (item.Label fresh ∷ tree (length (take half l)) (take half l) i miss (fresh + 1)))
unfolding tree
tree_more [] i miss fresh half l h = absurd (omega (arith, l))
tree_more (x ∷ []) i miss fresh half l h = absurd (omega (arith, l))
tree_more (x ∷ y ∷ ys) i miss fresh half l h = go half h
  where
    all : List ℕ
    all = x ∷ y ∷ ys

    go : (k : ℕ) → k ≡ length (x ∷ y ∷ ys) / 2 → tree (length (x ∷ y ∷ ys)) (x ∷ y ∷ ys) i miss fresh ≡ compare_with (get_or (x ∷ y ∷ ys) k 0) ∷ item.Jump (Some 2) (dests.Label fresh) ∷ (tree (length (drop k (x ∷ y ∷ ys))) (drop k (x ∷ y ∷ ys)) (i + k) miss (fresh + k) ++ (item.Label fresh ∷ tree (length (take k (x ∷ y ∷ ys))) (take k (x ∷ y ∷ ys)) i miss (fresh + 1)))
    go k e =
        let l : List ℕ = x ∷ y ∷ ys in
        let n : ℕ = suc (length ys) in
        let d = length-drop k l in
        let t = length-take k l in
        let s : suc fresh ≡ fresh + 1 = omega arith in
        ap (λ j. compare_with (get_or l j 0) ∷ item.Jump (Some 2) (dests.Label fresh) ∷ (tree n (drop j l) (i + j) miss (fresh + j) ++ (item.Label fresh ∷ tree n (take j l) i miss (suc fresh)))) (sym e)
        ∙ (ap (λ z. compare_with (get_or l k 0) ∷ item.Jump (Some 2) (dests.Label fresh) ∷ (z ++ (item.Label fresh ∷ tree n (take k l) i miss (suc fresh)))) (tree_fuel n (length (drop k l)) (drop k l) (i + k) miss (fresh + k) (omega (arith, d, e)) (omega arith))
        ∙ (ap (λ z. compare_with (get_or l k 0) ∷ item.Jump (Some 2) (dests.Label fresh) ∷ (tree (length (drop k l)) (drop k l) (i + k) miss (fresh + k) ++ (item.Label fresh ∷ z))) (tree_fuel n (length (take k l)) (take k l) i miss (suc fresh) (omega (arith, t, e)) (omega arith))
        ∙ ap (λ f. compare_with (get_or l k 0) ∷ item.Jump (Some 2) (dests.Label fresh) ∷ (tree (length (drop k l)) (drop k l) (i + k) miss (fresh + k) ++ (item.Label fresh ∷ tree (length (take k l)) (take k l) i miss f))) s))

-- ---- two lists that are joined

step_true : (x y : ℕ) (b : Bool) (rest : List ℕ → List ℕ) (ys : List ℕ) → b ≡ true → (if b then (y ∷ merge_step x rest ys) else (x ∷ rest (y ∷ ys))) ≡ y ∷ merge_step x rest ys
step_true x y true rest ys e = refl
step_true x y false rest ys e = cc

step_false : (x y : ℕ) (b : Bool) (rest : List ℕ → List ℕ) (ys : List ℕ) → b ≡ false → (if b then (y ∷ merge_step x rest ys) else (x ∷ rest (y ∷ ys))) ≡ x ∷ rest (y ∷ ys)
step_false x y true rest ys e = cc
step_false x y false rest ys e = refl

module _ (xs ys : List ℕ) (i j : ℕ) (left : i < length xs) where
  abbrev x : ℕ
  x = get_or xs i 0

  more_left : merged (drop i xs) (drop j ys) ≡ merge_step x (merged (drop (i + 1) xs)) (drop j ys)
  more_left = ap (λ zs. merged zs (drop j ys)) (drop_more xs i 0 left)

  -- the second's is lower
  pub takes_second : j < length ys → nat_lt (get_or ys j 0) x ≡ true → merged (drop i xs) (drop j ys) ≡ get_or ys j 0 ∷ merged (drop i xs) (drop (j + 1) ys)
  takes_second right lower =
      more_left
      ∙ (ap (merge_step x (merged (drop (i + 1) xs))) (drop_more ys j 0 right)
      ∙ (step_true x (get_or ys j 0) (nat_lt (get_or ys j 0) x) (merged (drop (i + 1) xs)) (drop (j + 1) ys) lower
      ∙ ap (λ zs. get_or ys j 0 ∷ merged zs (drop (j + 1) ys)) (sym (drop_more xs i 0 left))))

  -- it is not
  pub takes_first : j < length ys → nat_lt (get_or ys j 0) x ≡ false → merged (drop i xs) (drop j ys) ≡ x ∷ merged (drop (i + 1) xs) (drop j ys)
  takes_first right lower =
      more_left
      ∙ (ap (merge_step x (merged (drop (i + 1) xs))) (drop_more ys j 0 right)
      ∙ (step_false x (get_or ys j 0) (nat_lt (get_or ys j 0) x) (merged (drop (i + 1) xs)) (drop (j + 1) ys) lower
      ∙ ap (λ zs. x ∷ merged (drop (i + 1) xs) zs) (sym (drop_more ys j 0 right))))

  -- there is none
  pub takes_only : drop j ys ≡ [] → merged (drop i xs) (drop j ys) ≡ x ∷ merged (drop (i + 1) xs) (drop j ys)
  takes_only e = more_left ∙ (ap (merge_step x (merged (drop (i + 1) xs))) e ∙ ap (λ zs. x ∷ merged (drop (i + 1) xs) zs) (sym e))

length_step : (x : ℕ) (rest : List ℕ → List ℕ) (n : ℕ) → ((ys : List ℕ) → length (rest ys) ≡ n + length ys) → (ys : List ℕ) → length (merge_step x rest ys) ≡ suc n + length ys
length_step x rest n h [] = omega (arith, h [])
length_step x rest n h (y ∷ ys) = go (nat_lt y x) (length_step x rest n h ys) (h (y ∷ ys))
  where
    go : (b : Bool) → length (merge_step x rest ys) ≡ suc n + length ys → length (rest (y ∷ ys)) ≡ n + length (y ∷ ys) → length (if b then (y ∷ merge_step x rest ys) else (x ∷ rest (y ∷ ys))) ≡ suc n + length (y ∷ ys)
    go true e f = omega (arith, e)
    go false e f = omega (arith, f)

pub length_merged : (xs ys : List ℕ) → length (merged xs ys) ≡ length xs + length ys
length_merged [] ys = omega arith
length_merged (x ∷ xs) ys = length_step x (merged xs) (length xs) (length_merged xs) ys

-- one more of what is to come
pub done_more : (out done new rest all : List ℕ) (z : ℕ) → out ++ rest ≡ all → rest ≡ z ∷ done → new ≡ out ++ z ∷ [] → new ++ done ≡ all
done_more out done new rest all z h e n = ap (λ o. o ++ done) n ∙ (append_assoc out (z ∷ []) done ∙ (ap (λ r. out ++ r) (sym e) ∙ h))

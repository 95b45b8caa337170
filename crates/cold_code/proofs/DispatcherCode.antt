-- Dispatchers can be linked.
use Rattle.std.proofs.Common.{◌≡◌, ℕ, zero, suc, ◌+◌, ◌*◌, ◌-◌, ◌/◌, ◌^◌, ◌<◌, ◌≤◌, ◌⊎◌, Bool, true, false, List, [], ◌∷◌, ◌++◌, take, drop, length, get_or, Some, None, refl, arith, inl, inr}
use Rattle.std.specs.Prelude.{All}
use Rattle.std.proofs.lemmas.Bool.{lt-ltb}
use Rattle.std.proofs.lemmas.List.{length-take, length-drop}
use Rattle.std.proofs.lemmas.List.Elements.{All-get_or, All-take, All-drop, All-head}
use Rattle.br_word.specs.declared.types.Width.TheVariants.{B32}
use Rattle.ia_inst.specs.declared.inst.Rm.TheVariants as rm
use Rattle.ia_inst.specs.declared.inst.Src.TheVariants as src
use Rattle.ia_inst.specs.declared.inst.Inst.TheVariants.{Alu, JmpRm}
use Rattle.ia_encode.specs.declared.item.Dest.{Dest}
use Rattle.ia_encode.specs.declared.item.Dest.TheVariants as dests
use Rattle.ia_encode.specs.declared.item.Item.{Item}
use Rattle.ia_encode.specs.declared.item.Item.TheVariants as item
use Rattle.par_moves.specs.declared.locations.Place.TheVariants.{Slot}
use Rattle.par_moves.specs.Locations.{rm_of}
use Rattle.fall_stubs.specs.Exchange.{reg_from_slot, restore_items}
use Rattle.cold_code.specs.Dispatcher.{compare_with, tree, hit, hits, missed}
use Rattle.cold_code.specs.Linkable.{DispatchersAreLinkable}
use Rattle.cold_code.proofs.PartCode.{NoLabel, Part, nothing, at_most, join, inst_then, jump_then, label_then, restore_part}

abbrev Low : ℕ → Type 0
Low x = x < 2 ^ 32

compared : (P : ℕ → Type 0) (x : ℕ) (js : List Item) (n : ℕ) → x < 2 ^ 32 → Part P js n → Part P (compare_with x ∷ js) (15 + n)
compared P x js n l p = inst_then P (Alu 7 B32 (rm.Reg 0) (src.Imm x)) js n (lt-ltb x 4294967296 (omega (arith, l))) p

-- ---- the search

-- labels of the inner nodes over so many members
abbrev Inner : ℕ → ℕ → ℕ → Type 0
Inner fresh count k = (fresh ≤ k) × (k + 1 < fresh + count)

search : (n : ℕ) (l : List ℕ) (i miss fresh : ℕ) → 0 < length l → length l ≤ n → All Low l → Part (Inner fresh (length l)) (tree n l i miss fresh) (48 * length l - 21)
unfolding tree
search zero l i miss fresh some fits low = absurd (omega (arith, some, fits))
search (suc n) [] i miss fresh some fits low = absurd (omega (arith, some))
search (suc n) (x ∷ []) i miss fresh some fits low =
    let P = Inner fresh 1 in
    let exit = item.Jump None (dests.Label miss) ∷ [] in
    at_most P (compare_with x ∷ item.Jump (Some 4) (dests.Label (1 + i)) ∷ exit) (15 + (6 + (6 + 0))) (48 * length (x ∷ []) - 21) (omega arith)
    (compared P x (item.Jump (Some 4) (dests.Label (1 + i)) ∷ exit) (6 + (6 + 0)) (All-head Low x [] low)
    (jump_then P (Some 4) (dests.Label (1 + i)) exit (6 + 0) (omega arith) (jump_then P None (dests.Label miss) [] 0 tt (nothing P))))
search (suc n) (x ∷ y ∷ ys) i miss fresh some fits low =
    let l : List ℕ = x ∷ y ∷ ys in
    let half = length l / 2 in
    let d = length-drop half l in
    let t = length-take half l in
    let above = tree n (drop half l) (i + half) miss (fresh + half) in
    let below = tree n (take half l) i miss (suc fresh) in
    let P : ℕ → Type 0 = Inner fresh (length l) in
    let A : ℕ → Type 0 = Inner (fresh + half) (length (drop half l)) in
    let B : ℕ → Type 0 = Inner (suc fresh) (length (take half l)) in
    let C : ℕ → Type 0 = Inner fresh (suc (length (take half l))) in
    let sa = 48 * length (drop half l) - 21 in
    let sb = 48 * length (take half l) - 21 in
    let up = search n (drop half l) (i + half) miss (fresh + half) (omega (arith, d)) (omega (arith, d, fits)) (All-drop Low half l low) in
    let down = search n (take half l) i miss (suc fresh) (omega (arith, t)) (omega (arith, t, fits)) (All-take Low half l low) in
    let named = label_then B C fresh below sb (λ b. omega (arith, b.0)) (omega arith, omega (arith, t)) (λ k b. (omega (arith, b.0), omega (arith, b.1))) down in
    let both = join A C P above (item.Label fresh ∷ below) sa sb (λ k a c. omega (arith, a.0, c.1, t)) (λ k a. (omega (arith, a.0), omega (arith, a.1, d))) (λ k c. (c.0, omega (arith, c.1, t))) up named in
    at_most P (tree (suc n) l i miss fresh) (15 + (6 + (sa + sb))) (48 * length l - 21) (omega (arith, d, t))
    (compared P (get_or l half 0) (item.Jump (Some 2) (dests.Label fresh) ∷ (above ++ (item.Label fresh ∷ below))) (6 + (sa + sb)) (All-get_or Low l half 0 (omega arith) low)
    (jump_then P (Some 2) (dests.Label fresh) (above ++ (item.Label fresh ∷ below)) (sa + sb) (omega arith) both))

-- ---- what is met, and a miss

restored : (label : ℕ) (js : List Item) (n : ℕ) → Part NoLabel js n → Part (λ k. k ≡ label) (restore_items label ++ js) (118 + n)
restored label js n p = join (λ k. k ≡ label) NoLabel (λ k. k ≡ label) (restore_items label) js 118 n (λ k a b. b) (λ k a. a) (λ k b. absurd b) (restore_part label) p

met : (to : ℕ → Dest) (b : Bool) (x label : ℕ) → Part (λ k. k ≡ label) (hit to b x label) 124
met to true x label =
    let P : ℕ → Type 0 = λ k. k ≡ label in
    at_most P (item.Jump None (dests.Block x) ∷ []) 6 124 (omega arith) (jump_then P None (dests.Block x) [] 0 tt (nothing P))
met to false x label = restored label (item.Jump None (to x) ∷ []) 6 (jump_then NoLabel None (to x) [] 0 tt (nothing NoLabel))

-- the labels of so many members, and those of RESTORE
abbrev Met : ℕ → ℕ → ℕ → ℕ → Type 0
Met i label count k = ((1 + i ≤ k) × (k < 1 + i + count)) ⊎ ((label ≤ k) × (k < label + count))

meeting : (to : ℕ → Dest) (is_start : ℕ → Bool) (l : List ℕ) (i label : ℕ) → 1 + i + length l ≤ label → Part (Met i label (length l)) (hits to is_start l i label) (124 * length l)
meeting to is_start [] i label b = at_most (Met i label 0) [] 0 (124 * 0) (omega arith) (nothing (Met i label 0))
meeting to is_start (x ∷ xs) i label b =
    let n = length xs in
    let rest = hits to is_start xs (suc i) (suc label) in
    let here = hit to (is_start x) x label in
    let H : ℕ → Type 0 = λ k. k ≡ label in
    let R : ℕ → Type 0 = Met (suc i) (suc label) n in
    let Q : ℕ → Type 0 = λ k. (k ≡ label) ⊎ Met (suc i) (suc label) n k in
    let P : ℕ → Type 0 = Met i label (suc n) in
    let p = join H R Q here rest 124 (124 * n) (apart n b) (λ k h. inl h) (λ k r. inr r) (met to (is_start x) x label) (meeting to is_start xs (suc i) (suc label) (omega (arith, b))) in
    at_most P (item.Label (1 + i) ∷ (here ++ rest)) (124 + 124 * n) (124 * suc n) (omega arith) (label_then Q P (1 + i) (here ++ rest) (124 + 124 * n) (not n b) (inl (omega arith, omega arith)) (wider n) p)
  where
    apart : (n : ℕ) → 1 + i + suc n ≤ label → (k : ℕ) → k ≡ label → Met (suc i) (suc label) n k → ⊥
    apart n b k e (inl r) = omega (arith, b, e, r.1)
    apart n b k e (inr r) = omega (arith, e, r.0)

    not : (n : ℕ) → 1 + i + suc n ≤ label → (1 + i ≡ label) ⊎ Met (suc i) (suc label) n (1 + i) → ⊥
    not n b (inl e) = omega (arith, b, e)
    not n b (inr (inl r)) = omega (arith, r.0)
    not n b (inr (inr r)) = omega (arith, b, r.0)

    wider : (n k : ℕ) → (k ≡ label) ⊎ Met (suc i) (suc label) n k → Met i label (suc n) k
    wider n k (inl e) = inr (omega (arith, e), omega (arith, e))
    wider n k (inr (inl r)) = inl (omega (arith, r.0), omega (arith, r.1))
    wider n k (inr (inr r)) = inr (omega (arith, r.0), omega (arith, r.1))

missing : (miss label : ℕ) → miss < label → Part (λ k. (k ≡ miss) ⊎ (k ≡ label)) (missed miss label) 133
missing miss label b =
    let P : ℕ → Type 0 = λ k. k ≡ label in
    let leave = item.Inst (JmpRm (rm_of (Slot 15))) ∷ [] in
    label_then P (λ k. (k ≡ miss) ⊎ (k ≡ label)) miss (restore_items label ++ leave) 133 (λ e. omega (arith, b, e)) (inl refl) (λ k e. inr e)
    (restored label leave 15 (inst_then NoLabel (JmpRm (rm_of (Slot 15))) [] 0 refl (nothing NoLabel)))

-- ---- the whole

abbrev Any : ℕ → Type 0
Any k = Unit {0}

module _ (n : ℕ) where
  abbrev Tree : ℕ → Type 0
  Tree = Inner (2 + n) n

  abbrev Hits : ℕ → Type 0
  Hits = Met 0 (2 + 2 * n) n

  abbrev Miss : ℕ → Type 0
  Miss k = (k ≡ 1 + n) ⊎ (k ≡ 2 + 3 * n)

  abbrev Behind : ℕ → Type 0
  Behind k = Hits k ⊎ Miss k

  no_miss : (k : ℕ) → Hits k → Miss k → ⊥
  no_miss k (inl h) (inl m) = omega (arith, h.1, m)
  no_miss k (inl h) (inr m) = omega (arith, h.1, m)
  no_miss k (inr h) (inl m) = omega (arith, h.0, m)
  no_miss k (inr h) (inr m) = omega (arith, h.1, m)

  no_inner : (k : ℕ) → Tree k → Behind k → ⊥
  no_inner k t (inl (inl h)) = omega (arith, t.0, h.1)
  no_inner k t (inl (inr h)) = omega (arith, t.1, h.0)
  no_inner k t (inr (inl m)) = omega (arith, t.0, m)
  no_inner k t (inr (inr m)) = omega (arith, t.1, m)

linkable : (to : ℕ → Dest) (is_start : ℕ → Bool) (l : List ℕ) → 0 < length l → All Low l
    → Part Any (item.Inst (reg_from_slot 0 15) ∷ (tree (length l) l 0 (1 + length l) (2 + length l) ++ (hits to is_start l 0 (2 + 2 * length l) ++ missed (1 + length l) (2 + 3 * length l)))) (200 * length l + 200)
linkable to is_start l some low =
    let n = length l in
    let searched = tree n l 0 (1 + n) (2 + n) in
    let found = hits to is_start l 0 (2 + 2 * n) in
    let gone = missed (1 + n) (2 + 3 * n) in
    let p = search n l 0 (1 + n) (2 + n) some (omega arith) low in
    let q = meeting to is_start l 0 (2 + 2 * n) (omega arith) in
    let r = missing (1 + n) (2 + 3 * n) (omega arith) in
    let both = join (Hits n) (Miss n) (Behind n) found gone (124 * n) 133 (no_miss n) (λ k h. inl h) (λ k m. inr m) q r in
    let whole = join (Tree n) (Behind n) Any searched (found ++ gone) (48 * n - 21) (124 * n + 133) (no_inner n) (λ k t. tt) (λ k b. tt) p both in
    at_most Any (item.Inst (reg_from_slot 0 15) ∷ (searched ++ (found ++ gone))) (15 + ((48 * n - 21) + (124 * n + 133))) (200 * n + 200) (omega arith)
    (inst_then Any (reg_from_slot 0 15) (searched ++ (found ++ gone)) ((48 * n - 21) + (124 * n + 133)) refl whole)

pub dispatchers_linkable : DispatchersAreLinkable
dispatchers_linkable to is_start [] low = record { valid = tt; distinct = tt; size = omega arith }
dispatchers_linkable to is_start (x ∷ xs) low =
    let p = linkable to is_start (x ∷ xs) (omega arith) low in
    record { valid = p.valid; distinct = p.distinct; size = p.size }

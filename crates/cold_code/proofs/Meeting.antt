-- The hits of a dispatcher, one by one.
use Rattle.std.proofs.Common.{◌≡◌, ℕ, suc, ◌+◌, ◌*◌, ◌<◌, Bool, false, None, List, [], ◌∷◌, ◌++◌, length, drop, get_or, refl, ap, ◌∙◌, arith}
use Rattle.std.proofs.lemmas.List.{drop_more}
use Rattle.ia_encode.specs.declared.item.Dest.{Dest}
use Rattle.ia_encode.specs.declared.item.Item.TheVariants as item
use Rattle.fall_stubs.specs.Exchange.{reg_from_slot, restore_items}
use Rattle.cold_code.specs.Dispatcher.{tree, hit, hits, missed, dispatcher_of}

pub next_hit : (to : ℕ → Dest) (is_start : ℕ → Bool) (all : List ℕ) (i label : ℕ) → i < length all
    → hits to is_start (drop i all) i (label + i) ≡ item.Label (i + 1) ∷ (hit to (is_start (get_or all i 0)) (get_or all i 0) (label + i) ++ hits to is_start (drop (i + 1) all) (i + 1) (label + (i + 1)))
next_hit to is_start all i label l =
    let one : 1 + i ≡ i + 1 = omega arith in
    let more : suc (label + i) ≡ label + (i + 1) = omega arith in
    let s : suc i ≡ i + 1 = omega arith in
    ap (λ zs. hits to is_start zs i (label + i)) (drop_more all i 0 l)
    ∙ (ap (λ k. item.Label k ∷ (hit to (is_start (get_or all i 0)) (get_or all i 0) (label + i) ++ hits to is_start (drop (i + 1) all) (suc i) (suc (label + i)))) one
    ∙ (ap (λ k. item.Label (i + 1) ∷ (hit to (is_start (get_or all i 0)) (get_or all i 0) (label + i) ++ hits to is_start (drop (i + 1) all) k (suc (label + i)))) s
    ∙ ap (λ k. item.Label (i + 1) ∷ (hit to (is_start (get_or all i 0)) (get_or all i 0) (label + i) ++ hits to is_start (drop (i + 1) all) (i + 1) k)) more))

pub no_hit : (to : ℕ → Dest) (is_start : ℕ → Bool) (l : List ℕ) (i label : ℕ) → l ≡ [] → hits to is_start l i label ≡ []
no_hit to is_start l i label e = ap (λ zs. hits to is_start zs i label) e

pub all_hits : (to : ℕ → Dest) (is_start : ℕ → Bool) (all : List ℕ) (label : ℕ) → hits to is_start all 0 label ≡ hits to is_start (drop 0 all) 0 (label + 0)
all_hits to is_start all label = let e : label ≡ label + 0 = omega arith in ap (λ k. hits to is_start all 0 k) e

pub hit_cold : (to : ℕ → Dest) (b : Bool) (x label : ℕ) → b ≡ false → hit to b x label ≡ restore_items label ++ (item.Jump None (to x) ∷ [])
hit_cold to b x label e = ap (λ b. hit to b x label) e

-- of some addresses
pub dispatcher_some : (to : ℕ → Dest) (is_start : ℕ → Bool) (l : List ℕ) → 0 < length l
    → dispatcher_of to is_start l ≡ item.Inst (reg_from_slot 0 15) ∷ (tree (length l) l 0 (1 + length l) (2 + length l) ++ (hits to is_start l 0 (2 + 2 * length l) ++ missed (1 + length l) (2 + 3 * length l)))
dispatcher_some to is_start [] l = absurd (omega (arith, l))
dispatcher_some to is_start (x ∷ xs) l = refl

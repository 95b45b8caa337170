-- Where homes and places lie.
use Rattle.std.proofs.Common.{◌≡◌, ◌≢◌, ℕ, zero, suc, ◌+◌, ◌<◌, ◌≤◌, Bool, true, false, refl, ◌∙◌, arith}
use Rattle.std.specs.Prelude.{nat_lt, nat_eq}
use Rattle.std.proofs.lemmas.Bool.{ne_eqb, ltb-true, agree_below, agree_below_at}
use Rattle.par_moves.specs.declared.locations.Place.{Place}
use Rattle.par_moves.specs.declared.locations.Place.TheVariants.{Reg, Slot}
use Rattle.par_moves.specs.Homes.{home_of}
use Rattle.par_moves.specs.Locations.{same_place, InRange, IsKept}
use Rattle.reg_place.specs.Laws.{PlacesLie, HomesLie}
use Rattle.reg_place.specs.Places.{place_of}

kept : (k : ℕ) → IsKept (place_of k)
kept zero = record { not_eax = refl; not_ecx = refl }
kept (suc zero) = record { not_eax = refl; not_ecx = refl }
kept (suc (suc k)) = record { not_eax = refl; not_ecx = refl }

low : (k n : ℕ) → n < 17 → same_place (place_of k) (Slot n) ≡ false
low zero n l = refl
low (suc zero) n l = refl
low (suc (suc k)) n l = ne_eqb (17 + k) n (λ e. absurd (omega (arith, e)))

high : (k n : ℕ) → k < 2048 → 2065 ≤ n → same_place (place_of k) (Slot n) ≡ false
high zero n l m = refl
high (suc zero) n l m = refl
high (suc (suc k)) n l m = ne_eqb (17 + k) n (λ e. absurd (omega (arith, e)))

fit : (k : ℕ) → k < 2048 → InRange (place_of k)
fit zero l = omega arith
fit (suc zero) l = omega arith
fit (suc (suc k)) l = omega arith

pub places_lie : PlacesLie
places_lie = record { kept = kept; low = low; high = high; fit = fit }

-- ---- homes, by tables

-- in range, a slot only below 14
abbrev is_home : Place → Bool
is_home (Reg r) = nat_lt r 8
is_home (Slot k) = nat_lt k 14

each_home : (v : ℕ) → v < 14 → is_home (home_of v) ≡ true
each_home v l = agree_below_at (λ u. is_home (home_of u)) (λ u. true) 14 v refl l

home_range : (p : Place) → is_home p ≡ true → InRange p
home_range (Reg r) h = ltb-true r 8 h
home_range (Slot k) h = let l = ltb-true k 14 h in omega (arith, l)

home_slot : (p : Place) (n : ℕ) → is_home p ≡ true → 14 ≤ n → same_place p (Slot n) ≡ false
home_slot (Reg r) n h m = refl
home_slot (Slot k) n h m = let l = ltb-true k 14 h in ne_eqb k n (λ e. absurd (omega (arith, e, l)))

not_register : (r v : ℕ) → agree_below (λ u. same_place (home_of u) (Reg r)) (λ u. false) 14 ≡ true → v < 14 → same_place (home_of v) (Reg r) ≡ false
not_register r v e l = agree_below_at (λ u. same_place (home_of u) (Reg r)) (λ u. false) 14 v e l

apart : (u v : ℕ) → u < 14 → v < 14 → u ≢ v → same_place (home_of u) (home_of v) ≡ false
apart u v l m d =
    let row = agree_below_at (λ x. agree_below (λ y. same_place (home_of x) (home_of y)) (λ y. nat_eq x y) 14) (λ x. true) 14 u refl l in
    agree_below_at (λ y. same_place (home_of u) (home_of y)) (λ y. nat_eq u y) 14 v row m ∙ ne_eqb u v d

off_place : (v k : ℕ) → v < 14 → same_place (home_of v) (place_of k) ≡ false
off_place v zero l = not_register 7 v refl l
off_place v (suc zero) l = not_register 2 v refl l
off_place v (suc (suc k)) l = home_slot (home_of v) (17 + k) (each_home v l) (omega arith)

pub homes_lie : HomesLie
homes_lie = record {
  apart = apart;
  kept = λ v l. record { not_eax = not_register 0 v refl l; not_ecx = not_register 1 v refl l };
  slots = λ v n l m. home_slot (home_of v) n (each_home v l) m;
  fit = λ v l. home_range (home_of v) (each_home v l);
  places = off_place;
}

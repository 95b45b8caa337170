-- The loop of `place`, one line further.
use Rattle.std.proofs.Common.{◌≡◌, ℕ, zero, suc, ◌+◌, ◌<◌, ◌≤◌, Bool, true, false, List, [], ◌∷◌, length, drop, get_or, set, map, Option, Some, refl, inl, inr, sym, ap, ◌∙◌, subst, arith}
use Rattle.std.specs.Prelude.{nat_lt, if◌then◌else◌, ◌||◌}
use Rattle.std.proofs.lemmas.List.{drop_more, get_or_read}
use Rattle.ssa_form.specs.declared.form.Block.{Block}
use Rattle.ssa_form.specs.declared.form.Split.{Split}
use Rattle.ssa_form.specs.Checked.{has_result}
use Rattle.par_moves.specs.declared.locations.Place.{Place}
use Rattle.par_moves.proofs.Membership.{In}
use Rattle.reg_place.specs.LastUses.{last_use}
use Rattle.reg_place.specs.Places.{IsSplit, order, at_end, is_used, place_of, first_free, put_at, placing, placed}
use Rattle.reg_place.proofs.Order.{Step, order_of, order_few}
use Rattle.reg_place.proofs.First.{first_map, put_map}
use Rattle.reg_place.proofs.Last.{use_later}

-- what outs and the exit name, behind all lines
pub ends_done : (x y : Bool) (p n a e : ℕ) → p ≡ suc n → a ≡ e → (if y then p else (if x then p else a)) ≡ (if x || y then suc n else e)
ends_done true true p n a e q h = q
ends_done true false p n a e q h = q
ends_done false true p n a e q h = q
ends_done false false p n a e q h = h

in_at : (xs : List Step) (at : ℕ) (d : Step) → at < length xs → In xs (get_or xs at d)
in_at [] at d l = absurd (omega arith)
in_at (x ∷ xs) zero d l = inl refl
in_at (x ∷ xs) (suc at) d l = inr (in_at xs at d (omega arith))

module _ (b : Block) (s : Split) (split : IsSplit b s) where
  pub few : (xs : List Step) → xs ≡ order b s → length xs ≤ length b.lines
  few xs e = let q = order_few b s split in let z = ap length e in omega (arith, q, z)

  pub low : (xs : List Step) → xs ≡ order b s → (at : ℕ) (d : Step) → at < length xs → (get_or xs at d).0 < length b.lines
  low xs e at d l = (order_of b s split (get_or xs at d) (subst (λ ys. In ys (get_or xs at d)) e (in_at xs at d l))).0

  pub low_to : (xs : List Step) → xs ≡ order b s → (at : ℕ) (d : Step) → at < length xs → (k : ℕ) → length b.lines ≤ k → (get_or xs at d).0 < k
  low_to xs e at d l k m = let q = low xs e at d l in omega (arith, q, m)

abbrev pub uses : Block → Split → ℕ → ℕ
uses b s = last_use (at_end b) (order b s)

-- some lines took the places, and what is left leads to the places of the split
abbrev pub Goes : Block → Split → ℕ → List ℕ → List (Option Place) → Type 0
Goes b s at busy places = (takers : List ℕ) × (busy ≡ map (uses b s) takers) × (placing (at_end b) takers (drop at (order b s)) places ≡ placed b s)

module _ (b : Block) (s : Split) (xs : List Step) (e : xs ≡ order b s) (at : ℕ) (d : Step) (l : at < length xs) where
  abbrev p : Step
  p = get_or xs at d

  abbrev rest : List Step
  rest = drop (at + 1) (order b s)

  parts : drop at (order b s) ≡ p ∷ rest
  parts = let z = ap length e in drop_more (order b s) at d (omega (arith, l, z)) ∙ ap (λ q. q ∷ rest) (ap (λ ys. get_or ys at d) (sym e))

  next : (takers : List ℕ) (places : List (Option Place)) → placing (at_end b) takers (drop at (order b s)) places ≡ placed b s →
      (if has_result p.1 then placing (at_end b) (put_at takers (first_free (is_used (at_end b) rest) takers) p.0) rest (set places p.0 (Some (place_of (first_free (is_used (at_end b) rest) takers)))) else placing (at_end b) takers rest places) ≡ placed b s
  next takers places h = sym (ap (λ ys. placing (at_end b) takers ys places) parts) ∙ h

  pub skipped : (busy : List ℕ) (places : List (Option Place)) → has_result p.1 ≡ false → Goes b s at busy places → Goes b s (at + 1) busy places
  skipped busy places r g = (
    g.0,
    g.1,
    ap (λ x. if x then placing (at_end b) (put_at g.0 (first_free (is_used (at_end b) rest) g.0) p.0) rest (set places p.0 (Some (place_of (first_free (is_used (at_end b) rest) g.0)))) else placing (at_end b) g.0 rest places) (sym r) ∙ next g.0 places g.2,
  )

  pub placed_one : (busy slice busy' : List ℕ) (places : List (Option Place)) (k until : ℕ) (x : Place) → has_result p.1 ≡ true → slice ≡ busy → k ≡ first_free (λ u. nat_lt (at + 1) u) slice → until ≡ uses b s p.0 → busy' ≡ put_at busy k until → x ≡ place_of k →
      Goes b s at busy places → Goes b s (at + 1) busy' (set places p.0 (Some x))
  placed_one busy slice busy' places k until x r sb free last held is g =
      let z = ap length e in
      let first : k ≡ first_free (is_used (at_end b) rest) g.0 =
      free ∙ ap (first_free (λ u. nat_lt (at + 1) u)) (sb ∙ g.1) ∙ first_map (λ u. nat_lt (at + 1) u) (is_used (at_end b) rest) (uses b s) g.0 (λ j. use_later (at_end b) (order b s) (at + 1) j (omega (arith, l, z))) in (
        put_at g.0 k p.0,
        held ∙ ap (λ v. put_at busy k v) last ∙ ap (λ ys. put_at ys k (uses b s p.0)) g.1 ∙ sym (put_map (uses b s) g.0 k p.0),
        ap (λ y. placing (at_end b) (put_at g.0 k p.0) rest (set places p.0 (Some y))) is
            ∙ ap (λ m. placing (at_end b) (put_at g.0 m p.0) rest (set places p.0 (Some (place_of m)))) first
            ∙ ap (λ y. if y then placing (at_end b) (put_at g.0 (first_free (is_used (at_end b) rest) g.0) p.0) rest (set places p.0 (Some (place_of (first_free (is_used (at_end b) rest) g.0)))) else placing (at_end b) g.0 rest places) (sym r)
            ∙ next g.0 places g.2,
      )

  -- by the last uses as they are read
  pub placed_read : IsSplit b s → (last : List ℕ) (steps : List Step) → length last ≡ length b.lines → steps ≡ order b s → ((j : ℕ) → j < length b.lines → get_or last j 0 ≡ last_use (at_end b) steps j) →
      (busy slice busy' : List ℕ) (places : List (Option Place)) (k until : ℕ) (x : Place) (given : Bool) → given ≡ has_result p.1 → given ≡ true → slice ≡ busy → k ≡ first_free (λ u. nat_lt (at + 1) u) slice → until ≡ get_or last p.0 until → busy' ≡ put_at busy k until → x ≡ place_of k →
      Goes b s at busy places → Goes b s (at + 1) busy' (set places p.0 (Some x))
  placed_read split last steps n o clause busy slice busy' places k until x given r on sb free read held is g =
      let m = low b s split xs e at d l in
      let until_is = get_or_read last p.0 until (omega (arith, m, n)) read 0 ∙ clause p.0 m ∙ ap (λ ys. last_use (at_end b) ys p.0) o in
      placed_one busy slice busy' places k until x (sym r ∙ on) sb free until_is held is g

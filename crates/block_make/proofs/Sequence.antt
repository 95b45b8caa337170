-- The moves of a live set may be given to `sequence`, and stay fit in its order.
use Rattle.std.proofs.Common.{◌≡◌, ◌≢◌, ℕ, zero, suc, ◌+◌, ◌*◌, ◌^◌, ◌<◌, ◌≤◌, Bool, true, false, cond, not, ◌&&◌, List, [], ◌∷◌, ◌++◌, length, map, get_or, Option, Some, None, refl, sym, ap, ◌∙◌, subst, arith, ◌⊎◌, inl, inr}
use Rattle.std.specs.Prelude.{All, find, nat_eq}
use Rattle.ssa_form.specs.declared.form.TheConstants.{REGISTERS}
use Rattle.ssa_form.specs.declared.form.Val.{Val}
use Rattle.ssa_form.specs.declared.form.Val.TheVariants as val
use Rattle.par_moves.specs.declared.locations.Place.{Place}
use Rattle.par_moves.specs.declared.locations.MoveSource.TheVariants.{Place as Held}
use Rattle.par_moves.specs.declared.locations.PlaceMove.{PlaceMove}
use Rattle.par_moves.specs.Locations.{same_place, spare, is_from, InRange, IsFit}
use Rattle.par_moves.specs.Homes.{home_of}
use Rattle.par_moves.specs.Moves.{is_ready, others, redirect, turn_of, sequenced, AreApart}
use Rattle.reg_place.specs.Laws.{HomesLie}
use Rattle.emit_ops.specs.Templates.{held_by}
use Rattle.emit_ops.specs.Sequences.{keeps_itself, move_of, live_moves}

-- ---- membership

abbrev pub In : List PlaceMove → PlaceMove → Type 0
In [] m = ⊥
In (x ∷ xs) m = (m ≡ x) ⊎ In xs m

at_index : (ms : List PlaceMove) (k : ℕ) (d : PlaceMove) → k < length ms → In ms (get_or ms k d)
at_index [] k d l = absurd (omega arith)
at_index (m ∷ ms) zero d l = inl refl
at_index (m ∷ ms) (suc k) d l = inr (at_index ms k d (omega arith))

found_in : (t : PlaceMove → Bool) (ms : List PlaceMove) (r : PlaceMove) → find t ms ≡ Some r → In ms r
found_in t [] r e = absurd cc
found_in t (m ∷ ms) r e = either (t m) e (λ f. found_in t ms r f)
  where
    either : (b : Bool) → cond b (Some m) (find t ms) ≡ Some r → (find t ms ≡ Some r → In ms r) → In (m ∷ ms) r
    either true f more = let g : m ≡ r = cc in inl (sym g)
    either false f more = inr (more f)

filter_from : (t : PlaceMove → Bool) (ms : List PlaceMove) (r : PlaceMove) → In (Rattle.std.specs.Prelude.filter t ms) r → In ms r
filter_from t [] r i = absurd i
filter_from t (m ∷ ms) r i = either (t m) i (λ j. filter_from t ms r j)
  where
    either : (b : Bool) → In (cond b (m ∷ Rattle.std.specs.Prelude.filter t ms) (Rattle.std.specs.Prelude.filter t ms)) r → (In (Rattle.std.specs.Prelude.filter t ms) r → In ms r) → In (m ∷ ms) r
    either true (inl e) more = inl e
    either true (inr j) more = inr (more j)
    either false j more = inr (more j)

-- ---- fit moves

abbrev pub Fits : PlaceMove → Type 0
Fits m = InRange m.to × IsFit m.from

abbrev pub AllFit : List PlaceMove → Type 0
AllFit [] = Unit {0}
AllFit (m ∷ ms) = Fits m × AllFit ms

fit_in : (ms : List PlaceMove) (m : PlaceMove) → AllFit ms → In ms m → Fits m
fit_in [] m h i = absurd i
fit_in (x ∷ xs) m h (inl e) = subst Fits (sym e) h.0
fit_in (x ∷ xs) m h (inr j) = fit_in xs m h.1 j

pub fit_at : (ms : List PlaceMove) (k : ℕ) (d : PlaceMove) → k < length ms → AllFit ms → Fits (get_or ms k d)
fit_at ms k d l h = fit_in ms (get_or ms k d) h (at_index ms k d l)

fit_filter : (t : PlaceMove → Bool) (ms : List PlaceMove) → AllFit ms → AllFit (Rattle.std.specs.Prelude.filter t ms)
fit_filter t [] h = tt
fit_filter t (m ∷ ms) h = either (t m) (fit_filter t ms h.1)
  where
    either : (b : Bool) → AllFit (Rattle.std.specs.Prelude.filter t ms) → AllFit (cond b (m ∷ Rattle.std.specs.Prelude.filter t ms) (Rattle.std.specs.Prelude.filter t ms))
    either true more = (h.0, more)
    either false more = more

spare_fits : InRange spare
spare_fits = omega arith

redirect_fits : (p : Place) (m : PlaceMove) → Fits m → Fits (redirect p m)
redirect_fits p m h = (h.0, either (is_from m.from p))
  where
    either : (b : Bool) → IsFit (cond b (Held spare) m.from)
    either true = spare_fits
    either false = h.1

fit_redirect : (p : Place) (ms : List PlaceMove) → AllFit ms → AllFit (map (redirect p) ms)
fit_redirect p [] h = tt
fit_redirect p (m ∷ ms) h = (redirect_fits p m h.0, fit_redirect p ms h.1)

pub fit_sequenced : (n : ℕ) (ms : List PlaceMove) → AllFit ms → AllFit (sequenced n ms)
unfolding sequenced
fit_sequenced zero ms h = tt
fit_sequenced (suc n) [] h = tt
fit_sequenced (suc n) (m ∷ ms) h = turned (find (is_ready (m ∷ ms)) (m ∷ ms)) refl (λ rest hr. fit_sequenced n rest hr)
  where
    turned : (o : Option PlaceMove) → find (is_ready (m ∷ ms)) (m ∷ ms) ≡ o → ((rest : List PlaceMove) → AllFit rest → AllFit (sequenced n rest)) → AllFit ((turn_of m ms o).done ++ sequenced n (turn_of m ms o).left)
    turned (Some r) e more = (fit_in (m ∷ ms) r h (found_in (is_ready (m ∷ ms)) (m ∷ ms) r e), more (others r (m ∷ ms)) (fit_filter (λ x. not (same_place x.to r.to)) (m ∷ ms) h))
    turned None e more = ((spare_fits, h.0.0), (redirect_fits m.to m h.0, more (map (redirect m.to) ms) (fit_redirect m.to ms h.1)))

-- twice as many at most
pub sequenced_length : (n : ℕ) (ms : List PlaceMove) → length (sequenced n ms) ≤ 2 * n
unfolding sequenced
sequenced_length zero ms = omega arith
sequenced_length (suc n) [] = omega arith
sequenced_length (suc n) (m ∷ ms) = turned (find (is_ready (m ∷ ms)) (m ∷ ms)) (λ rest. sequenced_length n rest)
  where
    turned : (o : Option PlaceMove) → ((rest : List PlaceMove) → length (sequenced n rest) ≤ 2 * n) → length ((turn_of m ms o).done ++ sequenced n (turn_of m ms o).left) ≤ 2 * suc n
    turned (Some r) more = let l = more (others r (m ∷ ms)) in omega (arith, l)
    turned None more = let l = more (map (redirect m.to) ms) in omega (arith, l)

-- ---- the moves of a live set

module _ (homes : HomesLie) (place : ℕ → Place) (live : ℕ → Bool) where
  abbrev moved : ℕ → List Val → List PlaceMove
  moved v outs = live_moves home_of place live v outs

  -- their destinations are homes from v on, below v and the number of outs
  record IsHome (v n : ℕ) (m : PlaceMove) : Type 0 where
    pub w : ℕ
    pub from : v ≤ w
    pub below : w < v + n
    pub is : m.to ≡ home_of w

  homes_in : (v : ℕ) (outs : List Val) (m : PlaceMove) → In (moved v outs) m → IsHome v (length outs) m
  homes_in v [] m i = absurd i
  homes_in v (out ∷ outs) m i = either (live v && not (keeps_itself v out)) i (λ j. homes_in (suc v) outs m j)
    where
      more : IsHome (suc v) (length outs) m → IsHome v (length (out ∷ outs)) m
      more h = let f = h.from in let b = h.below in record { w = h.w; from = omega arith; below = omega arith; is = h.is }

      either : (b : Bool) → In (cond b (move_of home_of place v out ∷ moved (suc v) outs) (moved (suc v) outs)) m → (In (moved (suc v) outs) m → IsHome (suc v) (length outs) m) → IsHome v (length (out ∷ outs)) m
      either true (inl e) go = record { w = v; from = omega arith; below = omega arith; is = ap (λ (x : PlaceMove). x.to) e }
      either true (inr j) go = more (go j)
      either false j go = more (go j)

  apart_cons : (m : PlaceMove) (ms : List PlaceMove) → ((x : PlaceMove) → In ms x → same_place m.to x.to ≡ false) → AreApart ms → AreApart (m ∷ ms)
  apart_cons m ms h t zero zero d e lt l = absurd (omega arith)
  apart_cons m ms h t zero (suc j) d e lt l = h (get_or ms j e) (at_index ms j e (omega arith))
  apart_cons m ms h t (suc i) zero d e lt l = absurd (omega arith)
  apart_cons m ms h t (suc i) (suc j) d e lt l = t i j d e (omega arith) (omega arith)

  live_apart : (v : ℕ) (outs : List Val) → v + length outs ≤ REGISTERS → AreApart (moved v outs)
  live_apart v [] n = λ i j d e lt m. absurd (omega arith)
  live_apart v (out ∷ outs) n = either (live v && not (keeps_itself v out)) (live_apart (suc v) outs (omega arith))
    where
      other : (x : PlaceMove) → In (moved (suc v) outs) x → same_place (home_of v) x.to ≡ false
      other x i =
          let h = homes_in (suc v) outs x i in
          let f = h.from in
          let b = h.below in
          subst (λ (p : Place). same_place (home_of v) p ≡ false) (sym h.is) (homes.apart v h.w (omega arith) (omega arith) (λ e. omega (arith, e)))

      either : (b : Bool) → AreApart (moved (suc v) outs) → AreApart (cond b (move_of home_of place v out ∷ moved (suc v) outs) (moved (suc v) outs))
      either true h = apart_cons (move_of home_of place v out) (moved (suc v) outs) other h
      either false h = h

  pub apart : (outs : List Val) → length outs ≡ REGISTERS → AreApart (moved 0 outs)
  apart outs n = live_apart 0 outs (omega (arith, n))

  pub no_spare : (outs : List Val) → length outs ≡ REGISTERS → All (λ m. same_place m.to spare ≡ false) (moved 0 outs)
  no_spare outs n k d l =
      let h = homes_in 0 outs (get_or (moved 0 outs) k d) (at_index (moved 0 outs) k d l) in
      let b = h.below in
      subst (λ (p : Place). same_place p spare ≡ false) (sym h.is) (homes.slots h.w 16 (omega (arith, b, n)) (omega arith))

  pub live_fit : (v : ℕ) (outs : List Val) → v + length outs ≤ REGISTERS → ((k : ℕ) → k < length outs → IsFit (held_by home_of place (get_or outs k (val.Num 0)))) → AllFit (moved v outs)
  live_fit v [] n h = tt
  live_fit v (out ∷ outs) n h = either (live v && not (keeps_itself v out)) (live_fit (suc v) outs (omega arith) (λ k l. h (suc k) (omega arith)))
    where
      either : (b : Bool) → AllFit (moved (suc v) outs) → AllFit (cond b (move_of home_of place v out ∷ moved (suc v) outs) (moved (suc v) outs))
      either true t = ((homes.fit v (omega arith), h 0 (omega arith)), t)
      either false t = t

module _ (place : ℕ → Place) (live : ℕ → Bool) where
  pub live_length : (v : ℕ) (outs : List Val) → length (live_moves home_of place live v outs) ≤ length outs
  live_length v [] = omega arith
  live_length v (out ∷ outs) = either (live v && not (keeps_itself v out)) (live_length (suc v) outs)
    where
      either : (b : Bool) → length (live_moves home_of place live (suc v) outs) ≤ length outs → length (cond b (move_of home_of place v out ∷ live_moves home_of place live (suc v) outs) (live_moves home_of place live (suc v) outs)) ≤ suc (length outs)
      either true t = omega arith
      either false t = omega arith

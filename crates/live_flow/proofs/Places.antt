-- Places of rows by their starts.
use Rattle.std.proofs.Common.{◌≡◌, ℕ, zero, suc, ◌+◌, ◌<◌, ◌≤◌, Bool, true, false, List, [], ◌∷◌, length, get_or, map, inl, inr, sym, ap, subst, ◌∙◌, refl, arith, ⊎_elim}
use Rattle.std.specs.Prelude.{◌==◌, if◌then◌else◌}
use Rattle.std.proofs.lemmas.Bool.{eqb-true, cases_lt, cases_eq}
use Rattle.std.proofs.lemmas.List.{get_or_default}
use Rattle.live_flow.specs.declared.row.LiveRow.{LiveRow}
use Rattle.live_flow.specs.Live.{no_row, row_at, place_of, StartsAscend, NextAreStarts, IsAmong}

start_from : (r : LiveRow) (rows : List LiveRow) (s k : ℕ) (b : Bool) → (r.start == s) ≡ b → (k < length rows → (row_at rows k).start ≡ s) → (if b then 0 else suc k) < suc (length rows) → (row_at (r ∷ rows) (if b then 0 else suc k)).start ≡ s
start_from r rows s k true e h l = eqb-true r.start s e
start_from r rows s k false e h l = h (omega arith)

place_start : (rows : List LiveRow) (s : ℕ) → place_of rows s < length rows → (row_at rows (place_of rows s)).start ≡ s
place_start [] s l = absurd (omega arith)
place_start (r ∷ rows) s l = start_from r rows s (place_of rows s) (r.start == s) refl (place_start rows s) l

start_at : (rows : List LiveRow) (m : ℕ) (r : LiveRow) → m < length rows → (row_at rows m).start ≡ (get_or rows m r).start
start_at rows m r l = ap (λ (x : LiveRow). x.start) (get_or_default rows m no_row r l)

-- the two halves of a search
pub at_or_above : (rows : List LiveRow) (s m : ℕ) (r : LiveRow) → StartsAscend rows → place_of rows s < length rows → m < length rows → (get_or rows m r).start ≤ s → m ≤ place_of rows s
at_or_above rows s m r up there l le =
    let e = place_start rows s there in
    let f = start_at rows m r l in
    ⊎_elim (λ low. absurd (let g = up (place_of rows s) m low l in omega arith)) (λ ge. ge) (cases_lt (place_of rows s) m)

pub below : (rows : List LiveRow) (s m : ℕ) (r : LiveRow) → StartsAscend rows → place_of rows s < length rows → m < length rows → s < (get_or rows m r).start → place_of rows s < m
below rows s m r up there l gt =
    let e = place_start rows s there in
    let f = start_at rows m r l in
    ⊎_elim
    (λ low. low)
    (λ ge. ⊎_elim
    (λ same. absurd (let g = ap (λ i. (row_at rows i).start) same in omega arith))
    (λ other. absurd (let g = up m (place_of rows s) (omega arith) there in omega arith))
    (cases_eq m (place_of rows s)))
    (cases_lt (place_of rows s) m)

-- ---- among
pub among_at : (xs : List ℕ) (k d : ℕ) → k < length xs → IsAmong xs (get_or xs k d)
among_at [] k d l = absurd (omega arith)
among_at (x ∷ xs) zero d l = inl refl
among_at (x ∷ xs) (suc k) d l = inr (among_at xs k d (omega arith))

pub among_map : (f : ℕ → ℕ) (xs : List ℕ) (s : ℕ) → IsAmong xs s → IsAmong (map f xs) (f s)
among_map f [] s h = absurd h
among_map f (x ∷ xs) s h = ⊎_elim (λ e. inl (ap f e)) (λ t. inr (among_map f xs s t)) h

pub next_there : (rows : List LiveRow) (p k : ℕ) (next : List ℕ) → NextAreStarts rows → next ≡ (row_at rows p).next → k < length next → place_of rows (get_or next k 0) < length rows
next_there rows p k next starts e l =
    let P : List ℕ → Type 0 = λ t. IsAmong (map (place_of rows) t) (place_of rows (get_or next k 0)) in
    starts p (place_of rows (get_or next k 0)) (subst P e (among_map (place_of rows) next (get_or next k 0) (among_at next k 0 l)))

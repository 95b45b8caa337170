-- Lists of moves.
use Rattle.std.proofs.Common.{◌≡◌, ℕ, Bool, true, false, cond, List, [], ◌∷◌, length, refl, sym, ap, ◌∙◌, subst, ◌⊎◌, inl, inr, length-append}
use Rattle.std.proofs.lemmas.Bool.{cases_Bool, eqb-true, true≢false, both_ways}
use Rattle.br_word.specs.Memory.{Region}
use Rattle.par_moves.specs.declared.locations.Place.{Place}
use Rattle.par_moves.specs.declared.locations.Place.TheVariants.{Reg, Slot}
use Rattle.par_moves.specs.declared.locations.MoveSource.{MoveSource as Source}
use Rattle.par_moves.specs.declared.locations.MoveSource.TheVariants.{Place as Held, Num}
use Rattle.par_moves.specs.declared.locations.PlaceMove.{PlaceMove}
use Rattle.par_moves.specs.Locations.{same_place as place_eq, held, IsKept, IsFree}
use Rattle.par_moves.specs.Moves.{put, done}
use Rattle.emit_ops.specs.Templates.{move_code}
use Rattle.ia_encode.specs.Items.{StandsAt}
use Rattle.code_laws.specs.Seen.{Cells, IsCode, Leads, Quiet}
use Rattle.code_laws.specs.Laws.{Comes, Gave}
use Rattle.code_laws.specs.Moves.{AllServe, Moved, MovesHold}
use Rattle.emit_ops.specs.Sequences.{moves_code}
use Rattle.code_laws.proofs.Gives.{place_eq_refl}
use Rattle.code_laws.proofs.Runs.{stands_front, leads_as, leads_then, leads_none}
use Rattle.code_laws.proofs.Means.{template_means}

pub place_same : (p q : Place) → place_eq p q ≡ true → p ≡ q
place_same (Reg a) (Reg b) e = ap Reg (eqb-true a b e)
place_same (Reg a) (Slot b) e = absurd (true≢false (sym e))
place_same (Slot a) (Reg b) e = absurd (true≢false (sym e))
place_same (Slot a) (Slot b) e = ap Slot (eqb-true a b e)

pub other_way : (p q : Place) → place_eq p q ≡ false → place_eq q p ≡ false
other_way p q e = elim (cases_Bool (place_eq q p)) as (λ _. place_eq q p ≡ false) [
  | inl t ↦ absurd (both_ways (place_eq p q) e (ap (place_eq p) (place_same q p t) ∙ place_eq_refl p))
  | inr f ↦ f
]

abbrev put_move : PlaceMove → (Place → ℕ) → Place → ℕ
put_move m f = put f m.to (held f m.from)

-- moves give the same from functions that agree on the places that are kept
moved_agree : (ms : List PlaceMove) (f g : Place → ℕ) → AllServe ms → ((q : Place) → IsKept q → f q ≡ g q) → (q : Place) → IsKept q → done ms f q ≡ done ms g q
unfolding done
moved_agree [] f g s h q k = h q k
moved_agree (m ∷ ms) f g s h q k = moved_agree ms (put_move m f) (put_move m g) s.2 (λ r kr. either r kr (place_eq m.to r) (same m.from s.1.0)) q k
  where
    same : (x : Source) → IsFree x → held f x ≡ held g x
    same (Held p) hx = h p hx
    same (Num v) hx = refl

    either : (r : Place) → IsKept r → (b : Bool) → held f m.from ≡ held g m.from → cond b (held f m.from) (f r) ≡ cond b (held g m.from) (g r)
    either r kr true e = e
    either r kr false e = h r kr

gave_moved : (m : PlaceMove) (a b : Cells) → Gave a m.to (held a.cell m.from) b → Moved a (put_move m a.cell) b
gave_moved m a b g = record { holds = λ q k. at q k (cases_Bool (place_eq m.to q)); df = g.df; besides = g.besides }
  where
    at : (q : Place) → IsKept q → ((place_eq m.to q ≡ true) ⊎ (place_eq m.to q ≡ false)) → b.cell q ≡ put_move m a.cell q
    at q k (inl e) = rw e (subst (λ x. b.cell x ≡ held a.cell m.from) (place_same m.to q e) g.value)
    at q k (inr e) = rw e (g.others q k (other_way m.to q e))

module _ {code : Region} (here : IsCode code) where
  pub moves_hold : MovesHold code
  unfolding done
  moves_hold [] s a to cs h sv st = leads_none (Quiet a.seen) (Comes code to (Moved a a.cell)) s cs (record { cells = a; sees = h; eip = st; holds = record { holds = λ q k. refl; df = refl; besides = record { outer = refl; seen = refl; brk_start = refl; brk = refl } } })
  moves_hold (m ∷ ms) s a to cs h sv st =
      let c = move_code m.to m.from in
      let js = moves_code ms in
      let f = put_move m a.cell in
      let cut = stands_front code s.eip c js to st in
      subst (λ n. Leads (Quiet a.seen) (Comes code to (Moved a (done ms f))) n s cs) (sym (length-append c js))
      (leads_then (Quiet a.seen) (Comes code cut.0 (Gave a m.to (held a.cell m.from))) (Comes code to (Moved a (done ms f))) (length c) (length js) s cs
      ((template_means here s a cut.0 cs h).move m.to m.from sv.0.1 sv.1.1 cut.1)
      (λ t ds r.
      let b = r.cells in
      let g = gave_moved m a b r.holds in
      leads_as b.seen a.seen (Comes code to (Moved b (done ms b.cell))) (Comes code to (Moved a (done ms f))) (length js) t ds g.besides.seen
      (λ u q. record {
        cells = q.cells;
        sees = q.sees;
        eip = q.eip;
        holds = record {
          holds = λ p k. q.holds.holds p k ∙ moved_agree ms b.cell f sv.2 g.holds p k;
          df = q.holds.df ∙ g.df;
          besides = record { outer = q.holds.besides.outer ∙ g.besides.outer; seen = q.holds.besides.seen ∙ g.besides.seen; brk_start = q.holds.besides.brk_start ∙ g.besides.brk_start; brk = q.holds.besides.brk ∙ g.besides.brk };
        };
      })
      (moves_hold ms t b to ds r.sees sv.2 (subst (λ x. StandsAt code x js to) (sym r.eip) cut.2))))

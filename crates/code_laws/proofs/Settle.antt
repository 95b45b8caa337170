-- Moves on the way to another block.
use Rattle.std.proofs.Common.{◌≡◌, ◌≢◌, ℕ, zero, suc, ◌+◌, ◌<◌, ◌≤◌, Bool, true, false, cond, not, ◌&&◌, List, [], ◌∷◌, ◌++◌, length, map, get_or, Option, Some, None, refl, sym, ap, ◌∙◌, subst, arith, ◌⊎◌, inl, inr, ⊎_elim}
use Rattle.std.specs.Prelude.{All, find}
use Rattle.std.proofs.lemmas.Bool.{cases_Bool, cases_eq, eqb-true, true≢false, both_ways}
use Rattle.br_word.specs.Memory.{Region}
use Rattle.ssa_form.specs.declared.form.TheConstants.{REGISTERS}
use Rattle.ssa_form.specs.declared.form.Val.{Val}
use Rattle.ssa_form.specs.declared.form.Val.TheVariants as val
use Rattle.par_moves.specs.declared.locations.Place.{Place}
use Rattle.par_moves.specs.declared.locations.MoveSource.TheVariants.{Place as Held}
use Rattle.par_moves.specs.declared.locations.PlaceMove.{PlaceMove}
use Rattle.par_moves.specs.Locations.{same_place, spare, is_from, held}
use Rattle.par_moves.specs.Moves.{is_ready, others, redirect, turn_of, sequenced, done, ActAtOnce, AreApart}
use Rattle.par_moves.proofs.Membership.{In, found, filter_in, map_in, at_index, index_of}
use Rattle.emit_ops.specs.Templates.{held_by}
use Rattle.code_laws.specs.Seen.{Cells, IsCode}
use Rattle.code_laws.specs.Laws.{Comes, IsOperand, IsResult}
use Rattle.code_laws.specs.Placed.{IsVal, Laid}
use Rattle.code_laws.specs.Moves.{AllServe, Moved, HomesApart, AreOuts, MayBeGiven, Settled, MovesSettle}
use Rattle.emit_ops.specs.Sequences.{moves_code, keeps_itself, move_of, live_moves, in_order}
use Rattle.code_laws.proofs.Runs.{leads_as}
use Rattle.code_laws.proofs.Moves.{moves_hold, other_way}

-- ---- lists

all_in : (P : PlaceMove → Type 0) (ms : List PlaceMove) → All P ms → (m : PlaceMove) → In ms m → P m
all_in P ms h m i = let k = index_of ms m i in subst P (k.2 m) (h k.0 m k.1)

in_all : (P : PlaceMove → Type 0) (ms : List PlaceMove) → ((m : PlaceMove) → In ms m → P m) → All P ms
in_all P ms h k d l = h (get_or ms k d) (at_index ms k d l)

apart_cons : (m : PlaceMove) (ms : List PlaceMove) → ((x : PlaceMove) → In ms x → same_place m.to x.to ≡ false) → AreApart ms → AreApart (m ∷ ms)
apart_cons m ms h t zero zero d e lt l = absurd (omega arith)
apart_cons m ms h t zero (suc j) d e lt l = h (get_or ms j e) (at_index ms j e (omega arith))
apart_cons m ms h t (suc i) zero d e lt l = absurd (omega arith)
apart_cons m ms h t (suc i) (suc j) d e lt l = t i j d e (omega arith) (omega arith)

-- ---- moves that read and write neither eax nor ecx

abbrev Serves : PlaceMove → Type 0
Serves m = IsResult m.to × IsOperand m.from

all_serve : (ms : List PlaceMove) → ((m : PlaceMove) → In ms m → Serves m) → AllServe ms
all_serve [] h = tt
all_serve (m ∷ ms) h = let s = h m (inl refl) in (s.0, s.1, all_serve ms (λ x i. h x (inr i)))

spare_serves : IsResult spare
spare_serves = (record { not_eax = refl; not_ecx = refl }, omega arith)

redirect_serves : (p : Place) (m : PlaceMove) → Serves m → Serves (redirect p m)
redirect_serves p m h = (h.0, either (is_from m.from p))
  where
    either : (b : Bool) → IsOperand (cond b (Held spare) m.from)
    either true = spare_serves
    either false = h.1

serve_in_order : (n : ℕ) (ms : List PlaceMove) → ((m : PlaceMove) → In ms m → Serves m) → (x : PlaceMove) → In (sequenced n ms) x → Serves x
unfolding sequenced
serve_in_order zero ms h x i = absurd i
serve_in_order (suc n) [] h x i = absurd i
serve_in_order (suc n) (m ∷ ms) h x i = turned (find (is_ready (m ∷ ms)) (m ∷ ms)) refl (λ rest hr y j. serve_in_order n rest hr y j) i
  where
    turned : (o : Option PlaceMove) → find (is_ready (m ∷ ms)) (m ∷ ms) ≡ o → ((rest : List PlaceMove) → ((y : PlaceMove) → In rest y → Serves y) → (y : PlaceMove) → In (sequenced n rest) y → Serves y) → In ((turn_of m ms o).done ++ sequenced n (turn_of m ms o).left) x → Serves x
    turned (Some r) e more (inl j) = subst Serves (sym j) (h r (found (is_ready (m ∷ ms)) (m ∷ ms) r e).0)
    turned (Some r) e more (inr j) = more (others r (m ∷ ms)) (λ y k. h y (filter_in (λ z. not (same_place z.to r.to)) (m ∷ ms) y k).0) x j
    turned None e more (inl j) = subst Serves (sym j) (spare_serves, (h m (inl refl)).0)
    turned None e more (inr (inl j)) = subst Serves (sym j) (redirect_serves m.to m (h m (inl refl)))
    turned None e more (inr (inr j)) = more (map (redirect m.to) ms) (λ y k. let z = map_in (redirect m.to) ms y k in subst Serves (sym z.2) (redirect_serves m.to z.0 (h z.0 (inr z.1)))) x j

-- ---- the moves of a live set

abbrev none : Val
none = val.Num 0

itself_is : (v : ℕ) (out : Val) → keeps_itself v out ≡ true → out ≡ val.Param v
itself_is v (val.Param u) e = ap val.Param (eqb-true u v e)
itself_is v (val.Line j) e = absurd (true≢false (sym e))
itself_is v (val.Num n) e = absurd (true≢false (sym e))

module _ (home place : ℕ → Place) (live : ℕ → Bool) where
  abbrev moves_now : ℕ → Val → Bool
  moves_now v out = live v && not (keeps_itself v out)

  -- it is the move of one register, k registers on
  record IsFrom (v : ℕ) (outs : List Val) (m : PlaceMove) : Type 0 where
    pub k : ℕ
    pub w : ℕ
    pub on : w ≡ v + k
    pub below : k < length outs
    pub moves : moves_now w (get_or outs k none) ≡ true
    pub is : m ≡ move_of home place w (get_or outs k none)

  later : (v : ℕ) (out : Val) (outs : List Val) (m : PlaceMove) → IsFrom (suc v) outs m → IsFrom v (out ∷ outs) m
  later v out outs m f = let e = f.on in let b = f.below in record { k = suc f.k; w = f.w; on = omega arith; below = omega arith; moves = f.moves; is = f.is }

  in_live : (v : ℕ) (outs : List Val) (m : PlaceMove) → In (live_moves home place live v outs) m → IsFrom v outs m
  in_live v [] m i = absurd i
  in_live v (out ∷ outs) m i = either (cases_Bool (moves_now v out)) (λ j. in_live (suc v) outs m j)
    where
      first : moves_now v out ≡ true → ((m ≡ move_of home place v out) ⊎ In (live_moves home place live (suc v) outs) m) → (In (live_moves home place live (suc v) outs) m → IsFrom (suc v) outs m) → IsFrom v (out ∷ outs) m
      first e (inl j) more = record { k = 0; w = v; on = omega arith; below = omega arith; moves = e; is = j }
      first e (inr j) more = later v out outs m (more j)

      either : ((moves_now v out ≡ true) ⊎ (moves_now v out ≡ false)) → (In (live_moves home place live (suc v) outs) m → IsFrom (suc v) outs m) → IsFrom v (out ∷ outs) m
      either (inl e) more = first e (subst (λ (b : Bool). In (cond b (move_of home place v out ∷ live_moves home place live (suc v) outs) (live_moves home place live (suc v) outs)) m) e i) more
      either (inr e) more = later v out outs m (more (subst (λ (b : Bool). In (cond b (move_of home place v out ∷ live_moves home place live (suc v) outs) (live_moves home place live (suc v) outs)) m) e i))

  live_in : (v k : ℕ) (outs : List Val) (w : ℕ) → w ≡ v + k → k < length outs → moves_now w (get_or outs k none) ≡ true → In (live_moves home place live v outs) (move_of home place w (get_or outs k none))
  live_in v k [] w on l e = absurd (omega arith)
  live_in v zero (out ∷ outs) w on l e =
      let q : w ≡ v = omega arith in
      subst (λ (u : ℕ). In (live_moves home place live v (out ∷ outs)) (move_of home place u out)) (sym q)
      (let f = subst (λ (u : ℕ). moves_now u out ≡ true) q e in
      subst (λ (b : Bool). In (cond b (move_of home place v out ∷ live_moves home place live (suc v) outs) (live_moves home place live (suc v) outs)) (move_of home place v out)) (sym f) (inl refl))
  live_in v (suc k) (out ∷ outs) w on l e = either (moves_now v out) (live_in (suc v) k outs w (omega arith) (omega arith) e)
    where
      either : (b : Bool) → In (live_moves home place live (suc v) outs) (move_of home place w (get_or outs k none)) → In (cond b (move_of home place v out ∷ live_moves home place live (suc v) outs) (live_moves home place live (suc v) outs)) (move_of home place w (get_or outs k none))
      either true i = inr i
      either false i = i

  module _ (apart : HomesApart home) where
    live_apart : (v : ℕ) (outs : List Val) → v + length outs ≤ REGISTERS → AreApart (live_moves home place live v outs)
    live_apart v [] l = λ i j d e lt m. absurd (omega arith)
    live_apart v (out ∷ outs) l = either (moves_now v out) (live_apart (suc v) outs (omega arith))
      where
        differs : (x : PlaceMove) → In (live_moves home place live (suc v) outs) x → same_place (home v) x.to ≡ false
        differs x i =
            let f = in_live (suc v) outs x i in
            let on = f.on in
            let b = f.below in
            let n : v ≢ f.w = λ e. omega arith in
            subst (λ (p : Place). same_place (home v) p ≡ false) (sym (ap (λ (y : PlaceMove). y.to) f.is)) (apart.each v f.w (omega arith) (omega arith) n)

        either : (b : Bool) → AreApart (live_moves home place live (suc v) outs) → AreApart (cond b (move_of home place v out ∷ live_moves home place live (suc v) outs) (live_moves home place live (suc v) outs))
        either true h = apart_cons (move_of home place v out) (live_moves home place live (suc v) outs) differs h
        either false h = h

    live_given : (outs : List Val) → length outs ≡ REGISTERS → MayBeGiven (live_moves home place live 0 outs)
    live_given outs n = record {
      apart = live_apart 0 outs (omega arith);
      no_spare = in_all (λ m. same_place m.to spare ≡ false) (live_moves home place live 0 outs) (λ m i.
          let f = in_live 0 outs m i in
          let on = f.on in
          let b = f.below in
          subst (λ (p : Place). same_place p spare ≡ false) (sym (ap (λ (y : PlaceMove). y.to) f.is)) (apart.spare f.w (omega arith)));
    }

    module _ (limit : ℕ) (laid : Laid limit home place) (outs : List Val) (ho : AreOuts limit outs) where
      operand : (out : Val) → IsVal limit out → IsOperand (held_by home place out)
      operand (val.Param v) i = (laid.homes v i, laid.homes_fit v i)
      operand (val.Line j) i = (laid.places j i, laid.places_fit j i)
      operand (val.Num n) i = (tt, i)

      live_serves : (m : PlaceMove) → In (live_moves home place live 0 outs) m → Serves m
      live_serves m i =
          let f = in_live 0 outs m i in
          let on = f.on in
          let b = f.below in
          let n = ho.count in
          let l : f.w < REGISTERS = omega arith in
          let k : f.k < REGISTERS = omega arith in
          subst Serves (sym f.is) ((laid.homes f.w l, laid.homes_fit f.w l), operand (get_or outs f.k none) (ho.each f.k k))

      -- a home to which nothing is moved
      stays : (list : List PlaceMove) → ActAtOnce (live_moves home place live 0 outs) list → (f : Place → ℕ) (q : Place) → ((v : ℕ) → v < REGISTERS → moves_now v (get_or outs v none) ≡ true → same_place (home v) q ≡ false) → same_place spare q ≡ false → done list f q ≡ f q
      stays list act f q off ns = act.kept f q (in_all (λ m. same_place m.to q ≡ false) (live_moves home place live 0 outs) (λ m i.
          let h = in_live 0 outs m i in
          let on = h.on in
          let b = h.below in
          let n = ho.count in
          let w : h.k ≡ h.w = omega arith in
          let l : h.w < REGISTERS = omega arith in
          subst (λ (p : Place). same_place p q ≡ false) (sym (ap (λ (y : PlaceMove). y.to) h.is)) (off h.w l (subst (λ (k : ℕ). moves_now h.w (get_or outs k none) ≡ true) w h.moves)))) ns

      no_move : (list : List PlaceMove) → ActAtOnce (live_moves home place live 0 outs) list → (f : Place → ℕ) (v : ℕ) → v < REGISTERS → moves_now v (get_or outs v none) ≡ false → done list f (home v) ≡ f (home v)
      no_move list act f v l e = stays list act f (home v)
          (λ u lu on. ⊎_elim (λ (q : u ≡ v). absurd (both_ways (moves_now v (get_or outs v none)) e (subst (λ (x : ℕ). moves_now x (get_or outs x none) ≡ true) q on))) (λ (n : u ≢ v). apart.each u v lu l n) (cases_eq u v))
          (other_way_home v l)
        where
          other_way_home : (v : ℕ) → v < REGISTERS → same_place spare (home v) ≡ false
          other_way_home v l = other_way (home v) spare (apart.spare v l)

      settled : (list : List PlaceMove) → ActAtOnce (live_moves home place live 0 outs) list → (a b : Cells) → Moved a (done list a.cell) b → Settled home place live outs a b
      settled list act a b m = record {
        taken = λ v l on. m.holds (home v) (laid.homes v l) ∙ has v l on (cases_Bool (keeps_itself v (get_or outs v none)));
        kept = λ v l off. m.holds (home v) (laid.homes v l) ∙ no_move list act a.cell v l (ap (λ (x : Bool). x && not (keeps_itself v (get_or outs v none))) off);
        others = λ q k off ns. m.holds q k ∙ stays list act a.cell q (λ v l on. off v l) ns;
        df = m.df;
        besides = m.besides;
      }
        where
          has : (v : ℕ) → v < REGISTERS → live v ≡ true → ((keeps_itself v (get_or outs v none) ≡ true) ⊎ (keeps_itself v (get_or outs v none) ≡ false)) → done list a.cell (home v) ≡ held a.cell (held_by home place (get_or outs v none))
          has v l on (inl e) = no_move list act a.cell v l (rw (on, e) refl) ∙ sym (ap (λ (x : Val). held a.cell (held_by home place x)) (itself_is v (get_or outs v none) e))
          has v l on (inr e) =
              let n = ho.count in
              all_in (λ m. done list a.cell m.to ≡ held a.cell m.from) (live_moves home place live 0 outs) (act.moved a.cell) (move_of home place v (get_or outs v none)) (live_in 0 v outs v (omega arith) (omega arith) (rw (on, e) refl))

-- given the contract of moves_at_once
pub moves_given : (limit : ℕ) (home place : ℕ → Place) (live : ℕ → Bool) (outs : List Val) → HomesApart home → AreOuts limit outs → MayBeGiven (live_moves home place live 0 outs)
moves_given limit home place live outs apart ho = live_given home place live apart outs ho.count

pub moves_settle : ((moves : List PlaceMove) → AreApart moves → All (λ m. same_place m.to spare ≡ false) moves → ActAtOnce moves (sequenced (length moves) moves)) → (code : Region) (limit : ℕ) (home place : ℕ → Place) → IsCode code → Laid limit home place → HomesApart home → MovesSettle code limit home place
moves_settle act code limit home place here laid apart live outs s a to cs h ho st =
    let ms = live_moves home place live 0 outs in
    let given = live_given home place live apart outs ho.count in
    let at_once = act ms given.apart given.no_spare in
    let list = in_order ms in
    leads_as a.seen a.seen (Comes code to (Moved a (done list a.cell))) (Comes code to (Settled home place live outs a)) (length (moves_code list)) s cs refl
    (λ t c. record { cells = c.cells; sees = c.sees; eip = c.eip; holds = settled home place live apart limit laid outs ho list at_once a c.cells c.holds })
    (moves_hold here list s a to cs h (all_serve list (λ m i. serve_in_order (length ms) ms (live_serves home place live apart limit laid outs ho) m i)) st)

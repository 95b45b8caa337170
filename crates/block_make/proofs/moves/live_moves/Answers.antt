use Rattle.std.proofs.Common.{◌≡◌, ◌+◌, ◌<◌, ◌++◌, ◌∷◌, [], List, length, get_or, not, ◌&&◌, ◌∙◌, sym, ap, subst, arith}
use Rattle.std.specs.Prelude.{Option}
use Rattle.ssa_form.specs.declared.form.Val.{Val}
use Rattle.ssa_form.specs.declared.form.Val.TheVariants as val
use Rattle.par_moves.specs.declared.locations.Place.{Place}
use Rattle.par_moves.specs.declared.locations.MoveSource.{MoveSource}
use Rattle.par_moves.specs.declared.locations.PlaceMove.{PlaceMove}
use Rattle.par_moves.specs.Homes.{home_of}
use Rattle.emit_ops.specs.Placed.{place_at}
use Rattle.emit_ops.specs.Sequences.{keeps_itself}
use Rattle.emit_ops.specs.Templates.{held_by}
use Rattle.block_make.specs.Choices.{place_in}
use Rattle.block_make.specs.Prepared.{choice_in, is_live, IsFound}
use Rattle.block_make.proofs.Splits.{whole, outs_found}
use Rattle.block_make.proofs.Behind.{any_default, moves_left, move_taken, move_left}
use Rattle.block_make.proofs.moves.live_moves.Goals as goal
use Rattle.block_make.proofs.moves.live_moves.Goals.{then-is_moved+in_ok-push, else-is_moved}

abbrev made : Place → MoveSource → PlaceMove
made t f = record { to = t; from = f }

same_items : (xs ys : List PlaceMove) → ys ≡ xs → ys ≡ xs
same_items xs ys e = e

pub source-requires : goal.source-requires
source-requires c =
    let of = c.args.of.now in
    let v = c.loop-register.register in
    let t = c.loop-register-test.true in
    let n = (whole of.block c.requires.whole).count in
    let l : v < length of.block.outs = omega (arith, n, t) in
    subst (λ (ps : List (Option Place)). IsFound ps (get_or of.block.outs v (val.Param 0))) (sym c.as_slice.ensures.value)
    (subst (λ (x : Val). IsFound of.places.items x) (any_default of.block.outs v (val.Num 0) (val.Param 0) l) (outs_found of.block of.split of.places.items c.requires v l))

pub loop-register-preserved : goal.loop-register-preserved
loop-register-preserved c =
    let of = c.args.of.now in
    let v = c.loop-register.register in
    let t = c.loop-register-test.true in
    let n = (whole of.block c.requires.whole).count in
    let l : v < length of.block.outs = omega (arith, n, t) in
    let place = place_in (choice_in of) in
    let live = is_live c.args.live in
    let d = any_default of.block.outs v (val.Param 0) (val.Num 0) l in
    let now = c.is_moved.ensures ∙ ap (λ (x : Val). live v && not (keeps_itself v x)) d in
    elim c.if-is_moved.branch [
      | then-is_moved+in_ok-push w ↦
          move_taken home_of place live of.block.outs v _ c.loop-register.moves.items c.if-is_moved.moves.items l (sym now ∙ w.if-is_moved.true) c.loop-register.invariant
          ((let m = w.moves-is in same_items w.push.new.self.items c.if-is_moved.moves.items cc)
          ∙ w.in_ok-push.ensures.items
          ∙ ap (λ (to : Place). c.loop-register.moves.items ++ made to w.source.result ∷ []) w.home.ensures.value
          ∙ ap (λ (from : MoveSource). c.loop-register.moves.items ++ made (home_of v) from ∷ [])
          (w.source.ensures.value
          ∙ ap (λ (ps : List (Option Place)). held_by home_of (place_at ps) (get_or of.block.outs v (val.Param 0))) (w.as_slice.ensures.value ∙ c.requires.given)
          ∙ ap (λ (x : Val). held_by home_of place x) d))
      | else-is_moved w ↦
          move_left home_of place live of.block.outs v _ c.loop-register.moves.items l (sym now ∙ w.if-is_moved.false) c.loop-register.invariant
          ∙ ap (λ (xs : List PlaceMove). xs ++ moves_left home_of place live of.block.outs (v + 1)) (let m = w.moves-is in same_items c.if-is_moved.moves.items c.loop-register.moves.items cc)
    ]

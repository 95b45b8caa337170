use Rattle.std.proofs.Common.{◌≡◌, ◌<◌, ◌+◌, [], ◌∷◌, ◌++◌, map, sym, ap, ◌∙◌, arith}
use Rattle.std.proofs.lemmas.Result.{err_from_is_err_and}
use Rattle.flow_graph.specs.Graph.{starts_in}
use Rattle.code_layout.specs.declared.place.TheConstants.{MAX_CODE}
use Rattle.code_layout.specs.Layout.{added_length, layout_outs}
use Rattle.cold_copy.specs.ColdCode.{copies_by, reentered_from, reentry_at, turn_piece}
use Rattle.cold_copy.specs.Behind.{opened}
use Rattle.cold_copy.proofs.Lengths.{length_both}
use Rattle.cold_copy.proofs.tails.pieces_behind.Goals as goal

pub returns-in_err-copies-clause-long : goal.returns-in_err-copies-clause-long
returns-in_err-copies-clause-long c =
    let exe = c.args.exe.now in
    let blocks = c.args.starts.now.blocks.now in
    let cold = c.args.starts.now.cold.now in
    let one = map opened (copies_by exe blocks cold) in
    let two = map opened (map reentry_at (reentered_from exe (layout_outs c.args.layout.now) blocks)) in
    let three = opened (turn_piece blocks cold) ∷ [] in
    let p = err_from_is_err_and c.from_residual-in_err-copies.result c.from_residual-in_err-copies.ensures.1 in
    rw (p.1, p.2) (λ e. let l = c.in_err-copies.ensures.long e in omega (arith, l, c.len-at.ensures, length_both one (two ++ three), length_both two three))

pub returns-in_err-reentries-clause-long : goal.returns-in_err-reentries-clause-long
returns-in_err-reentries-clause-long c =
    let exe = c.args.exe.now in
    let blocks = c.args.starts.now.blocks.now in
    let cold = c.args.starts.now.cold.now in
    let one = map opened (copies_by exe blocks cold) in
    let two = map opened (map reentry_at (reentered_from exe (layout_outs c.args.layout.now) blocks)) in
    let three = opened (turn_piece blocks cold) ∷ [] in
    let again = c.as_slice-2.ensures.value
    ∙ c.in_ok-again.ensures
    ∙ ap (λ o. reentered_from exe o (starts_in c.args.graph.now.nodes)) (c.as_slice.ensures.value ∙ c.in_ok-outs.ensures)
    ∙ ap (λ b. reentered_from exe (layout_outs c.args.layout.now) b) (sym c.requires.starts) in
    let same = ap (λ b. added_length (map opened (map reentry_at b))) again in
    let p = err_from_is_err_and c.from_residual-in_err-reentries.result c.from_residual-in_err-reentries.ensures.1 in
    rw (p.1, p.2) (λ e. let l = c.in_err-reentries.ensures.long e in
    omega (arith, l, same, c.in_ok-copies.ensures.len, ap added_length c.in_ok-copies.ensures.pieces, c.len-at.ensures, length_both one (two ++ three), length_both two three))

pub returns-in_err-turn-clause-long : goal.returns-in_err-turn-clause-long
returns-in_err-turn-clause-long c =
    let exe = c.args.exe.now in
    let blocks = c.args.starts.now.blocks.now in
    let cold = c.args.starts.now.cold.now in
    let one = map opened (copies_by exe blocks cold) in
    let two = map opened (map reentry_at (reentered_from exe (layout_outs c.args.layout.now) blocks)) in
    let three = opened (turn_piece blocks cold) ∷ [] in
    let again = c.as_slice-2.ensures.value
    ∙ c.in_ok-again.ensures
    ∙ ap (λ o. reentered_from exe o (starts_in c.args.graph.now.nodes)) (c.as_slice.ensures.value ∙ c.in_ok-outs.ensures)
    ∙ ap (λ b. reentered_from exe (layout_outs c.args.layout.now) b) (sym c.requires.starts) in
    let same = ap (λ b. added_length (map opened (map reentry_at b))) again in
    let p = err_from_is_err_and c.from_residual-in_err-turn.result c.from_residual-in_err-turn.ensures.1 in
    rw (p.1, p.2) (λ e. let l = c.in_err-turn.ensures.long e in
    omega (arith, l, same, c.in_ok-reentries.ensures.len, ap added_length c.in_ok-reentries.ensures.pieces, c.in_ok-copies.ensures.len, ap added_length c.in_ok-copies.ensures.pieces, c.len-at.ensures, length_both one (two ++ three), length_both two three))

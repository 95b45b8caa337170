use Rattle.std.proofs.Common.{◌≡◌, ◌+◌, ◌<◌, ◌≤◌, ◌++◌, ◌∷◌, [], map, drop, get_or, length, append_assoc, sym, ap, ◌∙◌, arith}
use Rattle.std.proofs.lemmas.List.{drop_more}
use Rattle.block_make.specs.FragmentCode.{OpenCode}
use Rattle.code_layout.specs.declared.place.TheConstants.{MAX_CODE}
use Rattle.code_layout.specs.Layout.{Added, added_length}
use Rattle.cold_copy.specs.ColdCode.{reentry_at}
use Rattle.cold_copy.specs.declared.error.ColdError.TheVariants.{Code}
use Rattle.cold_copy.specs.Behind.{opened}
use Rattle.cold_copy.proofs.Lengths.{length_both}
use Rattle.cold_copy.proofs.Result.{told}
use Rattle.cold_copy.proofs.behind.reentries.Goals as goal

pub returns-in_err-len-clause-long : goal.returns-in_err-len-clause-long
returns-in_err-len-clause-long c =
    let make = reentry_at in
    let all = c.args.starts.now in
    let i = c.loop-start.start-index in
    let x = get_or all i 0 in
    let rest = map opened (map make (drop (i + 1) all)) in
    let cut = ap (λ l. map opened (map make l)) (drop_more all i 0 c.loop-start-test.true) in
    let whole = sym (ap added_length c.loop-start.invariant.pieces) ∙ length_both c.loop-start.pieces.items (map opened (map make (drop i all))) in
    let bytes = ap (λ (o : OpenCode). length o.bytes) c.in_ok-code.ensures in
    told (λ e. e ≡ Code) c.from_residual-in_err-len.result (omega (arith, whole, ap added_length cut, c.loop-start.invariant.len, bytes, c.in_err-len.ensures.long))

pub loop-start-preserved : goal.loop-start-preserved
loop-start-preserved c =
    let make = reentry_at in
    let all = c.args.starts.now in
    let i = c.loop-start.start-index in
    let x = get_or all i 0 in
    let rest = map opened (map make (drop (i + 1) all)) in
    let cut = ap (λ l. map opened (map make l)) (drop_more all i 0 c.loop-start-test.true) in
    let code = c.in_ok-code.ensures in
    let pushed = c.in_ok-push.ensures ∙ ap (λ (o : OpenCode). c.loop-start.pieces.items ++ (record { start = x; code = o } ∷ [])) code in
    let len = ap added_length pushed ∙ length_both c.loop-start.pieces.items (opened (make x) ∷ []) in
    let bytes = ap (λ (o : OpenCode). length o.bytes) code in
    record {
      pieces = ap (λ l. l ++ rest) pushed
          ∙ append_assoc c.loop-start.pieces.items (opened (make x) ∷ []) rest
          ∙ ap (λ l. c.loop-start.pieces.items ++ l) (sym cut)
          ∙ c.loop-start.invariant.pieces;
      len = omega (arith, len, bytes, c.loop-start.invariant.len, c.in_ok-len.ensures.len);
      short = c.in_ok-len.ensures.room;
    }

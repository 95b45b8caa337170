use Rattle.std.proofs.Common.{◌≡◌, ◌+◌, ◌≤◌, ◌++◌, ◌∷◌, length, drop, append_assoc, length-append, sym, ap, ◌∙◌, subst, arith}
use Rattle.std.specs.Prelude.{vec_len}
use Rattle.std.proofs.lemmas.List.{drop_more}
use Rattle.ia_encode.specs.Items.{goes_to}
use Rattle.block_make.specs.FragmentCode.{OpenCode}
use Rattle.code_layout.specs.declared.place.TheConstants.{CODE_START}
use Rattle.code_layout.specs.Layout.{Added, added_length, filled_code, filled_from}
use Rattle.code_layout.proofs.Fills.{length_filled}
use Rattle.cold_copy.specs.Behind.{IsWithin}
use Rattle.cold_copy.specs.Linking.{stands_to}
use Rattle.cold_copy.proofs.behind.link_all.Goals as goal

pub loop-piece-preserved : goal.loop-piece-preserved
loop-piece-preserved c =
    let g = goes_to (stands_to c.args.stands.now) in
    let all = c.args.pieces.now in
    let i = c.loop-piece.piece-index in
    let l = c.loop-piece-test.true in
    let p = c.piece-item.result in
    let rest = drop (i + 1) all in
    let cut : drop i all ≡ p ∷ rest = drop_more all i p l ∙ ap (λ z. z ∷ rest) (sym c.piece-item.is) in
    let same : c.piece.inside.code ≡ p.code = ap (λ (a : Added). a.code) c.piece.view_is in
    let n = vec_len c.loop-piece.code in
    let within : IsWithin p.code = subst (λ (a : Added). IsWithin a.code) (sym c.piece-item.is) (c.requires.within i p l) in
    let long = length_filled g (CODE_START + n) p.code.fixes p.code.bytes within in
    let new = c.in_ok-link.ensures ∙ ap (λ (x : OpenCode). c.loop-piece.code.items ++ filled_code g (CODE_START + n) x) same in
    let count = ap length new ∙ length-append c.loop-piece.code.items (filled_code g (CODE_START + n) p.code) in
    let len : vec_len c.link.new.code ≡ n + length p.code.bytes = omega (arith, count, long, c.link.new.code.ok.0, c.loop-piece.code.ok.0) in
    let on : CODE_START + vec_len c.link.new.code ≡ CODE_START + n + length p.code.bytes = omega (arith, len) in
    record {
      code = ap (λ x. x ++ filled_from g (CODE_START + vec_len c.link.new.code) rest) new
          ∙ append_assoc c.loop-piece.code.items (filled_code g (CODE_START + n) p.code) (filled_from g (CODE_START + vec_len c.link.new.code) rest)
          ∙ ap (λ m. c.loop-piece.code.items ++ (filled_code g (CODE_START + n) p.code ++ filled_from g m rest)) on
          ∙ ap (λ ps. c.loop-piece.code.items ++ filled_from g (CODE_START + n) ps) (sym cut)
          ∙ c.loop-piece.invariant.code;
      len = omega (arith, len, ap added_length cut, c.loop-piece.invariant.len);
      room = omega (arith, len, ap added_length cut, c.loop-piece.invariant.room);
    }

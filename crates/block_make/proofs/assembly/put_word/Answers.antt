use Rattle.std.proofs.Common.{◌≡◌, ◌+◌, ◌-◌, ◌++◌, take, arith, ap, ◌∙◌}
use Rattle.std.proofs.lemmas.List.{drop-drop}
use Rattle.br_word.specs.Memory.{bytes_of}
use Rattle.block_make.proofs.assembly.put_word.Goals as goal
use borrow.Rule.Slice.PartMut.{put_mid}

pub returns : goal.returns
unfolding bytes_of
returns c =
    let at = c.args.at in
    let bytes = c.args.bytes.now in
    let new = c.copy_from_slice.new.self in
    let e : at + 4 - at ≡ 4 = omega arith in
    let ys : new ≡ bytes_of 4 c.args.word = c.copy_from_slice.ensures.after ∙ c.to_le_bytes.ensures in
    ap (λ k. put_mid at k bytes new) e ∙ ap (λ l. put_mid at 4 bytes l) ys ∙ ap (λ l. take at bytes ++ (bytes_of 4 c.args.word ++ l)) (drop-drop 4 at bytes)

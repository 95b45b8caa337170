use Rattle.std.proofs.Common.{◌∙◌}
use Rattle.elf_read.proofs.Walk.{make, same_make, field-drop}
use Rattle.elf_read.proofs.header.read_header.Goals as goal

pub returns : goal.returns
unfolding make
returns c =
    let at = c.args.place in
    let bytes = c.args.bytes.now in
    same_make at _ _ _ _ _ _ _ _ _ _ _ _ c.word_at.ensures (c.word_at-2.ensures ∙ field-drop 4 4 at bytes) (c.word_at-3.ensures ∙ field-drop 4 8 at bytes) (c.word_at-4.ensures ∙ field-drop 4 16 at bytes) (c.word_at-5.ensures ∙ field-drop 4 20 at bytes) (c.word_at-6.ensures ∙ field-drop 4 24 at bytes)

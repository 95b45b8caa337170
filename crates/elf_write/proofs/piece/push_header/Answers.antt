use Rattle.std.proofs.Common.{◌++◌, ◌∙◌, ap}
use Rattle.br_word.specs.Memory.{bytes_of}
use Rattle.elf_write.proofs.Appends.{eight}
use Rattle.elf_write.proofs.piece.push_header.Goals as goal

pub returns : goal.returns
returns c = eight _ _ _ _ _ _ _ _ _ _ _ _ _ _ _ _ _ c.in_ok-push_word.ensures
    (c.in_ok-push_word-2.ensures ∙ ap (λ v. c.push_word.new.out.items ++ bytes_of 4 v) c.place_of.ensures)
    c.in_ok-push_word-3.ensures c.in_ok-push_word-4.ensures
    (c.in_ok-push_word-5.ensures ∙ ap (λ v. c.push_word-4.new.out.items ++ bytes_of 4 v) c.len.ensures)
    c.in_ok-push_word-6.ensures
    (c.in_ok-push_word-7.ensures ∙ ap (λ v. c.push_word-6.new.out.items ++ bytes_of 4 v) c.flags_word.ensures)
    c.in_ok-push_word-8.ensures

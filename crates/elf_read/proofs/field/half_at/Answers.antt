use Rattle.std.proofs.Common.{drop, sym, ap, ◌∙◌, arith, length-drop}
use Rattle.byteorder.specs.Endian.{little_number}
use Rattle.elf_read.proofs.Numbers.{number_of-take}
use Rattle.elf_read.proofs.field.half_at.Goals as goal

pub returns : goal.returns
returns c =
    let rest = drop c.args.at c.args.bytes.now in
    c.read_u16.ensures ∙ ap (little_number 2) c.tail.ensures ∙ sym (number_of-take 2 rest (omega (arith, length-drop c.args.at c.args.bytes.now)))

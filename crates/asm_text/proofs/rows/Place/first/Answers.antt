use Rattle.std.proofs.Common.{◌*◌, ◌≤◌, length, arith}
use Rattle.elf_flat.specs.Flat.{flat_entry}
use Rattle.asm_text.specs.Source.{rows_in}
use Rattle.asm_text.specs.Reads.{size_of_rows}
use Rattle.asm_text.proofs.Lines.{rows_short}
use Rattle.asm_text.proofs.rows.Place.first.Goals as goal

pub returns-clause-room : goal.returns-clause-room
returns-clause-room c =
    let few : length c.args.source.now ≤ 16777216 = c.requires in
    let short : size_of_rows (rows_in c.args.source.now) ≤ 3 * length c.args.source.now = rows_short c.lines_give_forms.ensures.short 1 flat_entry c.args.source.now in
    record { lines = omega (arith, few); bytes = omega (arith, few, short) }

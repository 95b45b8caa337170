use Rattle.std.proofs.Common.{◌≡◌, ◌≤◌, length, arith}
use Rattle.asm_text.specs.Reads.{line_length}
use Rattle.asm_text.proofs.Places.{line_in, some_end, no_end}
use Rattle.asm_text.proofs.rows.line_length.Goals as goal

pub returns-in-Some-clause-value : goal.returns-in-Some-clause-value
returns-in-Some-clause-value c = some_end c.args.bytes.now c.in-Some.end c.in-Some.ensures

pub returns-in-Some-clause-few : goal.returns-in-Some-clause-few
returns-in-Some-clause-few c =
    let is : c.in-Some.end ≡ line_length c.args.bytes.now = some_end c.args.bytes.now c.in-Some.end c.in-Some.ensures in
    let few : line_length c.args.bytes.now ≤ length c.args.bytes.now = line_in c.args.bytes.now in
    omega (arith, is, few)

pub returns-in-None-clause-value : goal.returns-in-None-clause-value
returns-in-None-clause-value c = no_end c.args.bytes.now c.in-None.ensures

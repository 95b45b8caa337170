use Rattle.std.proofs.Common.{◌≡◌, ◌≤◌, length, arith, rules}
use Rattle.std.proofs.lemmas.Grind.{common_steps}
use Rattle.script_text.proofs.Names.{a_name, no_name}
use Rattle.script_text.proofs.line.read_name.Goals as goal

pub returns-in-Ok : goal.returns-in-Ok
returns-in-Ok c =
    let some : 1 ≤ length c.args.bytes.now = grind (arith, common_steps) in
    let few : length c.args.bytes.now ≤ 4096 = grind (arith, common_steps) in
    (c.in-Ok.ensures.cases.0, a_name c.args.bytes.now some few c.in-Ok.ensures.cases.1)

pub returns-in-Err : goal.returns-in-Err
returns-in-Err c = no_name c.args.bytes.now c.in-Err.ensures.cases.0

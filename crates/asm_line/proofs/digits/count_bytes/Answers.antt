use Rattle.std.proofs.Common.{◌≤◌, length, arith, sym}
use Rattle.asm_line.proofs.LineSizes.{digits_few, values_length}
use Rattle.asm_line.proofs.digits.count_bytes.Goals as goal

pub overflow_cast-result : goal.overflow_cast-result
overflow_cast-result c = let h : length c.args.digits.now ≤ 128 = digits_few c.args.digits.now c.requires in omega arith

pub returns-clause-count : goal.returns-clause-count
returns-clause-count c = sym (values_length c.args.digits.now)

pub returns-clause-few : goal.returns-clause-few
returns-clause-few c = let h : length c.args.digits.now ≤ 128 = digits_few c.args.digits.now c.requires in omega arith

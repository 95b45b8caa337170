use Rattle.std.proofs.Common.{◌≤◌, ◌^◌, length, arith, lit<}
use Rattle.std.proofs.Math.Nat.{pow-le-pow_right}
use Rattle.word_reader.proofs.number.read_digits.Goals as goal

pub returns-then-are_all_digits-clause-small : goal.returns-then-are_all_digits-clause-small
returns-then-are_all_digits-clause-small c =
    let l : length c.args.bytes.now ≤ c.args.most = omega (arith, c.if-bytes-most.false) in
    let p : 10 ^ length c.args.bytes.now ≤ 10 ^ c.args.most = pow-le-pow_right {n = 10} (lit< tt) l in
    let s = c.digits_number.ensures.small in
    omega (arith, p, s)

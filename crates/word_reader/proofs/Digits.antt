-- Numbers of few digits are small.
use Rattle.std.proofs.Common.{ℕ, ◌^◌, ◌<◌, ◌≤◌, arith, lit<}
use Rattle.std.proofs.Math.Nat.{pow-le-pow_right}

pub below_18 : (n i : ℕ) → n < 10 ^ i → i ≤ 17 → n < 100000000000000000
below_18 n i h l =
    let p : 10 ^ i ≤ 10 ^ 17 = pow-le-pow_right {n = 10} (lit< tt) l in
    omega (arith, p, h)

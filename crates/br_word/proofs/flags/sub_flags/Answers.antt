use Rattle.std.proofs.Common.{◌≡◌, ◌+◌, ◌-◌, ◌%◌, ◌^◌, ℕ, ap, ◌∙◌, arith}
use Rattle.std.specs.Prelude.{bit_and}
use Rattle.std.proofs.lemmas.Nat.{and_mask, pow_pos}
use Rattle.br_word.specs.Words.{bit}
use Rattle.br_word.specs.Words.{bits_of}
use Rattle.br_word.proofs.Results.{bit_from, difference_over}
use Rattle.br_word.proofs.flags.sub_flags.Goals as goal

pub returns : goal.returns
returns c =
    let w = c.args.w in let a = c.args.a in let b = c.args.b in
    let t : ℕ = a + 2 ^ bits_of w - (b + bit c.args.borrow) in
    let e : a + c.mask.result + 1 - (b + bit c.args.borrow) ≡ t = omega (arith, c.mask.ensures, pow_pos (bits_of w)) in
    let v : bit_and t c.mask-2.result ≡ t % 2 ^ bits_of w = ap (λ k. bit_and t k) c.mask-2.ensures ∙ and_mask t (bits_of w) in
    let over = bit_from _ _ (difference_over w a b c.args.borrow c.requires.a_fits c.requires.b_fits) in
    simp (e, v, c.bits.ensures, c.logic_flags-flags.ensures, over)

use Rattle.std.proofs.Common.{◌+◌, ℕ, ap, ◌∙◌}
use Rattle.std.specs.Prelude.{bit_and}
use Rattle.std.proofs.lemmas.Nat.{and_mask}
use Rattle.br_word.specs.Words.{bit}
use Rattle.br_word.specs.Words.{bits_of}
use Rattle.br_word.proofs.Results.{bit_from, sum_over, sum_carry}
use Rattle.br_word.proofs.flags.add_flags.Goals as goal

pub returns-clause-value : goal.returns-clause-value
returns-clause-value c =
    let w = c.args.w in let a = c.args.a in let b = c.args.b in
    let t : ℕ = a + b + bit c.args.carry in
    let v = ap (λ k. bit_and t k) c.mask.ensures ∙ and_mask t (bits_of w) in
    let over = bit_from _ _ (sum_over w a b c.args.carry c.requires.a_fits c.requires.b_fits) in
    let carried = bit_from _ _ (sum_carry w a b c.args.carry c.requires.a_fits c.requires.b_fits) in
    simp (v, c.bits.ensures, c.bits-2.ensures, c.logic_flags-flags.ensures, over, carried)

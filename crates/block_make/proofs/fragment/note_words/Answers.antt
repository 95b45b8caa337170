use Rattle.std.proofs.Common.{ℕ, ◌^◌, ◌<◌, List, length, get_or, below_more, arith, sym, subst}
use Rattle.block_make.proofs.Fragments.{words_all}
use Rattle.block_make.proofs.fragment.note_words.Goals as goal

pub loop-index-preserved : goal.loop-index-preserved
loop-index-preserved c = below_more _ _ c.loop-index.invariant c.note_word.ensures

pub returns : goal.returns
returns c = words_all c.args.exits.now (λ k l. let t = c.loop-index-test.false in c.loop-index.invariant k (omega (arith, t, l)))

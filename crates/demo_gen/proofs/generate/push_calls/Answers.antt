use Rattle.std.proofs.Common.{◌+◌, ◌*◌, ◌∙◌, ap, ◌++◌}
use Rattle.elf_write.specs.File.{word}
use Rattle.demo_gen.proofs.Steps.{calls_step}
use Rattle.demo_gen.proofs.generate.push_calls.Goals as goal

pub loop-index-preserved : goal.loop-index-preserved
loop-index-preserved c = calls_step c.args.count c.loop-index.index _ _ _ c.loop-index-test.true c.loop-index.invariant (c.in_ok-push_word.ensures ∙ ap (λ ls. ls ++ word (27 + 5 * c.args.count + 6 * c.loop-index.index)) c.in_ok-push.ensures.items)

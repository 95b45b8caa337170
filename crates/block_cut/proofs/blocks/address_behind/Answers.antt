use Rattle.std.proofs.Common.{arith}
use Rattle.block_cut.proofs.Follows.{behind_below}
use Rattle.block_cut.proofs.blocks.address_behind.Goals as goal

pub overflow_add-result : goal.overflow_add-result
overflow_add-result c = omega (arith, behind_below c.args.exe.now c.args.start c.args.block.now c.encoding_length.ensures c.requires.guest (omega arith) c.requires.block)

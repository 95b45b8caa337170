use Rattle.std.proofs.Common.{sym, ◌∙◌, ap}
use Rattle.block_cut.specs.Blocks.{block_of, cut_of}
use Rattle.top_graph.proofs.show.listing_of.Goals as goal

pub show_cut_block-requires-clause-block : goal.show_cut_block-requires-clause-block
show_cut_block-requires-clause-block c = c.cut-block.ensures.block c.args.exe.now c.requires.cuts ∙ ap (λ s. cut_of s (block_of c.args.exe.now s)) (sym c.start.ensures)

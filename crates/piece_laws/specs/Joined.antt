-- The items of a fragment are those of its pieces.
use Rattle.std.specs.Prelude.{◌≡◌, List, map}
use Rattle.elf_read.specs.declared.exe.Exe.{Exe}
use Rattle.run_model.specs.Edges.{Edge}
use Rattle.block_cut.specs.CountedEdges.{counting}
use Rattle.flow_graph.specs.Graph.{known_of}
use Rattle.ssa_form.specs.declared.form.Block.{Block}
use Rattle.ssa_form.specs.declared.form.BlockKey.{BlockKey}
use Rattle.block_make.specs.Choices.{choice_of}
use Rattle.block_make.specs.Keys.{AreDistinct}
use Rattle.block_make.specs.FragmentItems.{items_of}
use Rattle.sim_runs.specs.Coding.{SameKind}
use Rattle.sim_runs.specs.Pieces.{fragment_items}
use Rattle.piece_laws.specs.Choices.{coding_of}
use Rattle.piece_laws.specs.Pieces.{pieces_of}

-- the key's exits are the known exits of its block, each once
pub record IsKeyOf (exe : Exe) (edges : List Edge) (key : BlockKey) : Type 0 where
  pub distinct : AreDistinct key.exits
  pub known : known_of exe (counting exe edges) key.start ≡ map (λ e. e.0) key.exits

-- Of a block that is not native, as its exit is of one kind with that of a block that it serves.
abbrev pub ItemsArePieces : Type 0
ItemsArePieces = (exe : Exe) (edges : List Edge) (key : BlockKey) (b : Block)
    → IsKeyOf exe edges key → SameKind b.exit (choice_of exe key).block.exit
    → items_of exe key ≡ fragment_items exe edges (coding_of (choice_of exe key)) (pieces_of (choice_of exe key) key.exits) key.start

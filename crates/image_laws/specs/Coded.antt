-- The recovered code of an executable and edges, in the simulation's words.
use Rattle.std.specs.Prelude.{ℕ, ◌+◌, false, List}
use Rattle.elf_read.specs.declared.exe.Exe.{Exe}
use Rattle.elf_read.specs.Regions.{region_of}
use Rattle.ia_encode.specs.declared.item.Dest.{Dest}
use Rattle.ia_encode.specs.declared.item.Item.{Item}
use Rattle.ia_encode.specs.Items.{size_of_items}
use Rattle.run_model.specs.Edges.{Edge}
use Rattle.block_cut.specs.CountedEdges.{counting}
use Rattle.flow_graph.specs.Graph.{known_of}
use Rattle.ssa_form.specs.declared.form.BlockKey.{BlockKey}
use Rattle.par_moves.specs.Homes.{home_of, register_homes}
use Rattle.fall_stubs.specs.Exchange.{opening_items}
use Rattle.block_make.specs.Choices.{choice_of}
use Rattle.block_make.specs.Keys.{has}
use Rattle.block_make.specs.FragmentItems.{items_of}
use Rattle.code_layout.specs.Keys.{live_of, key_of, keys_of}
use Rattle.code_layout.specs.Linked.{entry_items, first_at, address_in, goes_out, fragments_of, has_key, code_of}
use Rattle.code_layout.specs.Image.{code_segment}
use Rattle.sim_runs.specs.Coding.{Coding}
use Rattle.sim_runs.specs.Recovered.{Coded}
use Rattle.piece_laws.specs.Choices.{coding_of}

-- the key of a start, and the items of its fragment
abbrev pub key_at : Exe → List Edge → ℕ → BlockKey
key_at exe edges x = key_of (live_of exe edges) (record { start = x; known = known_of exe (counting exe edges) x })

abbrev pub start_items : Exe → List Edge → ℕ → List Item
start_items exe edges x = items_of exe (key_at exe edges x)

-- the items at the entry
abbrev pub entry_of : Exe → List Edge → List Item
entry_of exe edges = entry_items exe.entry (has_key (keys_of exe edges) exe.entry)

-- where the fragment of a start stands
abbrev pub address_of : Exe → List Edge → ℕ → ℕ
address_of exe edges = address_in (first_at (entry_of exe edges)) (fragments_of exe (keys_of exe edges))

-- where destinations lie: fragments at their addresses, an address of the original where out says
abbrev pub goes_with : (ℕ → ℕ) → Exe → List Edge → Dest → ℕ
goes_with out exe edges = goes_out (address_of exe edges) out

-- the recovered code; the own bytes of a native instruction stand behind the way into it, no other instruction is
-- copied, and an exit that is not known leads to the original
abbrev pub coded_of : Exe → List Edge → Coded
coded_of exe edges = record {
  code = region_of (code_segment (code_of exe edges));
  home = home_of;
  live = λ x v. has (live_of exe edges x) v;
  address = address_of exe edges;
  native = λ x. address_of exe edges x + size_of_items (opening_items register_homes 0);
  cold = λ x. false;
  copied = λ x. 0;
  original = λ x k. x;
  copy = λ x k. 0;
  beyond = λ x y. y;
}

-- what was chosen of the block of a start, as a coding
abbrev pub coding_at : Exe → List Edge → ℕ → Coding
coding_at exe edges x = coding_of (choice_of exe (key_at exe edges x))

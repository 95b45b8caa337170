-- Rows of blocks that need no cut.
use Rattle.std.proofs.Common.{◌≡◌, ℕ, ◌<◌, List, [], length, get_or, sym, ap, ◌∙◌, arith}
use Rattle.std.proofs.lemmas.List.{get_or-map, length-map}
use Rattle.elf_read.specs.declared.exe.Exe.{Exe}
use Rattle.block_cut.specs.declared.ends.Cut.{Cut}
use Rattle.block_cut.specs.Blocks.{block_of, cut_of}
use Rattle.run_model.specs.Edges.{Edge}
use Rattle.flow_graph.specs.declared.block_rows.BlockRow.{BlockRow}
use Rattle.flow_graph.specs.Graph.{cut_in, AreCutsOf}
use Rattle.flow_graph.specs.BlockRows.{node_of, nodes_of, row_starts, view_of, IsCutOf, AreKnown, IsKept}

-- the row of a start has its cut
pub known_at : (exe : Exe) (rows : List BlockRow) (i start : ℕ) (d : BlockRow) → AreKnown exe rows → i < length rows → get_or (row_starts rows) i 0 ≡ start → (get_or rows i d).cut ≡ cut_of start (block_of exe start)
known_at exe rows i start d h l at =
    let s : (get_or rows i d).start ≡ start = sym (get_or-map (λ (r : BlockRow). r.start) rows i d 0 l) ∙ at in
    h.cuts i d l ∙ ap (λ (s : ℕ). cut_of s (block_of exe s)) s

pub none_known : (exe : Exe) (rows : List BlockRow) → rows ≡ [] → AreKnown exe rows
none_known exe rows e =
    let n = ap length e in
    record { ascend = λ k l. absurd (omega (arith, n, l, length-map rows (λ (r : BlockRow). r.start))); cuts = λ k d l. absurd (omega (arith, n, l)) }

-- the rows of a graph of this executable
module _ (exe : Exe) (edges : List Edge) (targets : List ℕ) (rows : List BlockRow) (whole : AreCutsOf exe (view_of edges targets rows)) where
  cut_is : (k : ℕ) (d : BlockRow) → k < length rows → IsCutOf exe (get_or rows k d)
  cut_is k d l =
      let many = length-map rows (node_of targets) in
      sym (get_or-map (λ (r : BlockRow). r.cut) rows k d d.cut l)
      ∙ ap (λ (cs : List Cut). get_or cs k d.cut) whole
      ∙ get_or-map (cut_in exe) (nodes_of targets rows) k (node_of targets d) d.cut (omega (arith, many, l))
      ∙ ap (cut_in exe) (get_or-map (node_of targets) rows k d (node_of targets d) l)

  pub rows_known : IsKept edges targets rows → AreKnown exe rows
  rows_known h = record { ascend = h.rows.ascend; cuts = cut_is }

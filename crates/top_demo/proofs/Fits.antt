-- The demonstration, its trace and the file that is written for it pass no limit.
use Rattle.std.proofs.Common.{◌≡◌, ◌<◌, ◌≤◌, ◌+◌, ◌*◌, ℕ, [], ◌∷◌, length, All, Ok, sym, ◌∙◌, ap, subst, arith}
use Rattle.std.proofs.lemmas.List.Elements.{All-weaker}
use Rattle.elf_read.specs.declared.exe.Exe.{Exe}
use Rattle.elf_read.specs.declared.exe.Reach.TheVariants.{Original}
use Rattle.elf_read.specs.Elf.{elf}
use Rattle.run_model.specs.Opening.{exe_or_none}
use Rattle.trace_file.specs.Edges.{in_order, IsEdges, SetsHold}
use Rattle.trace_file.specs.declared.limits.TheConstants.{FILE_EDGE_LIMIT}
use Rattle.flow_graph.specs.declared.error.TheConstants.{MAX_BLOCKS}
use Rattle.flow_graph.specs.Graph.{Node}
use Rattle.flow_graph.specs.GraphOf.{graph_of}
use Rattle.code_layout.specs.declared.place.TheConstants.{MAX_CODE}
use Rattle.code_layout.specs.Linked.{code_of}
use Rattle.code_layout.specs.Image.{image}
use Rattle.build_core.specs.ImageLaw.{ImageLaw}
use Rattle.demo_gen.specs.Demonstration.{demo_file}
use Rattle.demo_laws.specs.Accepted.{demo_of, demo_segment, DemoAccepted}
use Rattle.demo_laws.specs.Runs.{demo_edges, DemoRuns}
use Rattle.demo_laws.specs.Graph.{demo_nodes, IsSmall, DemoGraph}
use Rattle.demo_laws.proofs.Lengths.{file_length}
use Rattle.code_layout.specs.CodeShort.{IsWithin, CodeShort}
use Rattle.image_laws.specs.Quick.{KnowAtMost}
use Rattle.top_demo.specs.DemoRuns.{trace_by}
use Rattle.top_demo.specs.DemoPlan.{demo_guest}
use Rattle.top_demo.specs.DemoFits.{IsWithinLimits}
use Rattle.top_demo.proofs.FewEdges.{trace_is_set}
use Rattle.top_demo.proofs.ImageLength.{image_most}

-- the laws that are used
pub record Parts : Type 0 where
  pub accepted : DemoAccepted
  pub runs : DemoRuns
  pub graphs : DemoGraph
  pub sets : SetsHold
  pub code : CodeShort
  pub image : ImageLaw

module _ (parts : Parts) (count n : ℕ) (some : 1 ≤ count) (few : count ≤ 1000) (enough : 10 + 5 * count ≤ n) (less : n < FILE_EDGE_LIMIT) where
  guest_is : demo_guest count ≡ demo_of count
  guest_is = ap exe_or_none (parts.accepted count some few).guest

  trace_is : trace_by (demo_guest count) n ≡ in_order (demo_edges count)
  unfolding trace_by
  trace_is =
      let r = parts.runs count some few in
      let le : r.steps ≤ n = omega (arith, r.few, enough) in
      ap in_order (r.edges n le)

  graph_is : graph_of (demo_guest count) (trace_by (demo_guest count) n) ≡ demo_nodes count
  graph_is = ap (λ x. graph_of x (trace_by (demo_guest count) n)) guest_is ∙ ap (graph_of (demo_of count)) trace_is ∙ (parts.graphs count some few).graph

  pub original : elf Original (demo_file count) ≡ Ok (demo_guest count)
  original = (parts.accepted count some few).original ∙ ap Ok (sym guest_is)

  pub is_set : IsEdges (trace_by (demo_guest count) n)
  is_set = trace_is_set parts.sets (demo_guest count) n less

  pub blocks : length (graph_of (demo_guest count) (trace_by (demo_guest count) n)) ≤ MAX_BLOCKS
  blocks = omega (arith, ap length graph_is, (parts.graphs count some few).number, few)

  -- each block has few instructions, and one way on that is known
  within : All (IsWithin (demo_guest count) 5 1) (graph_of (demo_guest count) (trace_by (demo_guest count) n))
  within =
      let small : All (IsWithin (demo_of count) 5 1) (demo_nodes count) = All-weaker (IsSmall (demo_of count)) (IsWithin (demo_of count) 5 1) (λ b h. record { short = h.instructions; few = h.exits }) (demo_nodes count) (parts.graphs count some few).each in
      subst (All (IsWithin (demo_guest count) 5 1)) (sym graph_is) (subst (λ x. All (IsWithin x 5 1) (demo_nodes count)) (sym guest_is) small)

  pub known : KnowAtMost 1 (graph_of (demo_guest count) (trace_by (demo_guest count) n))
  known = All-weaker (IsWithin (demo_guest count) 5 1) (λ (b : Node). length b.known ≤ 1) (λ b h. h.few) (graph_of (demo_guest count) (trace_by (demo_guest count) n)) within

  short : length (code_of (demo_guest count) (trace_by (demo_guest count) n)) ≤ 54973500
  short =
      let most = parts.code (demo_guest count) (trace_by (demo_guest count) n) 5 1 within in
      omega (arith, most, ap length graph_is, (parts.graphs count some few).number, few)

  pub code : length (code_of (demo_guest count) (trace_by (demo_guest count) n)) ≤ MAX_CODE
  code = omega (arith, short)

  file_short : length (demo_file count) ≤ 16121
  file_short = omega (arith, file_length count, few)

  pub fits : IsWithinLimits count n
  fits = record {
    short = omega (arith, file_short);
    original = original;
    blocks = blocks;
    code = code;
    image =
        let one : (demo_guest count).segments ≡ demo_segment count ∷ [] = ap (λ (x : Exe). x.segments) guest_is in
        let most = image_most (demo_guest count) (code_of (demo_guest count) (trace_by (demo_guest count) n)) (demo_segment count) one in
        omega (arith, most, short, file_short);
    guest = (parts.image (demo_file count) (demo_guest count) (trace_by (demo_guest count) n) original is_set blocks code).1.accepted;
  }

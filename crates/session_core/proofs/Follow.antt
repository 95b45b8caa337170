-- A graph whose edges changed is the graph of the edges that are there now.
use Rattle.std.proofs.Common.{◌≡◌, ◌+◌, ◌≤◌, List, length, ap, subst, ◌∙◌, arith}
use Rattle.elf_read.specs.declared.exe.Exe.{Exe}
use Rattle.elf_read.specs.Elf.{IsGuest}
use Rattle.trace_file.specs.declared.limits.TheConstants.{EDGE_LIMIT}
use Rattle.trace_file.specs.Edges.{Edge, without, IsEdges, SetsHold}
use Rattle.trace_file.proofs.Without.{ascends_without}
use Rattle.block_cut.specs.CountedEdges.{counts, counting}
use Rattle.flow_graph.specs.Graph.{GraphView, IsGraph, AreCutsOf, HasTooMany, applied}
use Rattle.flow_graph.specs.GraphOf.{graph_of, OneGraph}
use Rattle.flow_graph.proofs.Applied.{same_counting}
use Rattle.code_layout.specs.Image.{HasTooManyBlocks}
use Rattle.session_core.specs.Kept.{IsGraphOf}
use Rattle.session_core.proofs.Changes.{changed, room}

module _ (holds : SetsHold) (exe : Exe) (now last added gone : List Edge) (old : GraphView) (of_last : IsGraphOf exe last old) (now_set : IsEdges now) (last_set : IsEdges last)
    (added_is : added ≡ without last now) (gone_is : gone ≡ without now last) where
  with_these : {X : Type 0} (f : List Edge → List Edge → List Edge → X) → f added gone old.edges ≡ f (without last now) (without now last) (counting exe last)
  with_these f = ap (λ a. f a gone old.edges) added_is ∙ ap (λ g. f (without last now) g old.edges) gone_is ∙ ap (f (without last now) (without now last)) of_last.edges

  pub fits : length added + length (without gone old.edges) ≤ EDGE_LIMIT
  fits =
      let e : length added + length (without gone old.edges) ≡ length (without last now) + length (without (without now last) (counting exe last)) =
      with_these (λ a g es. length a + length (without g es)) in
      let r : length (without last now) + length (without (without now last) (counting exe last)) ≤ length now = room now last now_set.order last_set.order (counts exe) in
      let n : length now ≤ EDGE_LIMIT = now_set.count in
      omega (arith, e, r, n)

  counted : counting exe (applied added gone old.edges) ≡ counting exe now
  counted =
      with_these (λ a g es. counting exe (applied a g es))
      ∙ same_counting holds (counts exe) (without last now) (without now last) last (ascends_without last now now_set.order) last_set.order
      ∙ ap (counting exe) (changed now last now_set.order last_set.order)

  pub is_new : (new : GraphView) → new.edges ≡ counting exe (applied added gone old.edges) → IsGraph exe new.edges new.nodes → AreCutsOf exe new → IsGraphOf exe now new
  is_new new edges graph cuts = record { edges = edges ∙ counted; graph = graph; cuts = cuts }

  pub too_many : OneGraph → IsGuest exe → HasTooMany exe (counting exe (applied added gone old.edges)) → HasTooManyBlocks exe now
  too_many one guest h = (one.many exe now guest).0 (subst (HasTooMany exe) counted h)

-- the blocks of a graph of edges
pub nodes_are : (one : OneGraph) (exe : Exe) (edges : List Edge) (g : GraphView) → IsGuest exe → IsGraphOf exe edges g → g.nodes ≡ graph_of exe edges
nodes_are one exe edges g guest h = one.only exe edges g.nodes guest (subst (λ es. IsGraph exe es g.nodes) h.edges h.graph)

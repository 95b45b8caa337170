-- What `show` answers means what it is to mean.
use Rattle.std.proofs.Common.{◌≡◌, ℕ, List, [], ◌∷◌, ◌++◌, length, Result, Ok, Err, sym, ◌∙◌, ap, inl, inr}
use Rattle.flow_graph.specs.declared.error.TheConstants.{MAX_BLOCKS}
use Rattle.std.specs.Option.{option_map}
use Rattle.std.proofs.lemmas.List.{append-nil}
use Rattle.br_outside.specs.Files.{Files}
use Rattle.elf_read.specs.declared.exe.Exe.{Exe}
use Rattle.trace_file.specs.Edges.{union_of}
use Rattle.flow_graph.specs.Graph.{Node}
use Rattle.flow_graph.specs.GraphOf.{graph_of}
use Rattle.top_plan.specs.World.{World}
use Rattle.top_plan.specs.Plan.{Ends}
use Rattle.top_plan.specs.Parts.{checked, prints}
use Rattle.top_plan.specs.Happened.{Happened}
use Rattle.top_plan.specs.Expected.{expected, NoInput, IsExact}
use Rattle.top_graph.specs.ShowPlan.{listing, limited_graph, shown_line, listing_part, show_plan}
use Rattle.top_plan.specs.Outcomes.{done_with}
use Rattle.top_graph.specs.ShowMeaning.{HasPrinted, ShowsGraph, ShowsSets, MeansShow}
use Rattle.top_plan.specs.declared.ends.Halt.TheVariants.{Because}
use Rattle.top_plan.specs.declared.ends.Cause.{Cause}
use Rattle.top_plan.specs.declared.ends.Cause.TheVariants.{Limited}
use Rattle.top_plan.specs.declared.ends.Limit.TheVariants as limits
use Rattle.top_files.proofs.PartTurns.{untaken}
use Rattle.top_graph.proofs.Quiet.{show_quiet}
use Rattle.top_files.proofs.ReadMeant.{IsQuiet, Did, chosen, says, reading_means}

has_printed : (text : List ℕ) (blocks : ℕ) (files : Files) (s : World) (result : ℕ) (t : World) → IsQuiet files s t → Did (prints text (Ends (Ok (done_with (shown_line blocks))))) files s result t → HasPrinted text (shown_line blocks) s result t
unfolding expected
has_printed [] blocks files s result t h w = record {
  status = w.status;
  out = w.out;
  report = w.report;
  shelf = w.shelf h.told ∙ sym h.told;
  input = h.input;
}
has_printed (b ∷ bs) blocks files s result t h w = record {
  status = w.status;
  out = w.out ∙ ap (λ text. option_map (λ written. written ++ text) s.out.bytes) (append-nil (b ∷ bs));
  report = w.report;
  shelf = w.shelf h.told ∙ sym h.told;
  input = h.input;
}

graph_means : (exe : Exe) (g : List Node) (files : Files) (s : World) (result : ℕ) (t : World) → IsQuiet files s t → Did (checked (limited_graph g) (listing_part exe)) files s result t → ShowsGraph exe g s result t
unfolding expected
graph_means exe g files s result t h w =
    let P : Result (List Node) Cause → Type 0 = λ r. Did (checked r (listing_part exe)) files s result t in
    let by = chosen P (length g) MAX_BLOCKS (Ok g) (Err (Limited (limits.Blocks MAX_BLOCKS))) w in
    (λ few. has_printed (listing exe g) (length g) files s result t h (by.0 few), λ many. says (Because (Limited (limits.Blocks MAX_BLOCKS))) files s result t h (by.1 many))

pub means_show : (original : List ℕ) (names : List (List ℕ)) (s : World) (result : ℕ) (t : World) → Happened (show_plan original names) s result t → IsExact (show_plan original names) s result t
    → MeansShow original names s result t
means_show original names s result t happened exact =
    let quiet : NoInput (show_plan original names) = show_quiet original names in
    let same : t.input ≡ s.input = untaken (show_plan original names) s result t quiet happened in
    record {
      told = λ files told.
          let h : IsQuiet files s t = record { told = told; input = ap (λ v. v.bytes) same } in
          reading_means original names 1 (λ subject traces. checked (limited_graph (graph_of subject.exe (union_of traces))) (listing_part subject.exe))
          (ShowsSets s result t) files s result t h
          (λ subject traces w. graph_means subject.exe (graph_of subject.exe (union_of traces)) files s result t h w) (exact files [] (record { shelf = inr told; input = inl quiet }));
      input = same;
    }

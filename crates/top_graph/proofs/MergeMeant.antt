-- What `merge` answers means what it is to mean.
use Rattle.std.proofs.Common.{◌≡◌, ℕ, List, [], length, Result, Ok, Err, ap, inl, inr}
use Rattle.br_outside.specs.Files.{Files}
use Rattle.trace_file.specs.Edges.{Edge, union_of}
use Rattle.trace_file.specs.Trace.{trace_bytes}
use Rattle.top_plan.specs.World.{World}
use Rattle.top_plan.specs.Parts.{checked}
use Rattle.top_plan.specs.Happened.{Happened}
use Rattle.top_plan.specs.Expected.{expected, NoInput, IsExact}
use Rattle.top_graph.specs.MergePlan.{merged_line, store_part, union_part, merge_plan}
use Rattle.top_graph.specs.MergeMeaning.{MergesUnion, MergesSets, MeansMerge}
use Rattle.top_plan.specs.declared.ends.Halt.TheVariants.{Because}
use Rattle.top_plan.specs.declared.ends.Cause.{Cause}
use Rattle.top_plan.specs.declared.ends.Cause.TheVariants.{Limited}
use Rattle.top_plan.specs.declared.ends.Limit.TheVariants as limits
use Rattle.top_files.proofs.PartTurns.{untaken}
use Rattle.top_graph.proofs.Quiet.{merge_quiet}
use Rattle.top_files.proofs.ReadMeant.{IsQuiet, Did, chosen, says, has_stored, reading_means}

union_means : (target digest : List ℕ) (es : List Edge) (files : Files) (s : World) (result : ℕ) (t : World) → IsQuiet files s t → Did (union_part target digest es) files s result t → MergesUnion target digest es files s result t
unfolding expected
union_means target digest es files s result t h w =
    let P : Result (List Edge) Cause → Type 0 = λ r. Did (checked r (store_part target digest)) files s result t in
    let by = chosen P (length es) 2000000 (Ok es) (Err (Limited (limits.Union 2000000))) w in
    (λ few. has_stored target (trace_bytes es digest) (merged_line (length es)) files s result t h (by.0 few), λ many. says (Because (Limited (limits.Union 2000000))) files s result t h (by.1 many))

pub means_merge : (target original : List ℕ) (names : List (List ℕ)) (s : World) (result : ℕ) (t : World) → Happened (merge_plan target original names) s result t → IsExact (merge_plan target original names) s result t
    → MeansMerge target original names s result t
means_merge target original names s result t happened exact =
    let quiet : NoInput (merge_plan target original names) = merge_quiet target original names in
    let same : t.input ≡ s.input = untaken (merge_plan target original names) s result t quiet happened in
    record {
      told = λ files told.
          let h : IsQuiet files s t = record { told = told; input = ap (λ v. v.bytes) same } in
          reading_means original names 2 (λ subject traces. union_part target subject.digest (union_of traces)) (MergesSets target files s result t) files s result t h
          (λ subject traces w. union_means target subject.digest (union_of traces) files s result t h w) (exact files [] (record { shelf = inr told; input = inl quiet }));
      input = same;
    }

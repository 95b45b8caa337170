use Rattle.std.proofs.Common.{ℕ, List, map, string_bytes}
use Rattle.elf_read.specs.declared.exe.Exe.{Exe}
use Rattle.trace_file.specs.Edges.{Edge, union_of}
use Rattle.top_plan.specs.Plan.{Plan}
use Rattle.top_plan.proofs.Passes.{memory_ends}
use Rattle.top_plan.proofs.Outcomes.{ends_on}
use Rattle.top_files.specs.TracesPart.{traces_part}
use Rattle.top_files.specs.declared.original.Subject.{Subject}
use Rattle.top_build.specs.BuildPlan.{image_part, built_end}
use Rattle.top_build.proofs.build.build_command.Goals as goal

-- what comes behind the traces, and behind the original
abbrev image_behind : List ℕ → Exe → List (List Edge) → Plan
image_behind name exe sets = image_part name exe (union_of sets) built_end

abbrev behind : List ℕ → List (List ℕ) → Subject → Plan
behind name traces subject = traces_part subject.digest traces 3 0 (image_behind name subject.exe)

pub returns-in_err-edges : goal.returns-in_err-edges
returns-in_err-edges g c w = ends_on _ _ _ _ c.from_residual-in_err-edges.result
    (c.in_ok-subject.ensures.goes w (behind c.args.name.now (map string_bytes c.args.traces.now)) _ _
    (c.in_ok-sets.ensures.goes w (image_behind c.args.name.now c.in_ok-subject.subject.exe) _ _
    (memory_ends (image_behind c.args.name.now c.in_ok-subject.subject.exe c.in_ok-sets.sets.items) _ _ _ c.in_err-edges.ensures))) c.from_residual-in_err-edges.ensures.1

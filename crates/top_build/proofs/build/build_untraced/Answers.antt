use Rattle.std.proofs.Common.{ℕ, List, [], subst}
use Rattle.elf_read.specs.declared.exe.Exe.{Exe}
use Rattle.trace_file.specs.Edges.{Edge}
use Rattle.top_plan.specs.World.{on_shelf}
use Rattle.top_plan.specs.Plan.{Plan, Went}
use Rattle.top_plan.specs.Texts.{end_of}
use Rattle.top_plan.proofs.Outcomes.{ends_on}
use Rattle.top_files.specs.TracesPart.{traces_part}
use Rattle.top_files.proofs.ReadCourse.{without_digest}
use Rattle.top_build.specs.BuildPlan.{image_part, built_end, build_plan}
use Rattle.top_build.proofs.build.build_untraced.Goals as goal

-- what comes behind the original
abbrev behind : List ℕ → Exe → Plan
behind name exe = image_part name exe [] built_end

pub returns-in_err-exe : goal.returns-in_err-exe
unfolding traces_part
returns-in_err-exe g c w = ends_on (build_plan c.args.name.now c.args.original.now []) _ _ _ c.from_residual.result
    (without_digest c.args.original.now 2 (behind c.args.name.now) _ _ _ (c.in_err-exe.ensures.goes w (behind c.args.name.now))) c.from_residual.ensures.1

pub returns : goal.returns
unfolding traces_part
returns g c w =
    let P : List Edge → Type 0 = λ es. Went (image_part c.args.name.now c.in_ok-exe.exe es built_end) (on_shelf w (g.F.Shelf.seen c.fetch_original.new.shelf)) (end_of c.store_image-2.result) (on_shelf w (g.F.Shelf.seen c.store_image-2.new.shelf)) in
    without_digest c.args.original.now 2 (behind c.args.name.now) _ _ _
    (c.in_ok-exe.ensures.goes w (behind c.args.name.now) _ _ (subst P c.new.ensures (c.store_image-2.ensures w)))

use Rattle.std.proofs.Common.{Ok, string_bytes}
use Rattle.top_plan.specs.Plan.{Ends}
use Rattle.code_layout.specs.Image.{built_of}
use Rattle.top_build.specs.BuildPlan.{limited_built, image_part, built_end}
use Rattle.top_plan.specs.Outcomes.{done_with}
use Rattle.top_plan.specs.Plan.{Stores}
use Rattle.top_plan.proofs.Passes.{ended, memory_ends, refuses_or_runs_out}
use Rattle.top_plan.proofs.Outcomes.{ends_on}
use Rattle.top_build.proofs.ImageStored.{stored_image}
use Rattle.top_build.proofs.build.store_image.Goals as goal

pub returns-in_err-built : goal.returns-in_err-built
returns-in_err-built g c w = ends_on (image_part c.args.name.now c.args.exe.now c.args.edges.now built_end) _ _ _ c.from_residual.result
    (refuses_or_runs_out (limited_built (built_of c.args.exe.now c.args.edges.now)) _ (λ b. Stores c.args.name.now b.bytes (built_end b)) _ c.in_err-built.ensures) c.from_residual.ensures.1

pub returns-in_err-line : goal.returns-in_err-line
returns-in_err-line g c w = ends_on _ _ _ _ c.from_residual-in_err-line.result (memory_ends (image_part c.args.name.now c.args.exe.now c.args.edges.now built_end) _ _ _ c.in_err-line.ensures) c.from_residual-in_err-line.ensures.1

pub returns-in_err-store_file : goal.returns-in_err-store_file
returns-in_err-store_file g c w = ends_on (image_part c.args.name.now c.args.exe.now c.args.edges.now built_end) _ _ _ c.from_residual-in_err-store_file.result
    (stored_image _ _ _ (limited_built (built_of c.args.exe.now c.args.edges.now)) c.in_ok-built.built _ _ _ c.in_ok-built.ensures c.as_slice.ensures c.in_ok-line.ensures
    (c.in_err-store_file.ensures w (λ _. Ends (Ok (done_with (string_bytes c.in_ok-line.line))))))
    c.from_residual-in_err-store_file.ensures.1

pub returns : goal.returns
returns g c w = stored_image _ _ _ (limited_built (built_of c.args.exe.now c.args.edges.now)) c.in_ok-built.built _ _ _ c.in_ok-built.ensures c.as_slice.ensures c.in_ok-line.ensures
    (c.in_ok-store_file.ensures w (λ _. Ends (Ok (done_with (string_bytes c.in_ok-line.line)))) _ _ (ended _ _))

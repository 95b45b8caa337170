use Rattle.std.proofs.Common.{Some, refl, ◌∙◌, ap}
use Rattle.top_demo.proofs.CalmRuns.{has_traced, has_edges, never_full}
use Rattle.top_demo.proofs.runs.follow.Goals as goal

pub returns-in-Ok-clause-shown : goal.returns-in-Ok-clause-shown
returns-in-Ok-clause-shown c =
    has_traced c.args.exe.now c.args.budget _ c.in-Ok.traced _ _ (record { out = c.trace.new.out; steps = c.in-Ok.traced.steps })
    (c.new-input.ensures ∙ c.new.ensures.items) (ap Some c.new-out.ensures) refl refl c.in-Ok.ensures.told

pub returns-in-Ok-clause-edges : goal.returns-in-Ok-clause-edges
returns-in-Ok-clause-edges c = has_edges c.args.exe.now c.args.budget _ c.in-Ok.traced _ _ (c.new-input.ensures ∙ c.new.ensures.items) c.in-Ok.ensures.told

pub unreachable-requires : goal.unreachable-requires
unreachable-requires c = never_full c.args.exe.now c.args.budget _ _ _ c.requires.few (rw c.in-Err-Union.field-0-is at c.in-Err-Union.ensures.told)

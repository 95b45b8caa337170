use Rattle.std.proofs.Common.{◌≡◌, ◌∙◌, ap}
use Rattle.std.specs.Prelude.{◌&&◌, ◌||◌}
use Rattle.pass_dead.specs.Names.{has}
use Rattle.stub_sink.proofs.Sets.{has_or, has_none}
use Rattle.live_flow.proofs.Growth.{needed_then, needed_else}
use Rattle.live_flow.proofs.sets.needed.Goals as goal
use Rattle.live_flow.proofs.sets.needed.Goals.{then-row, else-row}

pub returns : goal.returns
returns c = λ v.
    let r = c.args.row.now in
    has_or r.uses c.if-row.out v ∙ ap (λ b. has r.uses v || b) (elim c.if-row.branch as (λ _. has c.if-row.out v ≡ (has r.passes v && r.fallback)) [
      | then-row w ↦ ap (λ t. has t v) w.out-is ∙ needed_then (has r.passes v) r.fallback w.if-row.true
      | else-row w ↦ ap (λ t. has t v) w.out-is ∙ has_none v ∙ needed_else (has r.passes v) r.fallback w.if-row.false
    ])

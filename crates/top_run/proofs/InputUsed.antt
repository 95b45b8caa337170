-- A turn of a guest uses, of what it asks of the input, all that is there.
use Rattle.std.proofs.Common.{◌≡◌, ℕ, List}
use Rattle.br_word.specs.State.{Running}
use Rattle.ia_inst.specs.Step.{step}
use Rattle.guest_sys.specs.Machine.{fed}
use Rattle.guest_run.specs.Guest.{GuestView}
use Rattle.guest_run.specs.InputUse.{UsesInput, StepsUseInput}
use Rattle.top_run.specs.RunPlan.{next_turn}
use Rattle.top_plan.specs.Partial.{Uses}

pub guest_uses : StepsUseInput → (g : GuestView) (left : List ℕ) → g.state.stop ≡ Running → Uses (next_turn g left) left
guest_uses law g left running =
    let s = fed left g.state in
    let u : UsesInput s (step s 0) = law s 0 running in
    record { used = u.used; rest = u.rest; most = u.most }

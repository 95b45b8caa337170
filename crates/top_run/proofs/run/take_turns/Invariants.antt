use Rattle.std.proofs.Common.{◌≡◌, ◌+◌, ◌-◌, true}
use Rattle.br_outside.specs.Outside.{ShelfView}
use Rattle.top_plan.specs.World.{World, world}
use Rattle.top_plan.specs.Texts.{WorkEnd}
use Rattle.top_plan.specs.Plan.{Went}
use Rattle.top_run.specs.RunPlan.{guest_plan}
use Rattle.top_run.proofs.run.take_turns.Given as goal

abbrev pub invariant-loop-turn : goal.invariant-loop-turn
invariant-loop-turn g l = record {
  live : l.guest.live ≡ true;
  steps : l.guest.steps ≡ l.fn.guest.steps + l.turn;
  goes : (v : ShelfView) (o : WorkEnd) (u : World) → Went (guest_plan (l.budget - l.turn) l.guest) (world v (g.I.Source.seen l.input) (g.O.Sink.seen l.out) (g.R.Sink.seen l.report)) o u
      → Went (guest_plan l.budget l.fn.guest) (world v (g.I.Source.seen l.fn.input) (g.O.Sink.seen l.fn.out) (g.R.Sink.seen l.fn.report)) o u;
}

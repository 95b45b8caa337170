-- A line that is asked for, as a part of a plan.
use Rattle.std.proofs.Common.{◌≡◌, ℕ, [], Ok, Err, refl, subst, inr, arith}
use Rattle.br_outside.specs.Outside.{StreamView}
use Rattle.br_outside.specs.Streams.{Steady, Gains}
use Rattle.line_reader.specs.Lines.{Next, used_in}
use Rattle.line_reader.specs.Reads.{AsksLine}
use Rattle.line_reader.specs.declared.line.LineError.TheVariants as errors
use Rattle.top_plan.specs.World.{World, on_input}
use Rattle.top_plan.specs.Plan.{Plan, Went, IsTurned, GoesOn, FailsInput, WantsMemory}
use Rattle.top_plan.specs.Texts.{WorkEnd}
use Rattle.top_plan.specs.declared.ends.Halt.TheVariants.{Outside, Memory}
use Rattle.top_plan.specs.declared.ends.Object.TheVariants as objects
use Rattle.top_plan.proofs.Kept.{nothing}
use Rattle.top_session.specs.Lines.{line_turn, line_part}

steady_same : (v : StreamView) → Steady v v
steady_same v = record { calm = refl; same = refl }

-- a stream that is not touched
gains_none : (v : StreamView) → Gains [] v v
gains_none v = record { bytes = nothing v.bytes; steady = steady_same v; idle = λ h. refl }

-- the line is there, and the work goes on by it
pub asked : (limit : ℕ) (next : Next) (w : World) (old new : StreamView) → AsksLine limit (Ok next) old new
    → (k : Next → Plan) (o : WorkEnd) (u : World) → Went (k next) (on_input w new) o u → Went (line_part limit k) (on_input w old) o u
unfolding Went
asked limit next w old new h k o u went =
    let P : Next → Type 0 = λ n. Went (k n) (on_input w new) o u in
    let turned : IsTurned (line_turn limit h.left) (on_input w old) (on_input w new) = record {
      shelf = refl;
      more = 0;
      few = omega arith;
      input = h.gives.1;
      idle = λ none. absurd (let z : used_in limit h.left ≡ 0 = none in omega (arith, z));
      out = gains_none w.out;
      report = gains_none w.report;
    } in
    inr (h.left, h.told, GoesOn (on_input w new) turned (subst P h.gives.0 went))

-- the input failed
pub input_failed : (limit : ℕ) (w : World) (old new : StreamView) → AsksLine limit (Err errors.Failed) old new → (k : Next → Plan) → Went (line_part limit k) (on_input w old) (Err (Outside objects.Input)) (on_input w new)
unfolding Went
input_failed limit w old new h k = inr (
  h.left,
  h.told,
  FailsInput (record {
    ends = refl;
    taken = h.gives.0;
    few = h.gives.1;
    rest = h.gives.2;
    fails = h.gives.3;
    shelf = refl;
    out = refl;
    report = refl;
  }),
)

-- memory was wanting
pub memory_wanted : (limit : ℕ) (w : World) (old new : StreamView) → AsksLine limit (Err errors.Memory) old new → (k : Next → Plan) → Went (line_part limit k) (on_input w old) (Err Memory) (on_input w new)
unfolding Went
memory_wanted limit w old new h k = inr (
  h.left,
  h.told,
  WantsMemory (record {
    ends = refl;
    taken = h.gives.0;
    few = (let few = h.gives.1 in omega (arith, few));
    input = record { bytes = h.gives.2; steady = h.gives.3 };
    shelf = refl;
    printed = 0;
    out = nothing w.out.bytes;
    out_steady = steady_same w.out;
    reported = 0;
    report = nothing w.report.bytes;
    report_steady = steady_same w.report;
  }),
)

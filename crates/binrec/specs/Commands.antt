-- The commands, each as its plan.
use Rattle.std.specs.Prelude.{ℕ, ◌+◌, List, Result, Ok, Err}
use Rattle.top_plan.specs.Plan.{Plan}
use Rattle.word_reader.specs.Words.{Asked, Builds, Traces, Runs, Merges, Shows, Sessions, Demos, Assembles, command, first_name}
use Rattle.top_build.specs.BuildPlan.{build_plan}
use Rattle.top_run.specs.RunPlan.{run_plan}
use Rattle.top_run.specs.TracePlan.{trace_plan}
use Rattle.top_graph.specs.MergePlan.{merge_plan}
use Rattle.top_graph.specs.ShowPlan.{show_plan}
use Rattle.top_asm.specs.AsmPlan.{asm_plan}
use Rattle.top_demo.specs.DemoPlan.{demo_plan}
use Rattle.top_session.specs.SessionPlan.{session_plan}

-- by the command, and where its first name stands
abbrev pub plan_of : Asked → ℕ → Plan
plan_of (Builds name original traces) word = build_plan name original traces
plan_of (Traces steps target original args) word = trace_plan steps target original args (word + 1)
plan_of (Runs steps name args) word = run_plan steps name args word
plan_of (Merges target original names) word = merge_plan target original names
plan_of (Shows original names) word = show_plan original names
plan_of (Sessions original) word = session_plan original
plan_of (Demos count) word = demo_plan count
plan_of (Assembles name text) word = asm_plan name text

abbrev pub planned : Result Asked ℕ → ℕ → Result Plan ℕ
planned (Ok asked) word = Ok (plan_of asked word)
planned (Err at) word = Err at

-- what the words ask for, or the position of the first wrong word
abbrev pub plan : List (List ℕ) → Result Plan ℕ
plan words = planned (command words) (first_name words)

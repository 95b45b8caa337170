-- A run has at most one edge for each of its steps, and the pair that says that it began.
use Rattle.std.proofs.Common.{◌<◌, ◌≤◌, ◌+◌, ℕ, zero, suc, Bool, true, false, if◌then◌else◌, List, [], ◌∷◌, length, arith, length-append}
use Rattle.br_word.specs.State.{State, RunState, Running, Exited, Faulted}
use Rattle.elf_read.specs.declared.exe.Exe.{Exe}
use Rattle.ia_inst.specs.System.{StepResult, On, Bad}
use Rattle.ia_inst.specs.Step.{Found, NoCode, NoInst, There, found, step_result, step}
use Rattle.run_model.specs.Opening.{arguments, opening}
use Rattle.run_model.specs.Edges.{is_transfer, edge_by, edge_at, edge_of, edges_from}
use Rattle.trace_file.specs.Edges as edges
use Rattle.trace_file.specs.Edges.{Edge, before, merge, with_edge, collected, in_order, IsEdges, SetsHold}
use Rattle.trace_file.specs.declared.limits.TheConstants.{FILE_EDGE_LIMIT}
use Rattle.tracer.specs.TracedRun.{entry_edge}
use Rattle.top_demo.specs.DemoRuns.{trace_by}

by_few : (b : Bool) (w : StepResult) (site : ℕ) → length (edge_by b w site) ≤ 1
by_few true (On t) site = omega arith
by_few true (Bad f) site = omega arith
by_few false w site = omega arith

at_few : (f : Found) (s : State) (c : ℕ) → length (edge_at f s c) ≤ 1
at_few NoCode s c = omega arith
at_few NoInst s c = omega arith
at_few (There i n) s c = by_few (is_transfer i) (step_result s c) s.eip

of_few : (x : RunState) (s : State) (c : ℕ) → length (edge_of x s c) ≤ 1
of_few Running s c = at_few (found s.eip s.regions) s c
of_few (Exited n) s c = omega arith
of_few (Faulted f) s c = omega arith

pub from_few : (n : ℕ) (s : State) → length (edges_from n s) ≤ n
from_few zero s = omega arith
from_few (suc n) s =
    let a = of_few s.stop s 0 in
    let b = from_few n (step s 0) in
    let c = length-append (edge_of s.stop s 0) (edges_from n (step s 0)) in
    omega (arith, a, b, c)

edge_adds : (e : Edge) (es : List Edge) → length (edges.step e (merge []) es) ≤ 1 + length es
edge_adds e [] = omega arith
edge_adds e (b ∷ bs) = go (before e b) (before b e) (edge_adds e bs)
  where
    go : (p q : Bool) → length (edges.step e (merge []) bs) ≤ 1 + length bs → length (if p then (e ∷ b ∷ bs) else (if q then (b ∷ edges.step e (merge []) bs) else (e ∷ bs))) ≤ 1 + length (b ∷ bs)
    go true q h = omega arith
    go false true h = omega (arith, h)
    go false false h = omega arith

collected_few : (xs es : List Edge) → length (collected xs es) ≤ length xs + length es
collected_few [] es = omega arith
collected_few (x ∷ xs) es = omega (arith, edge_adds x es, collected_few xs (with_edge x es))

-- those of the first n steps, from any state
pub edges_few : (exe : Exe) (s : State) (n : ℕ) → length (in_order (entry_edge exe ∷ edges_from n s)) ≤ 1 + n
edges_few exe s n = omega (arith, collected_few (entry_edge exe ∷ edges_from n s) [], from_few n s)

-- they are a set that a trace may have
pub trace_is_set : SetsHold → (exe : Exe) (n : ℕ) → n < FILE_EDGE_LIMIT → IsEdges (trace_by exe n)
unfolding trace_by
trace_is_set sets exe n few =
    let s : State = opening exe (arguments []) [] in
    record { order = (sets.gathered (entry_edge exe ∷ edges_from n s)).order; count = omega (arith, few, edges_few exe s n) }

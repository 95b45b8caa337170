-- What a traced run gives: the steps are those of the guest's run, and the edges are theirs.
use Rattle.std.proofs.Common.{◌≡◌, ℕ, suc, ◌<◌, ◌≤◌, true, false, List, [], ◌∷◌, ◌++◌, length, Option, Some, None, IfSome, Result, Ok, Err, Bool, refl, sym, ◌∙◌, ap, subst, append-nil, inl, inr, arith}
use Rattle.br_word.specs.State.{State, RunState, Running, Exited, Faulted}
use Rattle.ia_inst.specs.Step.{step}
use Rattle.elf_read.specs.declared.exe.Exe.{Exe}
use Rattle.br_outside.specs.Outside.{StreamView}
use Rattle.br_outside.specs.Streams.{Streams, WasGiven, Gains}
use Rattle.guest_sys.specs.Calls.{asks, spare, Passes}
use Rattle.guest_sys.specs.declared.answers.SysError.{SysError}
use Rattle.guest_sys.specs.declared.answers.SysError.TheVariants as sys
use Rattle.run_model.specs.Opening.{opening, arguments}
use Rattle.run_model.specs.Edges.{edges_from}
use Rattle.run_model.specs.Run.{run}
use Rattle.guest_run.specs.Guest.{GuestView, beginning, traps, asks_by, asks_next, ahead, while_running, OneFails, PartGained, RunDone, RunFailsAt}
use Rattle.guest_run.specs.BoundedRun.{edge_list, TakesSteps, StepsTold, StepsCome, BreakTold, BreakComes, StepsHold, RunsHold, BreaksHold}
use Rattle.trace_file.specs.Edges.{Edge, collected}
use Rattle.tracer.specs.declared.answers.Traced.{Traced}
use Rattle.tracer.specs.declared.answers.TracingError.{TracingError}
use Rattle.tracer.specs.declared.answers.TracingError.TheVariants as errors
use Rattle.trace_file.specs.declared.limits.TheConstants.{FILE_EDGE_LIMIT}
use Rattle.tracer.specs.TracedRun.{entry_edge, traced, error_of, AreFew, TraceStands, TracePasses, TraceBreaks, TraceWants, TracedRun, Faults}
use Rattle.tracer.specs.TraceTold.{edges_in, TraceDone, TraceFull, TraceWanted, TraceGives}
use Rattle.tracer.proofs.MoreEdges.{collected_append, collected_one, fewer_edges}

-- the state in which the guest of an executable begins, with its input
abbrev begun : Exe → List (List ℕ) → List ℕ → State
begun exe words left = opening exe (arguments words) left

-- the set with which its trace begins
abbrev entry_set : Exe → List Edge
entry_set exe = entry_edge exe ∷ []

-- ---- bounds

running_le : (x : RunState) (k : ℕ) → while_running x k 0 ≤ k
running_le Running k = omega arith
running_le (Exited n) k = omega arith
running_le (Faulted f) k = omega arith

asks_le : (b : Bool) (s : State) → asks_by b s ≤ asks s
asks_le true s = omega arith
asks_le false s = omega arith

spare_le : (x : RunState) (k : ℕ) → spare x k ≤ k
spare_le Running k = omega arith
spare_le (Exited n) k = omega arith
spare_le (Faulted f) k = omega arith

ahead_le : (s : State) → ahead s ≤ asks s
ahead_le s = omega (arith, spare_le s.stop (asks_next s), asks_le (traps s) s)

few_ahead : (n : ℕ) (s : State) (more : ℕ) → more ≤ while_running s.stop (ahead (run n s [])) 0 → more ≤ ahead (run n s [])
few_ahead n s more few = omega (arith, few, running_le s.stop (ahead (run n s [])))

-- the edges of fewer steps are few
few_before : (n : ℕ) (exe : Exe) (s : State) (edges : List Edge) → edges ≡ edges_from n s → AreFew (collected edges (entry_set exe)) → (k : ℕ) → k ≤ n → AreFew (edges_in exe s k)
few_before n exe s edges is few k le =
    omega (arith, few, ap (λ xs. length (collected xs (entry_set exe))) is, fewer_edges k n s (entry_set exe) le)

-- ---- all steps were taken

told_done : (n : ℕ) (exe : Exe) (s : State) (t : Traced) (g h : GuestView) (edges : List Edge) (a b : Streams) → g.steps ≡ 0 → g.undefined ≡ 0
    → t ≡ traced h (collected edges (entry_set exe)) → AreFew (collected edges (entry_set exe)) → edges ≡ edges_from n s → RunDone t.stop n s g h a b → TraceDone n exe s t a b
told_done n exe s t g h edges a b steps undefined is few same d = record {
  edges = ap (λ (x : Traced). x.edges) is ∙ ap (λ xs. collected xs (entry_set exe)) same;
  within = few_before n exe s edges same few;
  stop = d.answer;
  steps = omega (arith, ap (λ (x : Traced). x.steps) is, d.steps, steps);
  undefined = omega (arith, ap (λ (x : Traced). x.undefined) is, d.undefined, undefined);
  more = d.more;
  few = few_ahead n s d.more d.few;
  streams = d.streams;
}

-- ---- the limit was passed

told_full : (n : ℕ) (exe : Exe) (s : State) (taken : ℕ) (first edges : List Edge) (g k h : GuestView) (a now b : Streams) → taken < n → first ≡ edges_from taken s
    → AreFew (collected first (entry_set exe)) → FILE_EDGE_LIMIT < length (collected edges (entry_set exe)) → StepsTold (suc taken) s edges g h a b → TraceFull n exe s a b
told_full n exe s taken first edges g k h a now b less is few passed d = record {
  taken = suc taken;
  most = omega (arith, less);
  within = λ j l. few_before taken exe s first is few j (omega (arith, l));
  passed = omega (arith, passed, ap (λ xs. length (collected xs (entry_set exe))) d.edges_are);
  more = d.more;
  few = few_ahead (suc taken) s d.more d.few;
  streams = d.streams;
}

-- ---- the next step failed

told_failed : (e : SysError) (n taken : ℕ) (exe : Exe) (s : State) (edges : List Edge) (h : GuestView) (a b : Streams) → taken < n → edges ≡ edges_from taken s
    → AreFew (collected edges (entry_set exe)) → BreakTold e taken s h a b → TraceGives (Err (error_of e)) n exe s a b
told_failed sys.Input n taken exe s edges h a b less is few d = record { done = taken; most = less; within = few_before taken exe s edges is few; running = d.running; streams = d.streams }
told_failed sys.Out n taken exe s edges h a b less is few d = record { done = taken; most = less; within = few_before taken exe s edges is few; running = d.running; streams = d.streams }
told_failed sys.Report n taken exe s edges h a b less is few d = record { done = taken; most = less; within = few_before taken exe s edges is few; running = d.running; streams = d.streams }
told_failed sys.Memory n taken exe s edges h a b less is few d = record { done = taken; most = omega (arith, less); within = few_before taken exe s edges is few; streams = d.streams }

-- ---- memory was wanting

-- a sink that was given these bytes, and none of those of the next step
gained_none : (bytes all : List ℕ) (old new : StreamView) → Gains bytes old new → PartGained bytes all old new
gained_none bytes all old new w =
    let P : List ℕ → Type 0 = λ x. WasGiven x old new in
    record { part = record { more = 0; given = subst P (sym (append-nil bytes)) w.bytes }; steady = w.steady }

wants_at : (u v : State) (more : ℕ) (a b : Streams) → more ≤ ahead u → Passes u more a b → RunFailsAt sys.Memory u v a b
wants_at u v more a b few p = ((more, omega (arith, few, ahead_le u), p.input), gained_none u.out v.out a.out b.out p.out, gained_none u.err v.err a.err b.err p.err)

told_wanted : (n taken : ℕ) (exe : Exe) (s : State) (edges : List Edge) (g h : GuestView) (a b : Streams) → taken ≤ n → AreFew (collected edges (entry_set exe))
    → StepsTold taken s edges g h a b → TraceWanted n exe s a b
told_wanted n taken exe s edges g h a b most few d = record {
  done = taken;
  most = most;
  within = few_before taken exe s edges d.edges_are few;
  streams = wants_at (run taken s []) (step (run taken s []) 0) d.more a b (few_ahead taken s d.more d.few) d.streams;
}

-- ---- each answer

-- what holds for an input that tells, by what holds for each
each_told : (o : Option (List ℕ)) (P Q : List ℕ → Type 0) → ((left : List ℕ) → P left → Q left) → IfSome o P → IfSome o Q
each_told None P Q f p = tt
each_told (Some left) P Q f p = f left p

both_told : (o : Option (List ℕ)) (P Q R : List ℕ → Type 0) → ((left : List ℕ) → P left → Q left → R left) → IfSome o P → IfSome o Q → IfSome o R
both_told None P Q R f p q = tt
both_told (Some left) P Q R f p q = f left p q

-- the faults and, for an input that tells, the rest
abbrev pub Gives : Result Traced TracingError → ℕ → Exe → List (List ℕ) → Streams → Streams → Type 0
Gives r n exe words a b = Faults r a b × IfSome a.input.bytes (λ left. TraceGives r n exe (begun exe words left) a b)

gives_done : RunsHold → (t : Traced) (n : ℕ) (exe : Exe) (words : List (List ℕ)) (a b : Streams) → TraceStands t n (beginning exe words) (entry_set exe) a b → Gives (Ok t) n exe words a b
gives_done law t n exe words a b w =
    let g = beginning exe words in
    let runs = law t.stop n g w.guest a b refl refl w.run in (
      runs.0.ends.streams,
      both_told a.input.bytes (λ left. RunDone t.stop n (begun exe words left) g w.guest a b) (λ left. w.run.edges ≡ edges_from n (begun exe words left)) _
          (λ left d same. told_done n exe (begun exe words left) t g w.guest w.run.edges a b refl refl w.answer w.few same d) runs.0.told runs.1,
    )

gives_full : StepsHold → (n : ℕ) (exe : Exe) (words : List (List ℕ)) (a b : Streams) → TracePasses n (beginning exe words) (entry_set exe) a b → Gives (Err errors.Union) n exe words a b
unfolding TakesSteps
gives_full law n exe words a b w =
    let g = beginning exe words in
    let es = entry_set exe in
    let edges = w.edges ++ edge_list w.guest.edge in
    let before : StepsCome w.taken w.edges g w.last a w.now = law w.taken g w.last w.edges a w.now refl refl w.steps in
    let come : StepsCome (suc w.taken) edges g w.guest a b =
    law (suc w.taken) g w.guest edges a b refl refl (record { first = w.edges; guest = w.last; now = w.now; before = w.steps; step = w.step; whole = refl }) in
    let many : FILE_EDGE_LIMIT < length (collected edges es) = omega (
      arith,
      w.passed,
      ap length (collected_append w.edges (edge_list w.guest.edge) es ∙ collected_one w.guest.edge (collected w.edges es)),
    ) in (
      come.streams,
      both_told a.input.bytes (λ left. StepsTold w.taken (begun exe words left) w.edges g w.last a w.now) (λ left. StepsTold (suc w.taken) (begun exe words left) edges g w.guest a b) _
          (λ left p q. told_full n exe (begun exe words left) w.taken w.edges edges g w.last w.guest a w.now b w.within p.edges_are w.few many q) before.told come.told,
    )

faults_as : (e : SysError) (a b : Streams) → OneFails e a b → Faults (Err (error_of e)) a b
faults_as sys.Input a b w = w
faults_as sys.Out a b w = w
faults_as sys.Report a b w = w
faults_as sys.Memory a b w = w

gives_failed : StepsHold → BreaksHold → (e : SysError) (n : ℕ) (exe : Exe) (words : List (List ℕ)) (a b : Streams) → TraceBreaks e n (beginning exe words) (entry_set exe) a b
    → Gives (Err (error_of e)) n exe words a b
gives_failed law breaks e n exe words a b w =
    let g = beginning exe words in
    let before : StepsCome w.run.taken w.run.edges g w.run.last a w.run.now = law w.run.taken g w.run.last w.run.edges a w.run.now refl refl w.run.steps in
    let come : BreakComes e w.run.taken g w.guest a b = breaks e w.run.taken g w.run.last w.guest w.run.edges a w.run.now b refl refl w.run.steps w.run.failed in (
      faults_as e a b come.streams,
      both_told a.input.bytes (λ left. StepsTold w.run.taken (begun exe words left) w.run.edges g w.run.last a w.run.now) (λ left. BreakTold e w.run.taken (begun exe words left) w.guest a b) _
          (λ left p q. told_failed e n w.run.taken exe (begun exe words left) w.run.edges w.guest a b w.run.within p.edges_are w.few q) before.told come.told,
    )

gives_wanted : StepsHold → (n : ℕ) (exe : Exe) (words : List (List ℕ)) (a b : Streams) → TraceWants n (beginning exe words) (entry_set exe) a b → Gives (Err errors.Memory) n exe words a b
gives_wanted law n exe words a b w =
    let g = beginning exe words in
    let come : StepsCome w.taken w.edges g w.guest a b = law w.taken g w.guest w.edges a b refl refl w.steps in (
      come.streams,
      each_told a.input.bytes (λ left. StepsTold w.taken (begun exe words left) w.edges g w.guest a b) _
          (λ left p. told_wanted n w.taken exe (begun exe words left) w.edges g w.guest a b w.most w.few p) come.told,
    )

pub gives : StepsHold → RunsHold → BreaksHold → (r : Result Traced TracingError) (n : ℕ) (exe : Exe) (words : List (List ℕ)) (a b : Streams)
    → TracedRun r n (beginning exe words) (entry_set exe) a b → Gives r n exe words a b
gives steps runs breaks (Ok t) n exe words a b w = gives_done runs t n exe words a b w
gives steps runs breaks (Err errors.Union) n exe words a b w = gives_full steps n exe words a b w
gives steps runs breaks (Err errors.Input) n exe words a b w = gives_failed steps breaks sys.Input n exe words a b w
gives steps runs breaks (Err errors.Out) n exe words a b w = gives_failed steps breaks sys.Out n exe words a b w
gives steps runs breaks (Err errors.Report) n exe words a b w = gives_failed steps breaks sys.Report n exe words a b w
gives steps runs breaks (Err errors.Memory) n exe words a b (inl w) = gives_failed steps breaks sys.Memory n exe words a b w
gives steps runs breaks (Err errors.Memory) n exe words a b (inr w) = gives_wanted steps n exe words a b w

-- What the top call owes follows from what was answered, and from the laws of the plans.
use Rattle.std.proofs.Common.{◌≡◌, ◌≤◌, ℕ, ◌+◌, List, [], Result, Ok, Err, sym, subst}
use Rattle.top_plan.specs.World.{World}
use Rattle.top_plan.specs.Plan.{Plan}
use Rattle.top_plan.specs.Happened.{Happened, Answered}
use Rattle.top_plan.specs.Expected.{IsExact, IsComplete, HasCause}
use Rattle.top_plan.specs.Partial.{IsPartial, IsOrderly}
use Rattle.top_plan.specs.Steady.{IsSteady}
use Rattle.word_reader.specs.Words.{Asked, Builds, Traces, Runs, Merges, Shows, Sessions, Demos, Assembles, command, first_name}
use Rattle.word_reader.specs.Reads.{asked_of}
use Rattle.word_reader.specs.declared.command.Command.{Command}
use Rattle.top_build.specs.BuildPlan.{build_plan}
use Rattle.top_build.specs.BuildMeaning.{MeansBuild}
use Rattle.top_run.specs.RunPlan.{run_plan}
use Rattle.top_run.specs.RunMeaning.{MeansRun}
use Rattle.top_run.specs.TracePlan.{trace_plan}
use Rattle.top_run.specs.TraceMeaning.{MeansTrace}
use Rattle.top_graph.specs.MergePlan.{merge_plan}
use Rattle.top_graph.specs.MergeMeaning.{MeansMerge}
use Rattle.top_graph.specs.ShowPlan.{show_plan}
use Rattle.top_graph.specs.ShowMeaning.{MeansShow}
use Rattle.top_asm.specs.AsmPlan.{asm_plan}
use Rattle.top_asm.specs.AsmMeaning.{MeansAsm}
use Rattle.top_demo.specs.DemoPlan.{demo_plan}
use Rattle.top_demo.specs.DemoMeaning.{MeansDemo}
use Rattle.top_session.specs.SessionPlan.{session_plan}
use Rattle.top_session.specs.SessionMeaning.{MeansSession}
use Rattle.binrec.specs.Words.{IsFitting}
use Rattle.binrec.specs.Commands.{plan_of, planned, plan}
use Rattle.binrec.specs.Meaning.{MeansUsage}
use Rattle.binrec.proofs.UsageMeant.{NeverOne, means_usage}
use Rattle.binrec.proofs.WordsFit.{fit_read}

-- whatever holds of the plan of the command that was asked for
pub asked_for : (P : Result Plan ℕ → Type 0) (words : List (List ℕ)) (asked : Asked) (word : ℕ) → command words ≡ Ok asked → word ≡ first_name words → P (Ok (plan_of asked word)) → P (plan words)
asked_for P words asked word is at p =
    let Q : Result Asked ℕ → Type 0 = λ r. P (planned r (first_name words)) in
    let R : ℕ → Type 0 = λ w. P (Ok (plan_of asked w)) in
    subst Q (sym is) (subst R at p)

pub not_asked : (P : Result Plan ℕ → Type 0) (words : List (List ℕ)) (at : ℕ) → command words ≡ Err at → P (Err at) → P (plan words)
not_asked P words at is p = let Q : Result Asked ℕ → Type 0 = λ r. P (planned r (first_name words)) in subst Q (sym is) p

-- what holds of the plan of the words holds of that of the command that they ask for
asked_of_words : (P : Result Plan ℕ → Type 0) (words : List (List ℕ)) (asked : Asked) → command words ≡ Ok asked → P (plan words) → P (Ok (plan_of asked (first_name words)))
asked_of_words P words asked is p = let Q : Result Asked ℕ → Type 0 = λ r. P (planned r (first_name words)) in subst Q is p

-- a command is what it was matched as
pub answers_as : (command read : Command) (word : ℕ) (s : World) (result : ℕ) (t : World) → command ≡ read → Happened (plan_of (asked_of read) word) s result t → Happened (plan_of (asked_of command) word) s result t
answers_as command read word s result t is h = let P : Command → Type 0 = λ c. Happened (plan_of (asked_of c) word) s result t in subst P (sym is) h

-- what it is given fits
pub fits_as : (command read : Command) → command ≡ read → IsFitting (asked_of command) → IsFitting (asked_of read)
fits_as command read is h = let P : Command → Type 0 = λ c. IsFitting (asked_of c) in subst P is h

-- ---- the laws

-- the plans of the commands are orderly
pub record AreOrderly : Type 0 where
  pub build : (name original : List ℕ) (traces : List (List ℕ)) → IsOrderly (build_plan name original traces)
  pub run : (steps : ℕ) (name : List ℕ) (args : List (List ℕ)) (word : ℕ) → IsOrderly (run_plan steps name args word)
  pub trace : (steps : ℕ) (target original : List ℕ) (args : List (List ℕ)) (word : ℕ) → IsOrderly (trace_plan steps target original args word)
  pub merge : (target original : List ℕ) (names : List (List ℕ)) → IsOrderly (merge_plan target original names)
  pub show : (original : List ℕ) (names : List (List ℕ)) → IsOrderly (show_plan original names)
  pub demo : (count : ℕ) → IsOrderly (demo_plan count)
  pub session : (original : List ℕ) → IsOrderly (session_plan original)
  pub asm : (name text : List ℕ) → IsOrderly (asm_plan name text)

-- what their answers mean
pub record Meanings : Type 0 where
  pub build : (name original : List ℕ) (traces : List (List ℕ)) (s : World) (result : ℕ) (t : World) → Happened (build_plan name original traces) s result t → MeansBuild name original traces s result t
  pub run : (steps : ℕ) (name : List ℕ) (args : List (List ℕ)) (word : ℕ) (s : World) (result : ℕ) (t : World) → Happened (run_plan steps name args word) s result t → MeansRun steps name args word s result t
  pub trace : (steps : ℕ) (target original : List ℕ) (args : List (List ℕ)) (word : ℕ) (s : World) (result : ℕ) (t : World)
      → Happened (trace_plan steps target original args word) s result t → MeansTrace steps target original args word s result t
  pub merge : (target original : List ℕ) (names : List (List ℕ)) (s : World) (result : ℕ) (t : World) → Happened (merge_plan target original names) s result t → MeansMerge target original names s result t
  pub show : (original : List ℕ) (names : List (List ℕ)) (s : World) (result : ℕ) (t : World) → Happened (show_plan original names) s result t → MeansShow original names s result t
  pub demo : (count : ℕ) (s : World) (result : ℕ) (t : World) → 1 ≤ count → count ≤ 1000 → Happened (demo_plan count) s result t → MeansDemo count s result t
  pub session : (original : List ℕ) (s : World) (result : ℕ) (t : World) → Happened (session_plan original) s result t → MeansSession original s result t
  pub asm : (name text : List ℕ) (s : World) (result : ℕ) (t : World) → Happened (asm_plan name text) s result t → MeansAsm name text s result t

-- what a run of any plan comes to
pub record PlanLaw : Type 0 where
  pub exact : (p : Plan) (s : World) (result : ℕ) (t : World) → IsOrderly p → Happened p s result t → IsExact p s result t
  pub complete : (p : Plan) (s : World) (result : ℕ) (t : World) → IsOrderly p → Happened p s result t → IsComplete p s result t
  pub partial : (p : Plan) (s : World) (result : ℕ) (t : World) → IsOrderly p → Happened p s result t → IsPartial p s t
  pub never_one : NeverOne
  pub cause : (asked : Result Plan ℕ) (s : World) (result : ℕ) (t : World) → Answered asked s result t → HasCause s result t
  pub steady : (asked : Result Plan ℕ) (s : World) (result : ℕ) (t : World) → Answered asked s result t → IsSteady s result t

-- ---- the plan of the words

same_plan : (p q : Plan) → (let r : Result Plan ℕ = Ok p in r) ≡ Ok q → IsOrderly p → IsOrderly q
same_plan p q is h = let e : p ≡ q = cc in subst IsOrderly e h

orderly_of : AreOrderly → (asked : Asked) (word : ℕ) → IsOrderly (plan_of asked word)
orderly_of law (Builds name original traces) word = law.build name original traces
orderly_of law (Traces steps target original args) word = law.trace steps target original args (word + 1)
orderly_of law (Runs steps name args) word = law.run steps name args word
orderly_of law (Merges target original names) word = law.merge target original names
orderly_of law (Shows original names) word = law.show original names
orderly_of law (Sessions original) word = law.session original
orderly_of law (Demos count) word = law.demo count
orderly_of law (Assembles name text) word = law.asm name text

orderly : AreOrderly → (read : Result Asked ℕ) (word : ℕ) (p : Plan) → planned read word ≡ Ok p → IsOrderly p
orderly law (Ok asked) word p is = same_plan (plan_of asked word) p is (orderly_of law asked word)
orderly law (Err at) word p is = absurd (let z : (let r : Result Plan ℕ = Err at in r) ≡ Ok p = is in cc)

-- ---- the clauses

-- all that the top call owes
pub record AllOf (words : List (List ℕ)) (s : World) (result : ℕ) (t : World) : Type 0 where
  pub happened : Answered (plan words) s result t
  pub exact : (p : Plan) → plan words ≡ Ok p → IsExact p s result t
  pub complete : (p : Plan) → plan words ≡ Ok p → IsComplete p s result t
  pub partial : (p : Plan) → plan words ≡ Ok p → IsPartial p s t
  pub cause : HasCause s result t
  pub steady : IsSteady s result t
  pub usage : MeansUsage (plan words) s result t
  pub build : (name original : List ℕ) (traces : List (List ℕ)) → command words ≡ Ok (Builds name original traces) → MeansBuild name original traces s result t
  pub run : (steps : ℕ) (name : List ℕ) (args : List (List ℕ)) → command words ≡ Ok (Runs steps name args) → MeansRun steps name args (first_name words) s result t
  pub trace : (steps : ℕ) (target original : List ℕ) (args : List (List ℕ)) → command words ≡ Ok (Traces steps target original args) → MeansTrace steps target original args (first_name words + 1) s result t
  pub merge : (target original : List ℕ) (names : List (List ℕ)) → command words ≡ Ok (Merges target original names) → MeansMerge target original names s result t
  pub show : (original : List ℕ) (names : List (List ℕ)) → command words ≡ Ok (Shows original names) → MeansShow original names s result t
  pub demo : (count : ℕ) → command words ≡ Ok (Demos count) → MeansDemo count s result t
  pub session : (original : List ℕ) → command words ≡ Ok (Sessions original) → MeansSession original s result t
  pub asm : (name text : List ℕ) → command words ≡ Ok (Assembles name text) → MeansAsm name text s result t

pub all_of : (words : List (List ℕ)) (s : World) (result : ℕ) (t : World) → PlanLaw → AreOrderly → Meanings → Answered (plan words) s result t → AllOf words s result t
all_of words s result t law order meanings h =
    let did : (p : Plan) → plan words ≡ Ok p → Happened p s result t = λ p is. (let P : Result Plan ℕ → Type 0 = λ r. Answered r s result t in subst P is h) in
    let good : (p : Plan) → plan words ≡ Ok p → IsOrderly p = λ p is. orderly order (command words) (first_name words) p is in
    let of_words : (asked : Asked) → command words ≡ Ok asked → Answered (Ok (plan_of asked (first_name words))) s result t = λ asked is. asked_of_words (λ r. Answered r s result t) words asked is h in
    record {
      happened = h;
      exact = λ p is. law.exact p s result t (good p is) (did p is);
      complete = λ p is. law.complete p s result t (good p is) (did p is);
      partial = λ p is. law.partial p s result t (good p is) (did p is);
      cause = law.cause (plan words) s result t h;
      steady = law.steady (plan words) s result t h;
      usage = means_usage (plan words) s result t law.never_one h;
      build = λ name original traces is. meanings.build name original traces s result t (of_words (Builds name original traces) is);
      run = λ steps name args is. meanings.run steps name args (first_name words) s result t (of_words (Runs steps name args) is);
      trace = λ steps target original args is. meanings.trace steps target original args (first_name words + 1) s result t (of_words (Traces steps target original args) is);
      merge = λ target original names is. meanings.merge target original names s result t (of_words (Merges target original names) is);
      show = λ original names is. meanings.show original names s result t (of_words (Shows original names) is);
      demo = λ count is. let fits = fit_read words (Demos count) is in meanings.demo count s result t fits.0 fits.1 (of_words (Demos count) is);
      session = λ original is. meanings.session original s result t (of_words (Sessions original) is);
      asm = λ name text is. meanings.asm name text s result t (of_words (Assembles name text) is);
    }

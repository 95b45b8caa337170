-- What `trace` answers means what it is to mean.
use Rattle.std.proofs.Common.{◌≡◌, ◌⊎◌, ◌+◌, ℕ, List, [], ◌∷◌, ◌++◌, length, Option, Some, None, Result, Ok, Err, refl, sym, ◌∙◌, ap, subst, inl, inr, arith}
use Rattle.std.specs.Option.{option_map}
use Rattle.br_word.specs.State.{RunState}
use Rattle.br_outside.specs.Files.{Files, put}
use Rattle.elf_read.specs.Elf.{elf, Refused}
use Rattle.elf_read.specs.declared.exe.Exe.{Exe}
use Rattle.elf_read.specs.declared.exe.Reach.TheVariants.{Original}
use Rattle.sha2.specs.Sha256.{sha256}
use Rattle.run_model.specs.Opening.{opening, arguments}
use Rattle.run_model.specs.Run.{run}
use Rattle.guest_run.specs.Guest.{beginning, answer_of, stop_of, steps_taken, undefined_taken}
use Rattle.trace_file.specs.Trace.{trace_bytes}
use Rattle.tracer.specs.declared.answers.Traced.{Traced}
use Rattle.tracer.specs.TracedRun.{entry_edge}
use Rattle.tracer.specs.TraceTold.{edges_in}
use Rattle.top_plan.specs.World.{World}
use Rattle.top_plan.specs.Texts.{finish_status}
use Rattle.top_plan.specs.Parts.{checked}
use Rattle.top_plan.specs.Plan.{Plan}
use Rattle.top_plan.specs.Expected.{Ending, ends_with, after_fetch, expected, HasFailed, IsWhole, Decided, IsExact}
use Rattle.top_run.specs.RunPlan.{finish_of}
use Rattle.top_run.specs.TracePlan.{traced_line, traced_as, tour_plan, traced_part, trace_plan}
use Rattle.top_files.specs.OriginalPart.{of_word, with_digest}
use Rattle.top_run.specs.TraceMeaning.{traced_after, HasTraced, HasFilled, TracesExe, TracesRead, TracesContent, MeansTrace}
use Rattle.top_plan.specs.declared.ends.Halt.TheVariants.{Because, Outside}
use Rattle.top_plan.specs.declared.ends.Cause.TheVariants.{RefusedWord, Limited}
use Rattle.top_plan.specs.declared.ends.Object.{Object}
use Rattle.top_plan.specs.declared.ends.Object.TheVariants as objects
use Rattle.top_plan.specs.declared.ends.Limit.TheVariants as limits
use Rattle.top_files.specs.declared.original.Subject.{Subject}
use Rattle.top_run.proofs.GuestRuns.{same_stop}
use Rattle.top_run.proofs.GuestEnds.{ran_before}
use Rattle.top_run.proofs.TourEnds.{last_rest, full_rest, tour_ends, tour_fills}
use Rattle.top_run.proofs.RunMeant.{not_begun, has_shown}
use Rattle.top_files.proofs.ReadMeant.{chosen}

-- the run of the original, and what is done with its trace
abbrev toured_part : List ℕ → ℕ → List (List ℕ) → Subject → Plan
toured_part target n args subject = tour_plan (traced_part target subject.digest) n (beginning subject.exe args) (entry_edge subject.exe ∷ [])

line_as : (a b : RunState) (m m' u u' k : ℕ) → a ≡ b → m ≡ m' → u ≡ u' → traced_line a m u k ≡ traced_line b m' u' k
line_as a b m m' u u' k e f g = ap (λ a. traced_line a m u k) e ∙ (ap (λ m. traced_line b m u k) f ∙ ap (λ u. traced_line b m' u k) g)

has_traced : (target digest : List ℕ) (n : ℕ) (exe : Exe) (args : List (List ℕ)) (files : Files) (left : List ℕ) (s : World) (result : ℕ) (t : World) → s.shelf.files ≡ Some files → s.input.bytes ≡ Some left
    → IsWhole files left (ran_before (last_rest (traced_part target digest) files (edges_in exe (opening exe (arguments args) left) n)) n (beginning exe args) left) s result t
    → HasTraced target digest n exe (opening exe (arguments args) left) files s result t
unfolding expected
has_traced target digest n exe args files left s result t told has w =
    let start = opening exe (arguments args) left in
    let u = run n start [] in
    let es = edges_in exe start n in
    let made : Traced = record { edges = es; stop = answer_of u.stop; steps = 0 + steps_taken n start; undefined = 0 + undefined_taken n start } in
    let h = has_shown start.stop u (record { name = target; bytes = trace_bytes es digest } ∷ []) (Ok (traced_as made)) files (put target (Some (trace_bytes es digest)) files) left s result t has w in
    let line : traced_line (stop_of made.stop) made.steps made.undefined (length es) ≡ traced_after n exe start = line_as _ _ _ _ _ _ (length es) (same_stop u.stop) (omega arith) (omega arith) in
    record {
      status = w.status ∙ ap (λ x. finish_status (finish_of x)) (same_stop u.stop);
      stored = w.shelf told;
      shown = record { out = h.out; report = h.report ∙ ap (λ l. option_map (λ written. written ++ (u.err ++ l)) s.report.bytes) line; input = h.input };
    }

has_filled : (k : ℕ) (exe : Exe) (args : List (List ℕ)) (files : Files) (left : List ℕ) (s : World) (result : ℕ) (t : World) → s.shelf.files ≡ Some files → s.input.bytes ≡ Some left
    → IsWhole files left (ran_before (full_rest files) k (beginning exe args) left) s result t → HasFilled k (opening exe (arguments args) left) s result t
has_filled k exe args files left s result t told has w =
    let start = opening exe (arguments args) left in
    record {
      status = w.status;
      shelf = w.shelf told ∙ sym told;
      shown = has_shown start.stop (run k start []) [] (Err (Because (Limited (limits.Union 2000000)))) files files left s result t has w;
    }

toured : (target digest : List ℕ) (n : ℕ) (exe : Exe) (args : List (List ℕ)) (files : Files) (left : List ℕ) (s : World) (result : ℕ) (t : World) → s.shelf.files ≡ Some files → s.input.bytes ≡ Some left
    → IsWhole files left (expected (toured_part target n args (record { exe = exe; digest = digest })) files left) s result t → TracesExe target digest n exe (opening exe (arguments args) left) files s result t
toured target digest n exe args files left s result t told has w =
    let g = beginning exe args in
    let es = entry_edge exe ∷ [] in
    let P : Ending → Type 0 = λ e. IsWhole files left e s result t in
    record {
      few = λ few. has_traced target digest n exe args files left s result t told has
          (subst P (tour_ends (traced_part target digest) n g es files left (record { out = refl; err = refl }) (λ j less. few j (omega (arith, less)))) w);
      full = λ k most few full. has_filled k exe args files left s result t told has
          (subst P (tour_fills (traced_part target digest) k n g es files left (record { out = refl; err = refl }) most few full) w);
    }

read : (target : List ℕ) (n : ℕ) (args : List (List ℕ)) (word : ℕ) (content : List ℕ) (files : Files) (left : List ℕ) (s : World) (result : ℕ) (t : World) → s.shelf.files ≡ Some files → s.input.bytes ≡ Some left
    → (r : Result Exe Refused) → IsWhole files left (expected (checked (with_digest content (of_word word r)) (toured_part target n args)) files left) s result t → TracesRead target n args word left content r files s result t
unfolding expected
read target n args word content files left s result t told has (Ok exe) w = toured target (sha256 content) n exe args files left s result t told has w
read target n args word content files left s result t told has (Err refused) w = not_begun (Because (RefusedWord word refused.number refused.place)) files left s result t told has w

fetched : (target : List ℕ) (n : ℕ) (args : List (List ℕ)) (word : ℕ) (files : Files) (left : List ℕ) (s : World) (result : ℕ) (t : World) → s.shelf.files ≡ Some files → s.input.bytes ≡ Some left → (c : Option (List ℕ))
    → IsWhole files left (after_fetch 16777216 (λ bytes. expected (checked (with_digest bytes (of_word word (elf Original bytes))) (toured_part target n args)) files left) files left c) s result t
    → TracesContent target n args word left c files s result t
fetched target n args word files left s result t told has None w = not_begun (Outside objects.Shelf) files left s result t told has w
fetched target n args word files left s result t told has (Some content) w =
    let by = chosen (λ e. IsWhole files left e s result t) (length content) 16777216 (expected (checked (with_digest content (of_word word (elf Original content))) (toured_part target n args)) files left)
    (ends_with (Err (Because (Limited (limits.File 16777216)))) files left) w in (
      λ short. read target n args word content files left s result t told has (elf Original content) (by.0 short),
      λ long. not_begun (Because (Limited (limits.File 16777216))) files left s result t told has (by.1 long),
    )

decided : (n : ℕ) (target original : List ℕ) (args : List (List ℕ)) (word : ℕ) (files : Files) (left : List ℕ) (s : World) (result : ℕ) (t : World) → s.shelf.files ≡ Some files → s.input.bytes ≡ Some left
    → Decided files left (expected (trace_plan n target original args word) files left) s result t
    → (result ≡ 4) ⊎ (((result ≡ 3) × (x : Object) × HasFailed x s t) ⊎ TracesContent target n args word left (files original) files s result t)
unfolding expected
decided n target original args word files left s result t told has (inl four) = inl four
decided n target original args word files left s result t told has (inr (inl failed)) = inr (inl failed)
decided n target original args word files left s result t told has (inr (inr w)) = inr (inr (fetched target n args word files left s result t told has (files original) w))

pub means_trace : (n : ℕ) (target original : List ℕ) (args : List (List ℕ)) (word : ℕ) (s : World) (result : ℕ) (t : World) → IsExact (trace_plan n target original args word) s result t
    → MeansTrace n target original args word s result t
means_trace n target original args word s result t exact files left told has =
    decided n target original args word files left s result t told has (exact files left (record { shelf = inr told; input = inr has }))

-- What `run` answers means what it is to mean.
use Rattle.std.proofs.Common.{◌≡◌, ◌⊎◌, ◌≤◌, ◌+◌, ℕ, nat_le, List, [], ◌++◌, length, drop, Option, Some, None, Result, Ok, Err, refl, sym, ◌∙◌, ap, subst, inl, inr, arith}
use Rattle.std.specs.Option.{option_map}
use Rattle.std.proofs.lemmas.Bool.{le-leb, lt-leb, cond-true, cond-false}
use Rattle.std.proofs.lemmas.List.{append-nil}
use Rattle.br_word.specs.State.{State, RunState, Running, Exited, Faulted}
use Rattle.br_outside.specs.Files.{Files}
use Rattle.elf_read.specs.Elf.{elf, Refused}
use Rattle.elf_read.specs.declared.exe.Exe.{Exe}
use Rattle.elf_read.specs.declared.exe.Reach.TheVariants.{Guest}
use Rattle.run_model.specs.Opening.{opening, arguments}
use Rattle.run_model.specs.Run.{run}
use Rattle.guest_run.specs.Guest.{beginning, ahead, while_running, steps_taken, undefined_taken}
use Rattle.top_plan.specs.World.{World}
use Rattle.top_plan.specs.Texts.{WorkEnd, end_text, halt_text, halt_status}
use Rattle.top_plan.specs.Parts.{checked}
use Rattle.top_plan.specs.Expected.{Store, Ending, ends_with, after_fetch, expected, LeavesBut, HasFailed, IsWhole, Decided, IsExact}
use Rattle.top_run.specs.RunPlan.{last_line, guest_plan, finished, run_plan}
use Rattle.top_files.specs.OriginalPart.{of_word}
use Rattle.top_run.specs.RunMeaning.{HasShown, HasRun, RunsRead, RunsContent, MeansRun}
use Rattle.top_files.specs.Answers.{OnlySays}
use Rattle.top_plan.specs.declared.ends.Halt.{Halt}
use Rattle.top_plan.specs.declared.ends.Halt.TheVariants.{Because, Outside}
use Rattle.top_plan.specs.declared.ends.Cause.TheVariants.{RefusedWord, Limited}
use Rattle.top_plan.specs.declared.ends.Object.{Object}
use Rattle.top_plan.specs.declared.ends.Object.TheVariants as objects
use Rattle.top_plan.specs.declared.ends.Limit.TheVariants as limits
use Rattle.top_files.proofs.ReadMeant.{only_says}
use Rattle.top_run.proofs.GuestEnds.{shown_before, ran_before, guest_rest, ends_as}

-- the work ended before the guest was beginning
pub not_begun : (stop : Halt) (files : Files) (left : List ℕ) (s : World) (result : ℕ) (t : World) → s.shelf.files ≡ Some files → s.input.bytes ≡ Some left
    → IsWhole files left (ends_with (Err stop) files left) s result t → OnlySays (halt_status stop) (halt_text stop) s result t
not_begun stop files left s result t told has w =
    let h : LeavesBut 0 left t.input.bytes = w.input has in
    let none : h.0 ≡ 0 = omega (arith, h.1) in
    only_says stop files left s result t told (h.2 ∙ (ap (λ n. Some (drop n left)) none ∙ sym has)) w

while_le : (x : RunState) (k : ℕ) → while_running x k 0 ≤ k
while_le Running k = omega arith
while_le (Exited n) k = omega arith
while_le (Faulted f) k = omega arith

-- the steps up to a state have shown what they did, and then a line was reported
pub has_shown : (x : RunState) (u : State) (stored : List Store) (end : WorkEnd) (files files' : Files) (left : List ℕ) (s : World) (result : ℕ) (t : World) → s.input.bytes ≡ Some left
    → IsWhole files left (shown_before u (while_running x (ahead u) 0) (record (ends_with end files' u.input) { stored = stored })) s result t → HasShown u (end_text end) s t
has_shown x u stored end files files' left s result t has w =
    let i = w.input has in
    record {
      out = w.out ∙ ap (λ x. option_map (λ written. written ++ x) s.out.bytes) (append-nil u.out);
      report = w.report ∙ ap (λ x. option_map (λ written. written ++ (x ++ end_text end)) s.report.bytes) (append-nil u.err);
      input = (i.0, (let k = while_le x (ahead u) in omega (arith, i.1, k)), i.2);
    }

-- the guest ran
has_run : (n : ℕ) (exe : Exe) (args : List (List ℕ)) (files : Files) (left : List ℕ) (s : World) (result : ℕ) (t : World) → s.shelf.files ≡ Some files → s.input.bytes ≡ Some left
    → IsWhole files left (ran_before (guest_rest files) n (beginning exe args) left) s result t → HasRun n (opening exe (arguments args) left) s result t
has_run n exe args files left s result t told has w =
    let start = opening exe (arguments args) left in
    let u = run n start [] in
    let h = has_shown start.stop u [] (Ok (finished u.stop (0 + steps_taken n start) (0 + undefined_taken n start))) files files left s result t has w in
    let steps : 0 + steps_taken n start ≡ steps_taken n start = omega arith in
    let undefined : 0 + undefined_taken n start ≡ undefined_taken n start = omega arith in
    record {
      status = w.status;
      shown = record { out = h.out; input = h.input; report = h.report ∙ ap (λ l. option_map (λ written. written ++ (u.err ++ l)) s.report.bytes) (ap (λ m. last_line u.stop m (0 + undefined_taken n start)) steps ∙ ap (λ m. last_line u.stop (steps_taken n start) m) undefined) };
      shelf = w.shelf told ∙ sym told;
    }

read : (n : ℕ) (args : List (List ℕ)) (word : ℕ) (files : Files) (left : List ℕ) (s : World) (result : ℕ) (t : World) → s.shelf.files ≡ Some files → s.input.bytes ≡ Some left
    → (r : Result Exe Refused) → IsWhole files left (expected (checked (of_word word r) (λ exe. guest_plan n (beginning exe args))) files left) s result t → RunsRead n args word left r s result t
unfolding expected
read n args word files left s result t told has (Ok exe) w =
    let P : Ending → Type 0 = λ e. IsWhole files left e s result t in has_run n exe args files left s result t told has (subst P (ends_as n (beginning exe args) files left (record { out = refl; err = refl })) w)
read n args word files left s result t told has (Err refused) w = not_begun (Because (RefusedWord word refused.number refused.place)) files left s result t told has w

fetched : (n : ℕ) (args : List (List ℕ)) (word : ℕ) (files : Files) (left : List ℕ) (s : World) (result : ℕ) (t : World) → s.shelf.files ≡ Some files → s.input.bytes ≡ Some left
    → (c : Option (List ℕ)) → IsWhole files left (after_fetch 268435456 (λ bytes. expected (checked (of_word word (elf Guest bytes)) (λ exe. guest_plan n (beginning exe args))) files left) files left c) s result t
    → RunsContent n args word left c s result t
fetched n args word files left s result t told has None w = not_begun (Outside objects.Shelf) files left s result t told has w
fetched n args word files left s result t told has (Some content) w =
    let P : Ending → Type 0 = λ e. IsWhole files left e s result t in (
      λ short. read n args word files left s result t told has (elf Guest content) (subst P (cond-true (nat_le (length content) 268435456) _ _ (le-leb (length content) 268435456 short)) w),
      λ long. not_begun (Because (Limited (limits.File 268435456))) files left s result t told has (subst P (cond-false (nat_le (length content) 268435456) _ _ (lt-leb (length content) 268435456 long)) w),
    )

decided : (n : ℕ) (name : List ℕ) (args : List (List ℕ)) (word : ℕ) (files : Files) (left : List ℕ) (s : World) (result : ℕ) (t : World) → s.shelf.files ≡ Some files → s.input.bytes ≡ Some left
    → Decided files left (expected (run_plan n name args word) files left) s result t → (result ≡ 4) ⊎ (((result ≡ 3) × (x : Object) × HasFailed x s t) ⊎ RunsContent n args word left (files name) s result t)
unfolding expected
decided n name args word files left s result t told has (inl four) = inl four
decided n name args word files left s result t told has (inr (inl failed)) = inr (inl failed)
decided n name args word files left s result t told has (inr (inr w)) = inr (inr (fetched n args word files left s result t told has (files name) w))

pub means_run : (n : ℕ) (name : List ℕ) (args : List (List ℕ)) (word : ℕ) (s : World) (result : ℕ) (t : World) → IsExact (run_plan n name args word) s result t → MeansRun n name args word s result t
means_run n name args word s result t exact files left told has = decided n name args word files left s result t told has (exact files left (record { shelf = inr told; input = inr has }))

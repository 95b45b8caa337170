-- What the reading of an original and of its traces means, by what the work behind it means.
use Rattle.std.proofs.Common.{◌≡◌, ◌<◌, ◌≤◌, ◌+◌, ℕ, nat_le, List, [], ◌∷◌, ◌++◌, length, Option, Some, None, Result, Ok, Err, cond, sym, ◌∙◌, subst, inl, inr, append_assoc}
use Rattle.std.proofs.lemmas.Bool.{le-leb, lt-leb, cond-true, cond-false}
use Rattle.std.proofs.lemmas.List.{append-nil}
use Rattle.br_outside.specs.Files.{Files}
use Rattle.elf_read.specs.Elf.{elf, Refused}
use Rattle.elf_read.specs.declared.exe.Exe.{Exe}
use Rattle.elf_read.specs.declared.exe.Reach.TheVariants.{Original}
use Rattle.sha2.specs.Sha256.{sha256}
use Rattle.trace_file.specs.Edges.{Edge}
use Rattle.trace_file.specs.Trace.{trace}
use Rattle.trace_file.specs.Trace as trace_file
use Rattle.top_plan.specs.World.{World}
use Rattle.top_plan.specs.Texts.{halt_text, halt_status}
use Rattle.top_plan.specs.Plan.{Plan, Ends, Stores}
use Rattle.top_plan.specs.Outcomes.{done_with}
use Rattle.top_plan.specs.Parts.{checked}
use Rattle.top_plan.specs.Expected.{ends_with, after_fetch, expected, IsWhole, Decided}
use Rattle.top_files.specs.OriginalPart.{of_word, with_digest, subject_part}
use Rattle.top_files.specs.TracesPart.{edges_of_word, counted, traces_part}
use Rattle.top_files.specs.Answers.{OnlySays, UnlessBroken, HasStored}
use Rattle.top_files.specs.ReadMeaning.{ReadsEdges, ReadsTrace, ReadsTraces, ReadsExe, ReadsContent}
use Rattle.top_plan.specs.declared.ends.Halt.{Halt}
use Rattle.top_plan.specs.declared.ends.Halt.TheVariants.{Because, Outside}
use Rattle.top_plan.specs.declared.ends.Cause.{Cause}
use Rattle.top_plan.specs.declared.ends.Cause.TheVariants.{RefusedWord, Limited}
use Rattle.top_plan.specs.declared.ends.Object.TheVariants as objects
use Rattle.top_plan.specs.declared.ends.Limit.TheVariants as limits
use Rattle.top_files.specs.declared.original.Subject.{Subject}
use Rattle.top_plan.proofs.Kept.{nothing}

-- the work halted, and nothing else was done
pub only_says : (halt : Halt) (files : Files) (left : List ℕ) (s : World) (result : ℕ) (t : World) → s.shelf.files ≡ Some files → t.input.bytes ≡ s.input.bytes
    → IsWhole files left (ends_with (Err halt) files left) s result t → OnlySays (halt_status halt) (halt_text halt) s result t
only_says halt files left s result t told same w = record {
  status = w.status;
  report = w.report;
  shelf = w.shelf told ∙ sym told;
  input = same;
  out = w.out ∙ sym (nothing s.out.bytes);
}

-- what follows the original
abbrev pub traced_after : List (List ℕ) → ℕ → (Subject → List (List Edge) → Plan) → Subject → Plan
traced_after names word next subject = traces_part subject.digest names (word + 1) 0 (next subject)

-- the shelf tells its files, and nothing was taken of the input
pub record IsQuiet (files : Files) (s t : World) : Type 0 where
  pub told : s.shelf.files ≡ Some files
  pub input : t.input.bytes ≡ s.input.bytes

-- the work came to what the plan comes to
abbrev pub Did : Plan → Files → World → ℕ → World → Type 0
Did p files s result t = IsWhole files [] (expected p files []) s result t

-- by a limit
pub chosen : {X : Type 0} (P : X → Type 0) (n limit : ℕ) (a b : X) → P (cond (nat_le n limit) a b) → (n ≤ limit → P a) × (limit < n → P b)
chosen P n limit a b h = (λ few. subst P (cond-true (nat_le n limit) a b (le-leb n limit few)) h, λ many. subst P (cond-false (nat_le n limit) a b (lt-leb n limit many)) h)

pub says : (halt : Halt) (files : Files) (s : World) (result : ℕ) (t : World) → IsQuiet files s t → IsWhole files [] (ends_with (Err halt) files []) s result t → OnlySays (halt_status halt) (halt_text halt) s result t
says halt files s result t h w = only_says halt files [] s result t h.told h.input w

-- a file is stored, and that is the end
pub has_stored : (name bytes line : List ℕ) (files : Files) (s : World) (result : ℕ) (t : World) → IsQuiet files s t → Did (Stores name bytes (Ends (Ok (done_with line)))) files s result t → HasStored name bytes line files s result t
unfolding expected
has_stored name bytes line files s result t h w = record {
  status = w.status;
  stored = w.shelf h.told;
  report = w.report;
  input = h.input;
  out = w.out ∙ sym (nothing s.out.bytes);
}

-- what follows a trace means this
abbrev Leads : (List Edge → Plan) → (List Edge → Type 0) → Files → World → ℕ → World → Type 0
Leads next means files s result t = (es : List Edge) → Did (next es) files s result t → means es

edges_mean : (word before : ℕ) (next : List Edge → Plan) (means : List Edge → Type 0) (files : Files) (s : World) (result : ℕ) (t : World) → IsQuiet files s t → Leads next means files s result t
    → (r : Result (List Edge) trace_file.Refused) → Did (checked (counted before (edges_of_word word r)) next) files s result t → ReadsEdges r means word before s result t
unfolding expected
edges_mean word before next means files s result t h then (Ok es) w =
    let P : Result (List Edge) Cause → Type 0 = λ r. Did (checked r next) files s result t in
    let by = chosen P (before + length es) 16777216 (Ok es) (Err (Limited (limits.Edges 16777216))) w in
    (λ few. then es (by.0 few), λ many. says (Because (Limited (limits.Edges 16777216))) files s result t h (by.1 many))
edges_mean word before next means files s result t h then (Err refused) w = says (Because (RefusedWord word refused.number refused.place)) files s result t h w

trace_means : (digest : List ℕ) (word before : ℕ) (next : List Edge → Plan) (means : List Edge → Type 0) (files : Files) (s : World) (result : ℕ) (t : World) → IsQuiet files s t → Leads next means files s result t
    → (c : Option (List ℕ)) → IsWhole files [] (after_fetch 16777216 (λ bytes. expected (checked (counted before (edges_of_word word (trace bytes digest))) next) files []) files [] c) s result t → ReadsTrace c means digest word before s result t
trace_means digest word before next means files s result t h then None w = says (Outside objects.Shelf) files s result t h w
trace_means digest word before next means files s result t h then (Some content) w =
    let by = chosen (λ e. IsWhole files [] e s result t) (length content) 16777216 (expected (checked (counted before (edges_of_word word (trace content digest))) next) files []) (ends_with (Err (Because (Limited (limits.File 16777216)))) files []) w in
    (λ short. edges_mean word before next means files s result t h then (trace content digest) (by.0 short), λ long. says (Because (Limited (limits.File 16777216))) files s result t h (by.1 long))

-- what follows the traces means this, with those that were read before
abbrev Closes : (List (List Edge) → Plan) → (List (List Edge) → Type 0) → List (List Edge) → Files → World → ℕ → World → Type 0
Closes next last done files s result t = (rest : List (List Edge)) → Did (next rest) files s result t → last (done ++ rest)

traces_mean : (digest : List ℕ) (names : List (List ℕ)) (word before : ℕ) (done : List (List Edge)) (next : List (List Edge) → Plan) (last : List (List Edge) → Type 0) (files : Files) (s : World) (result : ℕ) (t : World) → IsQuiet files s t
    → Closes next last done files s result t → Did (traces_part digest names word before next) files s result t → ReadsTraces last digest names word before done files s result t
unfolding expected traces_part
traces_mean digest [] word before done next last files s result t h then w = subst last (append-nil done) (then [] w)
traces_mean digest (name ∷ names) word before done next last files s result t h then w =
    trace_means digest word before (λ es. traces_part digest names (word + 1) (before + length es) (λ rest. next (es ∷ rest)))
    (λ es. ReadsTraces last digest names (word + 1) (before + length es) (done ++ es ∷ []) files s result t) files s result t h
    (λ es. traces_mean digest names (word + 1) (before + length es) (done ++ es ∷ []) (λ rest. next (es ∷ rest)) last files s result t h
    (λ rest done-so. subst last (sym (append_assoc done (es ∷ []) rest)) (then (es ∷ rest) done-so)))
    (files name) w

-- what follows an original and its traces means this
abbrev pub Follows : (Subject → List (List Edge) → Plan) → (Exe → List ℕ → List (List Edge) → Type 0) → Files → World → ℕ → World → Type 0
Follows next last files s result t = (subject : Subject) (traces : List (List Edge)) → Did (next subject traces) files s result t → last subject.exe subject.digest traces

read : (names : List (List ℕ)) (word : ℕ) (next : Subject → List (List Edge) → Plan) (last : Exe → List ℕ → List (List Edge) → Type 0) (content : List ℕ) (files : Files) (s : World) (result : ℕ) (t : World) → IsQuiet files s t → Follows next last files s result t
    → (r : Result Exe Refused) → Did (checked (with_digest content (of_word word r)) (traced_after names word next)) files s result t → ReadsExe last names word content r files s result t
unfolding expected
read names word next last content files s result t h then (Ok exe) w =
    let subject : Subject = record { exe = exe; digest = sha256 content } in
    traces_mean (sha256 content) names (word + 1) 0 [] (next subject) (last exe (sha256 content)) files s result t h (then subject) w
read names word next last content files s result t h then (Err refused) w = says (Because (RefusedWord word refused.number refused.place)) files s result t h w

fetched : (names : List (List ℕ)) (word : ℕ) (next : Subject → List (List Edge) → Plan) (last : Exe → List ℕ → List (List Edge) → Type 0) (files : Files) (s : World) (result : ℕ) (t : World) → IsQuiet files s t → Follows next last files s result t
    → (c : Option (List ℕ)) → IsWhole files [] (after_fetch 16777216 (λ bytes. expected (checked (with_digest bytes (of_word word (elf Original bytes))) (traced_after names word next)) files []) files [] c) s result t
    → ReadsContent last names word c files s result t
fetched names word next last files s result t h then None w = says (Outside objects.Shelf) files s result t h w
fetched names word next last files s result t h then (Some content) w =
    let by = chosen (λ e. IsWhole files [] e s result t) (length content) 16777216 (expected (checked (with_digest content (of_word word (elf Original content))) (traced_after names word next)) files [])
    (ends_with (Err (Because (Limited (limits.File 16777216)))) files []) w in
    (λ short. read names word next last content files s result t h then (elf Original content) (by.0 short), λ long. says (Because (Limited (limits.File 16777216))) files s result t h (by.1 long))

pub reading_means : (original : List ℕ) (names : List (List ℕ)) (word : ℕ) (next : Subject → List (List Edge) → Plan) (last : Exe → List ℕ → List (List Edge) → Type 0) (files : Files) (s : World) (result : ℕ) (t : World) → IsQuiet files s t
    → Follows next last files s result t → Decided files [] (expected (subject_part original word (traced_after names word next)) files []) s result t → UnlessBroken (ReadsContent last names word (files original) files s result t) s result t
unfolding expected
reading_means original names word next last files s result t h then (inl four) = inl four
reading_means original names word next last files s result t h then (inr (inl failed)) = inr (inl failed)
reading_means original names word next last files s result t h then (inr (inr w)) = inr (inr (fetched names word next last files s result t h then (files original) w))

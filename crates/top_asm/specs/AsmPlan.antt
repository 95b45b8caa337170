-- The plan of `asm`.
use Rattle.std.specs.Prelude.{ℕ, List, ◌++◌, length, Result, Ok, Err, codes}
use Rattle.std.specs.Fmt.{decimal}
use Rattle.asm_text.specs.declared.limits.TheConstants.{SOURCE_LIMIT}
use Rattle.asm_text.specs.Source.{assembled}
use Rattle.top_plan.specs.Plan.{Plan, Ends, Fetches, Stores}
use Rattle.top_plan.specs.Parts.{checked}
use Rattle.top_plan.specs.Outcomes.{done_with}
use Rattle.top_plan.specs.declared.ends.Cause.{Cause}
use Rattle.top_plan.specs.declared.ends.Cause.TheVariants.{RefusedWord}

-- the file of a source, or its refusal, with the position of the source's word
abbrev pub file_of_word : ℕ → Result (List ℕ) (ℕ × ℕ) → Result (List ℕ) Cause
file_of_word word (Ok file) = Ok file
file_of_word word (Err refusal) = Err (RefusedWord word refusal.0 refusal.1)

-- the report line, with the length of the file
abbrev pub assembled_line : List ℕ → List ℕ
assembled_line file = codes "assembled " ++ (decimal (length file) ++ codes "\n")

-- a file is stored, and its line is reported
abbrev pub store_part : List ℕ → List ℕ → Plan
store_part name file = Stores name file (Ends (Ok (done_with (assembled_line file))))

-- the source is fetched and assembled
abbrev pub asm_plan : List ℕ → List ℕ → Plan
asm_plan name text = Fetches text SOURCE_LIMIT (λ source. checked (file_of_word 2 (assembled source)) (store_part name))

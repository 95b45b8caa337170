-- The report lines and the statuses.
use Rattle.std.specs.Prelude.{ℕ, List, [], ◌++◌, codes, string_bytes, Option, Some, None, Result, Ok, Err}
use Rattle.std.specs.Option.{option_map}
use Rattle.std.specs.Fmt.{decimal}
use Rattle.top_plan.specs.declared.ends.Finish.{Finish}
use Rattle.top_plan.specs.declared.ends.Finish.TheVariants as finishes
use Rattle.top_plan.specs.declared.ends.Halt.{Halt}
use Rattle.top_plan.specs.declared.ends.Halt.TheVariants.{Because, Outside, Memory}
use Rattle.top_plan.specs.declared.ends.Cause.{Cause}
use Rattle.top_plan.specs.declared.ends.Cause.TheVariants.{RefusedWord, RefusedLine, Limited}
use Rattle.top_plan.specs.declared.ends.Object.{Object}
use Rattle.top_plan.specs.declared.ends.Object.TheVariants as objects
use Rattle.top_plan.specs.declared.ends.Limit.{Limit}
use Rattle.top_plan.specs.declared.ends.Limit.TheVariants as limits
use Rattle.top_plan.specs.declared.ends.Outcome.{Outcome}

-- work that is done: how, and the line to report, where there is one
pub record Finished : Type 0 where
  pub finish : Finish
  pub line : Option (List ℕ)

-- how the work of a command ends: it is done, or it is not
abbrev pub WorkEnd : Type 0
WorkEnd = Result Finished Halt

-- the answer of a function that does the work, as such an end
abbrev pub end_of : Result Outcome Halt → WorkEnd
end_of (Ok outcome) = Ok (record { finish = outcome.finish; line = option_map string_bytes outcome.line })
end_of (Err halt) = Err halt

-- ---- the texts

-- a call of this object failed
abbrev pub object_text : Object → List ℕ
object_text objects.Shelf = codes "outside shelf\n"
object_text objects.Input = codes "outside input\n"
object_text objects.Output = codes "outside output\n"
object_text objects.Report = codes "outside report\n"

-- a limit's name before its number
abbrev pub limit_name : Limit → List ℕ
limit_name (limits.File number) = codes "limit file "
limit_name (limits.Edges number) = codes "limit edges "
limit_name (limits.Union number) = codes "limit union "
limit_name (limits.Blocks number) = codes "limit blocks "
limit_name (limits.Code number) = codes "limit code "
limit_name (limits.Traces number) = codes "limit traces "
limit_name (limits.Lines number) = codes "limit lines "

-- the number of a limit
abbrev pub limit_number : Limit → ℕ
limit_number (limits.File number) = number
limit_number (limits.Edges number) = number
limit_number (limits.Union number) = number
limit_number (limits.Blocks number) = number
limit_number (limits.Code number) = number
limit_number (limits.Traces number) = number
limit_number (limits.Lines number) = number

-- `limit NAME NUMBER`
abbrev pub limit_text : Limit → List ℕ
limit_text limit = limit_name limit ++ (decimal (limit_number limit) ++ codes "\n")

-- where it stands, the refusal's number, and the place
abbrev pub refused_text : ℕ → ℕ → ℕ → List ℕ
refused_text at number place = decimal at ++ (codes " " ++ (decimal number ++ (codes " " ++ (decimal place ++ codes "\n"))))

-- a file or a line of a script is refused, or a limit is passed
abbrev pub cause_text : Cause → List ℕ
cause_text (RefusedWord word number place) = codes "refused word " ++ refused_text word number place
cause_text (RefusedLine line number place) = codes "refused line " ++ refused_text line number place
cause_text (Limited limit) = limit_text limit

-- why work is not done
abbrev pub halt_text : Halt → List ℕ
halt_text (Because cause) = cause_text cause
halt_text (Outside object) = object_text object
halt_text Memory = codes "memory\n"

-- words that are no command: the position of the first that is wrong, or their number where one is missing
abbrev pub usage_text : ℕ → List ℕ
usage_text word = codes "usage " ++ (decimal word ++ codes "\n")

-- the report line of an end, where it has one
abbrev pub end_line : WorkEnd → Option (List ℕ)
end_line (Ok done) = done.line
end_line (Err halt) = Some (halt_text halt)

-- the bytes of a line: none, where there is no line
abbrev pub line_text : Option (List ℕ) → List ℕ
line_text None = []
line_text (Some text) = text

-- what is reported at an end: its line, or nothing
abbrev pub end_text : WorkEnd → List ℕ
end_text end = line_text (end_line end)

-- ---- the statuses

-- of work that is done
abbrev pub finish_status : Finish → ℕ
finish_status finishes.Done = 0
finish_status finishes.Fault = 5
finish_status finishes.Budget = 6

-- of a refusal, and of a limit
abbrev pub cause_status : Cause → ℕ
cause_status (RefusedWord word number place) = 2
cause_status (RefusedLine line number place) = 2
cause_status (Limited limit) = 7

-- of work that is not done
abbrev pub halt_status : Halt → ℕ
halt_status (Because cause) = cause_status cause
halt_status (Outside object) = 3
halt_status Memory = 4

-- of an end, where its line is given
abbrev pub end_status : WorkEnd → ℕ
end_status (Ok done) = finish_status done.finish
end_status (Err halt) = halt_status halt

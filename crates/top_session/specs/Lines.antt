-- The lines of a script as parts of a plan, and the lines that are printed and reported.
use Rattle.std.specs.Prelude.{ℕ, List, [], ◌++◌, length, drop, codes, Ok}
use Rattle.std.specs.Fmt.{decimal}
use Rattle.code_layout.specs.declared.built.Built.{Built}
use Rattle.line_reader.specs.Lines.{Next, next_in, used_in}
use Rattle.top_plan.specs.Plan.{Plan, Ends, Turned, Turns}
use Rattle.top_plan.specs.Outcomes.{done_with}

-- a line, or what there is in place of one, is used of what is left
abbrev pub line_turn : ℕ → List ℕ → Turned
line_turn limit left =
    record { left = drop (used_in limit left) left; printed = []; reported = []; asked = used_in limit left; spare = 0 }

-- a line of at most so many bytes is read, and the work goes on by it
abbrev pub line_part : ℕ → (Next → Plan) → Plan
line_part limit next = Turns (line_turn limit) (λ left. next (next_in limit left))

-- ---- the lines that are printed

-- the number that a trace was given
abbrev pub added_line : ℕ → List ℕ
added_line number = codes "added " ++ (decimal number ++ codes "\n")

-- the number of the trace that was taken away
abbrev pub removed_line : ℕ → List ℕ
removed_line number = codes "removed " ++ (decimal number ++ codes "\n")

-- the numbers of a file that was stored, and how many of its blocks were made for it
abbrev pub emitted_line : Built → ℕ → List ℕ
emitted_line b made =
    codes "emitted " ++ (decimal b.blocks ++ (codes " " ++ (decimal b.code ++ (codes " "
    ++ (decimal (length b.bytes) ++ (codes " made " ++ (decimal made ++ codes "\n")))))))

-- ---- the line that is reported

-- how many lines the script has
abbrev pub lines_line : ℕ → List ℕ
lines_line count = codes "lines " ++ (decimal count ++ codes "\n")

-- it is reported, and that is all
abbrev pub lines_end : ℕ → Plan
lines_end count = Ends (Ok (done_with (lines_line count)))

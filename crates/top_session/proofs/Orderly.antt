-- The turns of the plan of `session`.
use Rattle.std.proofs.Common.{◌≡◌, ◌⊎◌, ℕ, zero, suc, ◌+◌, List, [], ◌∷◌, Option, Some, None, refl, inl, arith}
use Rattle.elf_read.specs.Elf.{elf}
use Rattle.elf_read.specs.declared.exe.Reach.TheVariants.{Original}
use Rattle.trace_file.specs.Trace.{trace}
use Rattle.code_layout.specs.Image.{built_of}
use Rattle.session_core.specs.Session.{SessionView, new_session, traces_in, with_traces, live_edges, to_make, emitted_from}
use Rattle.script_text.specs.Lines.{Ordered, Nothings, Adds, Removes, Emits, order_of}
use Rattle.line_reader.specs.Lines.{Next, Nothing, TooLong, Text, next_in, used_in}
use Rattle.top_plan.specs.Plan.{Plan, Turned}
use Rattle.top_plan.specs.Parts.{prints}
use Rattle.top_plan.specs.Expected.{NoInput, AllTurns}
use Rattle.top_plan.specs.Partial.{Uses, IsOrderly}
use Rattle.top_files.specs.OriginalPart.{of_word, with_digest}
use Rattle.top_files.proofs.PartTurns.{checked_turns}
use Rattle.top_build.specs.BuildPlan.{limited_built}
use Rattle.top_session.specs.Lines.{line_turn, line_part, added_line, removed_line, emitted_line, lines_end}
use Rattle.top_session.specs.SessionPlan.{edges_of_line, added, removed, order_part, line_step, past_last, lines_part, session_plan}

-- a line uses what it asks for
line_uses : (limit : ℕ) (left : List ℕ) → Uses (line_turn limit left) left
line_uses limit left = record { used = used_in limit left; rest = refl; most = omega arith }

line_orderly : (limit : ℕ) (next : Next → Plan) → ((n : Next) → IsOrderly (next n)) → IsOrderly (line_part limit next)
unfolding AllTurns
line_orderly limit next h = λ left. (h (next_in limit left), (line_uses limit left, inl refl))

-- what is so of each turn of an orderly plan
abbrev TakesSo : Turned → List ℕ → Plan → Type 0
TakesSo turned left rest = Uses turned left × ((turned.spare ≡ 0) ⊎ NoInput rest)

-- a text is printed
prints_turns : (P : Turned → List ℕ → Plan → Type 0) (text : List ℕ) (next : Plan) → AllTurns P next → AllTurns P (prints text next)
unfolding AllTurns
prints_turns P [] next h = h
prints_turns P (b ∷ bs) next h = h

-- what a line asks
order_orderly : (digest : List ℕ) (q : ℕ) (s : SessionView) (asked : Option Ordered) (next : SessionView → Plan) → ((s : SessionView) → IsOrderly (next s)) → IsOrderly (order_part digest q s asked next)
unfolding AllTurns
order_orderly digest q s None next h = tt
order_orderly digest q s (Some Nothings) next h = h s
order_orderly digest q s (Some (Adds name)) next h =
    λ bytes. checked_turns TakesSo (edges_of_line q (trace bytes digest)) _ (λ es. checked_turns TakesSo (added (traces_in s) es) _ (λ ts. prints_turns TakesSo (added_line s.next) (next (with_traces s ts)) (h (with_traces s ts))))
order_orderly digest q s (Some (Removes number)) next h = checked_turns TakesSo (removed q number (traces_in s)) _ (λ ts. prints_turns TakesSo (removed_line number) (next (with_traces s ts)) (h (with_traces s ts)))
order_orderly digest q s (Some (Emits name)) next h =
    checked_turns TakesSo (limited_built (built_of s.exe (live_edges s))) _ (λ built. prints_turns TakesSo (emitted_line built (to_make s)) (next (emitted_from s)) (h (emitted_from s)))

-- the lines behind a line, and what is behind the last that may be there
step_orderly : (digest : List ℕ) (q : ℕ) (s : SessionView) (next : SessionView → Plan) → ((s : SessionView) → IsOrderly (next s)) → (n : Next) → IsOrderly (line_step digest q s next lines_end n)
unfolding AllTurns
step_orderly digest q s next h Nothing = tt
step_orderly digest q s next h TooLong = tt
step_orderly digest q s next h (Text line) = order_orderly digest (q + 1) s (order_of line) next h

past_orderly : (q : ℕ) (n : Next) → IsOrderly (past_last q lines_end n)
unfolding AllTurns
past_orderly q Nothing = tt
past_orderly q TooLong = tt
past_orderly q (Text line) = tt

lines_orderly : (digest : List ℕ) (n q : ℕ) (s : SessionView) → IsOrderly (lines_part digest n q s lines_end)
unfolding lines_part
lines_orderly digest zero q s = line_orderly 0 (past_last q lines_end) (past_orderly q)
lines_orderly digest (suc n) q s =
    line_orderly 4200 (line_step digest q s (λ s. lines_part digest n (q + 1) s lines_end) lines_end)
    (step_orderly digest q s (λ s. lines_part digest n (q + 1) s lines_end) (λ s. lines_orderly digest n (q + 1) s))

pub orderly : (original : List ℕ) → IsOrderly (session_plan original)
unfolding AllTurns
orderly original = λ bytes. checked_turns TakesSo (with_digest bytes (of_word 1 (elf Original bytes))) _ (λ subject. lines_orderly subject.digest 1048576 0 (new_session subject.exe))

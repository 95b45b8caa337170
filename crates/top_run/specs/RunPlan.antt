-- A guest's run as turns, its last line, and the plan of `run`.
use Rattle.std.specs.Prelude.{ℕ, zero, suc, List, ◌++◌, codes, Some, Ok, Err, Result, ◌+◌}
use Rattle.elf_read.specs.declared.limits.TheConstants.{GUEST_FILE_LIMIT}
use Rattle.std.specs.Fmt.{decimal}
use Rattle.br_word.specs.declared.types.GuestFault.{GuestFault}
use Rattle.br_word.specs.declared.types.Width.TheVariants.{B32}
use Rattle.ia_text.specs.Operands.{digits_text}
use Rattle.br_word.specs.declared.types.GuestFault.TheVariants.{Access, Illegal, Divide}
use Rattle.br_word.specs.State.{State, RunState, Running, Exited, Faulted}
use Rattle.ia_inst.specs.Step.{step}
use Rattle.guest_sys.specs.Machine.{fed}
use Rattle.guest_sys.specs.declared.answers.SysError.{SysError}
use Rattle.guest_run.specs.Guest.{GuestView, stepped, asks_next, ahead, while_running, beginning}
use Rattle.top_plan.specs.World.{World}
use Rattle.top_plan.specs.Texts.{Finished, WorkEnd}
use Rattle.top_plan.specs.Plan.{Plan, Ends, Turns, Turned, Went, Fetches}
use Rattle.top_plan.specs.declared.ends.Finish.{Finish}
use Rattle.top_plan.specs.declared.ends.Halt.TheVariants.{Outside, Memory}
use Rattle.elf_read.specs.Elf.{elf}
use Rattle.elf_read.specs.declared.exe.Exe.{Exe}
use Rattle.elf_read.specs.declared.exe.Reach.TheVariants.{Guest}
use Rattle.top_plan.specs.Parts.{checked}
use Rattle.top_files.specs.OriginalPart.{of_word}
use Rattle.top_plan.specs.declared.ends.Finish.TheVariants.{Done}
use Rattle.top_plan.specs.declared.ends.Halt.{Halt}
use Rattle.guest_sys.specs.declared.answers.SysError.TheVariants as sys
use Rattle.top_plan.specs.declared.ends.Finish.TheVariants as finishes
use Rattle.top_plan.specs.declared.ends.Object.TheVariants as objects

-- how many steps were taken, how many of them read an undefined flag, and what stands behind
abbrev pub counts_text : ℕ → ℕ → List ℕ → List ℕ
counts_text steps undefined rest = codes " steps " ++ (decimal steps ++ (codes " undefined " ++ (decimal undefined ++ rest)))

-- the word of a fault, and its address
abbrev pub fault_kind : GuestFault → List ℕ
fault_kind (Access at) = codes "access"
fault_kind (Illegal at) = codes "illegal"
fault_kind (Divide at) = codes "divide"

abbrev pub fault_address : GuestFault → ℕ
fault_address (Access at) = at
fault_address (Illegal at) = at
fault_address (Divide at) = at

-- how a guest stands
abbrev pub stand_text : RunState → List ℕ
stand_text Running = codes "budget"
stand_text (Exited status) = codes "exit " ++ decimal status
stand_text (Faulted fault) = codes "fault " ++ (fault_kind fault ++ (codes " " ++ digits_text B32 (fault_address fault)))

-- how a guest stands, the steps that it took, and how many of them read an undefined flag
abbrev pub last_line : RunState → ℕ → ℕ → List ℕ
last_line stop steps undefined = stand_text stop ++ counts_text steps undefined (codes "\n")

-- how the work of a guest that stands so is done
abbrev pub finish_of : RunState → Finish
finish_of Running = finishes.Budget
finish_of (Exited status) = finishes.Done
finish_of (Faulted fault) = finishes.Fault

-- the end of the work, by how the guest stands and its counts
abbrev pub finished : RunState → ℕ → ℕ → Finished
finished stop steps undefined = record { finish = finish_of stop; line = Some (last_line stop steps undefined) }

-- what a step from s to t does with the streams
abbrev pub turn : State → State → Turned
turn s t = record { left = t.input; printed = t.out; reported = t.err; asked = asks_next s; spare = ahead t }

-- the guest after a step, with this input left
abbrev pub next_guest : GuestView → List ℕ → GuestView
next_guest g left = stepped g (fed left g.state) 0 (step (fed left g.state) 0)

-- the turn of that step
abbrev pub next_turn : GuestView → List ℕ → Turned
next_turn g left = turn (fed left g.state) (step (fed left g.state) 0)

-- the guest takes no more steps
abbrev pub stands : GuestView → Plan
stands g = Ends (Ok (finished g.state.stop g.steps g.undefined))

-- the guest takes at most n steps, as long as it runs
unfoldable pub guest_plan : ℕ → GuestView → Plan
guest_plan zero g = stands g
guest_plan (suc n) g = while_running g.state.stop (Turns (next_turn g) (λ left. guest_plan n (next_guest g left))) (stands g)

-- how the work ends where a step failed
abbrev pub halt_of_error : SysError → Halt
halt_of_error sys.Input = Outside objects.Input
halt_of_error sys.Out = Outside objects.Output
halt_of_error sys.Report = Outside objects.Report
halt_of_error sys.Memory = Memory

-- The guest took turns: where this answers Ok the run goes on as the guest stands then, else it ends with the halt.
abbrev pub TakesTurns : ℕ → GuestView → World → Result (Unit {0}) Halt → GuestView → World → Type 0
TakesTurns n g s (Ok _) h t = (o : WorkEnd) (u : World) → Went (stands h) t o u → Went (guest_plan n g) s o u
TakesTurns n g s (Err halt) h t = Went (guest_plan n g) s (Err halt) t

-- a guest is fetched and read
abbrev pub guest_part : List ℕ → ℕ → (Exe → Plan) → Plan
guest_part name word next = Fetches name GUEST_FILE_LIMIT (λ bytes. checked (of_word word (elf Guest bytes)) next)

-- a guest is read, and takes at most so many steps
abbrev pub run_plan : ℕ → List ℕ → List (List ℕ) → ℕ → Plan
run_plan steps name args word = guest_part name word (λ exe. guest_plan steps (beginning exe args))

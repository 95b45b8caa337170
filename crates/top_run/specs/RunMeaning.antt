-- What `run` does, in a user's words.
use Rattle.std.specs.Prelude.{◌≡◌, ◌+◌, ℕ, List, [], ◌++◌, Option, Some, None, Result, Ok, Err}
use Rattle.elf_read.specs.declared.limits.TheConstants.{GUEST_FILE_LIMIT}
use Rattle.std.specs.Option.{option_map}
use Rattle.br_outside.specs.Files.{Files}
use Rattle.elf_read.specs.Elf.{elf, Refused}
use Rattle.elf_read.specs.declared.exe.Exe.{Exe}
use Rattle.elf_read.specs.declared.exe.Reach.TheVariants.{Guest}
use Rattle.br_word.specs.State.{State}
use Rattle.run_model.specs.Opening.{opening, arguments}
use Rattle.run_model.specs.Run.{run}
use Rattle.guest_run.specs.Guest.{ahead, steps_taken, undefined_taken}
use Rattle.top_plan.specs.World.{World}
use Rattle.top_plan.specs.Texts.{finish_status}
use Rattle.top_plan.specs.Expected.{LeavesBut}
use Rattle.top_files.specs.Answers.{Says, Unstored, UnlessBroken, IsAbsent, IsRefused, UnlessLong}
use Rattle.top_run.specs.RunPlan.{finish_of, last_line}

-- The steps up to a state have shown this, and then a line was reported; of the input a read that faults may have taken more.
pub record HasShown (u : State) (line : List ℕ) (s t : World) : Type 0 where
  pub out : t.out.bytes ≡ option_map (λ written. written ++ u.out) s.out.bytes
  pub report : Says (u.err ++ line) s t
  pub input : LeavesBut (ahead u) u.input t.input.bytes

-- the line of a run of at most n steps
abbrev pub line_after : ℕ → State → List ℕ
line_after n start = last_line (run n start []).stop (steps_taken n start) (undefined_taken n start)

-- what a run of at most n steps from an opening has done where nothing failed, by its state at the end
pub record HasRun (n : ℕ) (start : State) (s : World) (result : ℕ) (t : World) : Type 0 where
  pub status : result ≡ finish_status (finish_of (run n start []).stop)
  pub shown : HasShown (run n start []) (line_after n start) s t
  pub shelf : Unstored s t

-- by what the file is as a guest
abbrev pub RunsRead : ℕ → List (List ℕ) → ℕ → List ℕ → Result Exe Refused → World → ℕ → World → Type 0
RunsRead n args word left (Ok exe) s result t = HasRun n (opening exe (arguments args) left) s result t
RunsRead n args word left (Err refused) s result t = IsRefused word refused.number refused.place s result t

-- by the content of the name
abbrev pub RunsContent : ℕ → List (List ℕ) → ℕ → List ℕ → Option (List ℕ) → World → ℕ → World → Type 0
RunsContent n args word left None s result t = IsAbsent s result t
RunsContent n args word left (Some content) s result t =
    UnlessLong GUEST_FILE_LIMIT content (RunsRead n args word left (elf Guest content) s result t) s result t

-- What `run` does over a shelf and an input that tell, unless memory is wanting or an object fails: `word` is the position of
-- the word of the file.
abbrev pub MeansRun : ℕ → List ℕ → List (List ℕ) → ℕ → World → ℕ → World → Type 0
MeansRun n name args word s result t = (files : Files) (left : List ℕ) → s.shelf.files ≡ Some files → s.input.bytes ≡ Some left →
    UnlessBroken (RunsContent n args word left (files name) s result t) s result t

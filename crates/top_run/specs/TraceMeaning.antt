-- What `trace` does, in a user's words.
use Rattle.std.specs.Prelude.{◌≡◌, ◌<◌, ◌≤◌, ◌+◌, ℕ, List, [], length, Option, Some, None, Result, Ok, Err}
use Rattle.elf_read.specs.declared.limits.TheConstants.{ORIGINAL_FILE_LIMIT}
use Rattle.trace_file.specs.declared.limits.TheConstants.{FILE_EDGE_LIMIT}
use Rattle.br_outside.specs.Files.{Files, put}
use Rattle.elf_read.specs.Elf.{elf, Refused}
use Rattle.elf_read.specs.declared.exe.Exe.{Exe}
use Rattle.elf_read.specs.declared.exe.Reach.TheVariants.{Original}
use Rattle.sha2.specs.Sha256.{sha256}
use Rattle.br_word.specs.State.{State}
use Rattle.run_model.specs.Opening.{opening, arguments}
use Rattle.run_model.specs.Run.{run}
use Rattle.guest_run.specs.Guest.{steps_taken, undefined_taken}
use Rattle.trace_file.specs.Trace.{trace_bytes}
use Rattle.tracer.specs.TraceTold.{edges_in}
use Rattle.top_plan.specs.World.{World}
use Rattle.top_plan.specs.Texts.{cause_text, finish_status}
use Rattle.top_plan.specs.declared.ends.Cause.TheVariants.{Limited}
use Rattle.top_plan.specs.declared.ends.Limit.TheVariants as limits
use Rattle.top_files.specs.Answers.{Unstored, UnlessBroken, IsAbsent, IsRefused, UnlessLong}
use Rattle.top_run.specs.RunPlan.{finish_of}
use Rattle.top_run.specs.RunMeaning.{HasShown}
use Rattle.top_run.specs.TracePlan.{traced_line}

-- the line of a traced run of at most n steps
abbrev pub traced_after : ℕ → Exe → State → List ℕ
traced_after n exe start =
    traced_line (run n start []).stop (steps_taken n start) (undefined_taken n start) (length (edges_in exe start n))

-- at most n steps were taken, and their edges are stored
pub record HasTraced (target digest : List ℕ) (n : ℕ) (exe : Exe) (start : State) (files : Files)
    (s : World) (result : ℕ) (t : World) : Type 0 where
  pub status : result ≡ finish_status (finish_of (run n start []).stop)
  pub stored : t.shelf.files ≡ Some (put target (Some (trace_bytes (edges_in exe start n) digest)) files)
  pub shown : HasShown (run n start []) (traced_after n exe start) s t

-- the edges of the first k steps are too many
pub record HasFilled (k : ℕ) (start : State) (s : World) (result : ℕ) (t : World) : Type 0 where
  pub status : result ≡ 7
  pub shelf : Unstored s t
  pub shown : HasShown (run k start []) (cause_text (Limited (limits.Union FILE_EDGE_LIMIT))) s t

-- the edges of the first steps are not too many before the k-th
abbrev pub FewBefore : ℕ → Exe → State → Type 0
FewBefore k exe start = (j : ℕ) → j < k → length (edges_in exe start j) ≤ FILE_EDGE_LIMIT

-- by how many edges there are
pub record TracesExe (target digest : List ℕ) (n : ℕ) (exe : Exe) (start : State) (files : Files)
    (s : World) (result : ℕ) (t : World) : Type 0 where
  pub few : FewBefore (n + 1) exe start → HasTraced target digest n exe start files s result t
  pub full : (k : ℕ) → k ≤ n → FewBefore k exe start → FILE_EDGE_LIMIT < length (edges_in exe start k) → HasFilled k start s result t

-- by what the file is as an original
abbrev pub TracesRead : List ℕ → ℕ → List (List ℕ) → ℕ → List ℕ → List ℕ → Result Exe Refused → Files →
    World → ℕ → World → Type 0
TracesRead target n args word left content (Ok exe) files s result t =
    TracesExe target (sha256 content) n exe (opening exe (arguments args) left) files s result t
TracesRead target n args word left content (Err refused) files s result t = IsRefused word refused.number refused.place s result t

-- by the content of the name
abbrev pub TracesContent : List ℕ → ℕ → List (List ℕ) → ℕ → List ℕ → Option (List ℕ) → Files → World → ℕ → World → Type 0
TracesContent target n args word left None files s result t = IsAbsent s result t
TracesContent target n args word left (Some content) files s result t =
    UnlessLong ORIGINAL_FILE_LIMIT content (TracesRead target n args word left content (elf Original content) files s result t) s result t

-- What `trace` does over a shelf and an input that tell, unless memory is wanting or an object fails: `word` is the position of
-- the word of the original.
abbrev pub MeansTrace : ℕ → List ℕ → List ℕ → List (List ℕ) → ℕ → World → ℕ → World → Type 0
MeansTrace n target original args word s result t =
    (files : Files) (left : List ℕ) → s.shelf.files ≡ Some files → s.input.bytes ≡ Some left →
    UnlessBroken (TracesContent target n args word left (files original) files s result t) s result t

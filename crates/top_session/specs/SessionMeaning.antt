-- What the answers of `session` mean, in a user's words.
use Rattle.std.specs.Prelude.{◌≡◌, ◌⊎◌, ℕ, List, [], ◌++◌, All, Option, Some, None, Result, Ok, Err}
use Rattle.std.specs.Option.{option_map}
use Rattle.elf_read.specs.declared.exe.Exe.{Exe}
use Rattle.elf_read.specs.declared.exe.Reach.TheVariants.{Original}
use Rattle.elf_read.specs.declared.limits.TheConstants.{ORIGINAL_FILE_LIMIT}
use Rattle.elf_read.specs.Elf.{elf, Refused}
use Rattle.sha2.specs.Sha256.{sha256}
use Rattle.br_outside.specs.Files.{Files}
use Rattle.br_outside.specs.Outside.{SameBut}
use Rattle.trace_file.specs.Edges.{Edge}
use Rattle.session_core.specs.Session.{new_session}
use Rattle.sim_laws.specs.Preserves.{Preserves}
use Rattle.sim_laws.specs.Covers.{Covers}
use Rattle.code_layout.specs.Image.{image}
use Rattle.build_core.specs.ImageQuick.{KeepsPace}
use Rattle.top_plan.specs.World.{World}
use Rattle.top_plan.specs.Texts.{end_status, end_text}
use Rattle.top_plan.specs.Expected.{HasFailed}
use Rattle.top_plan.specs.Partial.{WroteFront}
use Rattle.top_plan.specs.declared.ends.Object.TheVariants as objects
use Rattle.top_files.specs.Answers.{Says, Unstored, UnlessBroken, IsAbsent, IsRefused, UnlessLong}
use Rattle.script_text.specs.Split.{lines_of}
use Rattle.top_session.specs.Sitting.{Sitting, Course, sitting}

-- before the first line
abbrev pub seated : Exe → Files → Sitting
seated exe files = record { files = files; session = new_session exe; printed = []; stored = [] }

-- the script of an original, as its lines come to it
abbrev pub course_of : Exe → List ℕ → Files → List ℕ → Course
course_of exe content files script = sitting (sha256 content) 0 (seated exe files) (lines_of script)

-- the image of the edges preserves the behaviour, runs no original instruction while a run keeps to them, and keeps pace
pub record IsSound (exe : Exe) (content : List ℕ) (edges : List Edge) : Type 0 where
  pub preserved : Preserves content (image exe edges)
  pub covered : Covers content (image exe edges) edges
  pub pace : KeepsPace content exe edges

-- The lines were done up to the first that could not be: status and report by how they end, files and output by what was done. Where
-- all were done, the input was taken to its end. Each file that was stored is sound.
pub record IsFollowed (exe : Exe) (content : List ℕ) (course : Course) (s : World) (result : ℕ) (t : World) : Type 0 where
  pub status : result ≡ end_status course.end
  pub shelf : t.shelf.files ≡ Some course.sat.files
  pub out : t.out.bytes ≡ option_map (λ written. written ++ course.sat.printed) s.out.bytes
  pub report : Says (end_text course.end) s t
  pub input : result ≡ 0 → t.input.bytes ≡ Some []
  pub sound : All (IsSound exe content) course.sat.stored

-- by what the file is as an original
abbrev pub FollowsExe : List ℕ → Result Exe Refused → Files → List ℕ → World → ℕ → World → Type 0
FollowsExe content (Ok exe) files script s result t = IsFollowed exe content (course_of exe content files script) s result t
FollowsExe content (Err refused) files script s result t = IsRefused 1 refused.number refused.place s result t

-- by the content of the original
abbrev pub FollowsContent : Option (List ℕ) → Files → List ℕ → World → ℕ → World → Type 0
FollowsContent None files script s result t = IsAbsent s result t
FollowsContent (Some content) files script s result t =
    UnlessLong ORIGINAL_FILE_LIMIT content (FollowsExe content (elf Original content) files script s result t) s result t

-- ---- whatever the status

-- the shelf holds these files, but for one name whose store failed
abbrev pub HoldsBut : Files → World → World → Type 0
HoldsBut files s t =
    (t.shelf.files ≡ Some files) ⊎ (HasFailed objects.Shelf s t × (name : List ℕ) × SameBut name (Some files) t.shelf.files)

-- so it holds what the lines have come to, and a front part of what they print was written
pub record IsLeft (sat : Sitting) (s t : World) : Type 0 where
  pub shelf : HoldsBut sat.files s t
  pub out : WroteFront sat.printed s.out.bytes t.out.bytes

-- this is left of the first of the lines behind q
abbrev pub AreFirst : List ℕ → ℕ → Sitting → List (List ℕ) → World → World → Type 0
AreFirst digest q sat lines s t =
    (front : List (List ℕ)) × (back : List (List ℕ)) × (lines ≡ front ++ back) × IsLeft (sitting digest q sat front).sat s t

-- the original was read, and this is left of the first lines of the script
pub record HasLeft (original : List ℕ) (files : Files) (script : List ℕ) (s t : World) : Type 0 where
  pub content : List ℕ
  pub exe : Exe
  pub there : files original ≡ Some content
  pub accepted : elf Original content ≡ Ok exe
  pub first : AreFirst (sha256 content) 0 (seated exe files) (lines_of script) s t

-- nothing was stored or printed
pub record IsUntouched (s t : World) : Type 0 where
  pub shelf : Unstored s t
  pub out : t.out.bytes ≡ s.out.bytes

-- What `session E` means, over a shelf and an input that tell: each status, unless memory is wanting or an object fails; and what
-- stays then on the shelf and on the output, whatever the status.
pub record MeansTold (original : List ℕ) (files : Files) (script : List ℕ) (s : World) (result : ℕ) (t : World) : Type 0 where
  pub done : UnlessBroken (FollowsContent (files original) files script s result t) s result t
  pub left : IsUntouched s t ⊎ HasLeft original files script s t

abbrev pub MeansSession : List ℕ → World → ℕ → World → Type 0
MeansSession original s result t = (files : Files) (script : List ℕ) → s.shelf.files ≡ Some files → s.input.bytes ≡ Some script
    → MeansTold original files script s result t

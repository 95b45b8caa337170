-- What a plan comes to over objects that tell what they hold, where nothing fails, and what this says of a run.
use Rattle.std.specs.Prelude.{◌≡◌, ◌⊎◌, ◌<◌, ◌≤◌, ◌+◌, ◌-◌, ◌^◌, nat_le, ℕ, List, [], ◌∷◌, ◌++◌, length, drop}
use Rattle.std.specs.Prelude.{Option, Some, None, Err, cond, IsTrue}
use Rattle.std.specs.Option.{option_map}
use Rattle.br_outside.specs.Files.{Files, put}
use Rattle.br_outside.specs.Outside.{Rose}
use Rattle.top_plan.specs.World.{World, faults_of, calm_of}
use Rattle.top_plan.specs.declared.pieces.TheConstants.{PIECE_LENGTH}
use Rattle.top_plan.specs.Plan.{Plan, Ends, Fetches, Stores, Prints, Turned, Turns, Script, planned_end}
use Rattle.top_plan.specs.Texts.{WorkEnd, end_text, end_status, object_text}
use Rattle.top_plan.specs.declared.ends.Halt.TheVariants.{Because, Outside}
use Rattle.top_plan.specs.declared.ends.Cause.TheVariants.{Limited}
use Rattle.top_plan.specs.declared.ends.Limit.TheVariants as limits
use Rattle.top_plan.specs.declared.ends.Object.{Object}
use Rattle.top_plan.specs.declared.ends.Object.TheVariants as objects

-- what is stored, and under which name
pub record Store : Type 0 where
  pub name : List ℕ
  pub bytes : List ℕ

-- the end of the work, the files then, the input left, and what was stored, printed and reported until then
pub record Ending : Type 0 where
  pub end : WorkEnd
  pub files : Files
  pub stored : List Store
  pub left : List ℕ
  -- how many more bytes of the input may be taken, at most
  pub spare : ℕ
  pub printed : List ℕ
  pub reported : List ℕ

-- the work ends here: nothing was stored, printed or reported before
abbrev pub ends_with : WorkEnd → Files → List ℕ → Ending
ends_with end files left = record { end = end; files = files; stored = []; left = left; spare = 0; printed = []; reported = [] }

-- by the content of the name: it is not there, is too long, or the work goes on with it
abbrev pub after_fetch : ℕ → (List ℕ → Ending) → Files → List ℕ → Option (List ℕ) → Ending
after_fetch limit next files left None = ends_with (Err (Outside objects.Shelf)) files left
after_fetch limit next files left (Some bytes) =
    cond (nat_le (length bytes) limit) (next bytes) (ends_with (Err (Because (Limited (limits.File limit)))) files left)

-- the same behind a file that was stored, a text that was printed, and a turn
abbrev pub stored_before : List ℕ → List ℕ → Ending → Ending
stored_before name bytes e = record e { stored = record { name = name; bytes = bytes } ∷ e.stored }

-- behind a text that was printed
abbrev pub printed_before : List ℕ → Ending → Ending
printed_before text e = record e { printed = text ++ e.printed }

-- behind a turn
abbrev pub turned_before : Turned → Ending → Ending
turned_before d e = record e { spare = d.spare + e.spare; printed = d.printed ++ e.printed; reported = d.reported ++ e.reported }

-- within a script
abbrev pub scripted : Ending → Ending
scripted e = record e { spare = e.spare + PIECE_LENGTH }

-- what the plan comes to over these files, with this input left
unfoldable pub expected : Plan → Files → List ℕ → Ending
expected (Ends end) files left = ends_with (planned_end end) files left
expected (Fetches name limit next) files left = after_fetch limit (λ bytes. expected (next bytes) files left) files left (files name)
expected (Stores name bytes next) files left = stored_before name bytes (expected next (put name (Some bytes) files) left)
expected (Prints text next) files left = printed_before text (expected next files left)
expected (Turns turn next) files left = turned_before (turn left) (expected (next left) files (turn left).left)
expected (Script within) files left = scripted (expected within files left)

-- the plan asks nothing of the shelf
unfoldable pub NoFiles : Plan → Type 0
NoFiles (Ends end) = Unit {0}
NoFiles (Fetches name limit next) = ⊥
NoFiles (Stores name bytes next) = ⊥
NoFiles (Prints text next) = NoFiles next
NoFiles (Turns turn next) = (left : List ℕ) → NoFiles (next left)
NoFiles (Script within) = NoFiles within

-- the plan asks nothing of the input
unfoldable pub NoInput : Plan → Type 0
NoInput (Ends end) = Unit {0}
NoInput (Fetches name limit next) = (bytes : List ℕ) → NoInput (next bytes)
NoInput (Stores name bytes next) = NoInput next
NoInput (Prints text next) = NoInput next
NoInput (Turns turn next) = ⊥
NoInput (Script within) = ⊥

-- each turn of the plan is so, by what it does, what the input has left before it, and the plan behind it
unfoldable pub AllTurns : (Turned → List ℕ → Plan → Type 0) → Plan → Type 0
AllTurns P (Ends end) = Unit {0}
AllTurns P (Fetches name limit next) = (bytes : List ℕ) → AllTurns P (next bytes)
AllTurns P (Stores name bytes next) = AllTurns P next
AllTurns P (Prints text next) = AllTurns P next
AllTurns P (Turns turn next) = (left : List ℕ) → AllTurns P (next left) × P (turn left) left (next left)
AllTurns P (Script within) = AllTurns P within

-- A turn after which more of the input may be taken than it uses is the last one that reads.
abbrev pub IsSparing : Plan → Type 0
IsSparing = AllTurns (λ turned left rest. (turned.spare ≡ 0) ⊎ NoInput rest)

-- The objects that the plan asks tell these contents.
pub record IsTold (plan : Plan) (files : Files) (left : List ℕ) (s : World) : Type 0 where
  pub shelf : NoFiles plan ⊎ (s.shelf.files ≡ Some files)
  pub input : NoInput plan ⊎ (s.input.bytes ≡ Some left)

-- an object that is not calm has failed
pub record HasFailed (x : Object) (s t : World) : Type 0 where
  pub rose : Rose (faults_of x s) (faults_of x t)
  pub loud : IsTrue (calm_of x s) → ⊥

-- what is left of the input, but that some bytes more may be taken
abbrev pub LeavesBut : ℕ → List ℕ → Option (List ℕ) → Type 0
LeavesBut spare left bytes = (more : ℕ) × (more ≤ spare) × (bytes ≡ Some (drop more left))

-- The whole call did as expected: the status, the files, the input, the output and the report.
pub record IsWhole (files : Files) (left : List ℕ) (e : Ending) (s : World) (result : ℕ) (t : World) : Type 0 where
  pub status : result ≡ end_status e.end
  pub shelf : s.shelf.files ≡ Some files → t.shelf.files ≡ Some e.files
  pub input : s.input.bytes ≡ Some left → LeavesBut e.spare e.left t.input.bytes
  pub out : t.out.bytes ≡ option_map (λ written. written ++ e.printed) s.out.bytes
  pub report : t.report.bytes ≡ option_map (λ written. written ++ (e.reported ++ end_text e.end)) s.report.bytes
  pub rose : e.end ≡ Err (Outside objects.Shelf) → Rose s.shelf.faults t.shelf.faults

-- as expected, unless memory was wanting or an object failed
abbrev pub Decided : Files → List ℕ → Ending → World → ℕ → World → Type 0
Decided files left e s result t = (result ≡ 4) ⊎ ((result ≡ 3) × (x : Object) × HasFailed x s t) ⊎ IsWhole files left e s result t

-- Where the objects that the plan asks tell what they hold, this decides the answer and what it leaves.
abbrev pub IsExact : Plan → World → ℕ → World → Type 0
IsExact plan s result t =
    (files : Files) (left : List ℕ) → IsTold plan files left s → Decided files left (expected plan files left) s result t

-- the counts are what they were, and below their greatest value
abbrev pub IsUnchanged : World → World → Type 0
IsUnchanged s t = (x : Object) → (faults_of x t ≡ faults_of x s) × (faults_of x s < 2 ^ 64 - 1)

-- all objects are calm, and each name that is fetched is there at its turn
pub record IsCalm (e : Ending) (s : World) : Type 0 where
  pub calm : (x : Object) → IsTrue (calm_of x s)
  pub there : e.end ≡ Err (Outside objects.Shelf) → ⊥

-- all was done as expected, and each name that is fetched was there; or memory was wanting
abbrev pub Completed : Files → List ℕ → Ending → World → ℕ → World → Type 0
Completed files left e s result t = (result ≡ 4) ⊎ (IsWhole files left e s result t × (e.end ≡ Err (Outside objects.Shelf) → ⊥))

-- Where no count rose, or all is calm and there, all was done as expected, unless memory was wanting.
abbrev pub IsComplete : Plan → World → ℕ → World → Type 0
IsComplete plan s result t =
    (files : Files) (left : List ℕ) → IsTold plan files left s → IsUnchanged s t ⊎ IsCalm (expected plan files left) s
    → Completed files left (expected plan files left) s result t

-- what was written grew by something and then this text
abbrev pub EndsWith : List ℕ → Option (List ℕ) → Option (List ℕ) → Type 0
EndsWith text old new = (before : List ℕ) × (new ≡ option_map (λ written. written ++ (before ++ text)) old)

-- Status 3 comes only where the count of an object rose: of the report, or of the one that the last report line names.
abbrev pub HasCause : World → ℕ → World → Type 0
HasCause s result t = result ≡ 3 → Rose s.report.faults t.report.faults
    ⊎ ((x : Object) × Rose (faults_of x s) (faults_of x t) × EndsWith (object_text x) s.report.bytes t.report.bytes)

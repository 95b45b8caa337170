-- What a command has done, in a user's words.
use Rattle.std.specs.Prelude.{◌≡◌, ◌⊎◌, ◌<◌, ◌≤◌, ℕ, List, ◌++◌, length, Some}
use Rattle.std.specs.Option.{option_map}
use Rattle.br_outside.specs.Files.{Files, put}
use Rattle.br_outside.specs.Outside.{SameBut}
use Rattle.top_plan.specs.World.{World}
use Rattle.top_plan.specs.Texts.{cause_text, object_text}
use Rattle.top_plan.specs.Expected.{HasFailed}
use Rattle.top_plan.specs.declared.ends.Cause.TheVariants.{RefusedWord, Limited}
use Rattle.top_plan.specs.declared.ends.Object.{Object}
use Rattle.top_plan.specs.declared.ends.Object.TheVariants as objects
use Rattle.top_plan.specs.declared.ends.Limit.{Limit}
use Rattle.top_plan.specs.declared.ends.Limit.TheVariants as limits

-- the report grew by this line, and no more
abbrev pub Says : List ℕ → World → World → Type 0
Says line s t = t.report.bytes ≡ option_map (λ written. written ++ line) s.report.bytes

-- no name changed
abbrev pub Unstored : World → World → Type 0
Unstored s t = t.shelf.files ≡ s.shelf.files

-- no other name changed
abbrev pub OnlyUnder : List ℕ → World → World → Type 0
OnlyUnder name s t = Unstored s t ⊎ SameBut name s.shelf.files t.shelf.files

-- unless memory is wanting or an object fails
abbrev pub UnlessBroken : Type 0 → World → ℕ → World → Type 0
UnlessBroken Done s result t = (result ≡ 4) ⊎ (((result ≡ 3) × (x : Object) × HasFailed x s t) ⊎ Done)

-- nothing was done but that a line was reported
pub record OnlySays (k : ℕ) (line : List ℕ) (s : World) (result : ℕ) (t : World) : Type 0 where
  pub status : result ≡ k
  pub report : Says line s t
  pub shelf : Unstored s t
  pub input : t.input.bytes ≡ s.input.bytes
  pub out : t.out.bytes ≡ s.out.bytes

-- there is no such name
abbrev pub IsAbsent : World → ℕ → World → Type 0
IsAbsent = OnlySays 3 (object_text objects.Shelf)

-- the file of this word is refused with this number, for this place in it
abbrev pub IsRefused : ℕ → ℕ → ℕ → World → ℕ → World → Type 0
IsRefused word number place = OnlySays 2 (cause_text (RefusedWord word number place))

-- a limit is passed
abbrev pub IsPast : Limit → World → ℕ → World → Type 0
IsPast limit = OnlySays 7 (cause_text (Limited limit))

-- a content of at most this many bytes is read, and means so; a longer one passes the limit
abbrev pub UnlessLong : ℕ → List ℕ → Type 0 → World → ℕ → World → Type 0
UnlessLong limit content Read s result t =
    (length content ≤ limit → Read) × (limit < length content → IsPast (limits.File limit) s result t)

-- the bytes were stored under a name, and a line was reported; nothing else was done
pub record HasStored (name bytes line : List ℕ) (files : Files) (s : World) (result : ℕ) (t : World) : Type 0 where
  pub status : result ≡ 0
  pub stored : t.shelf.files ≡ Some (put name (Some bytes) files)
  pub report : Says line s t
  pub input : t.input.bytes ≡ s.input.bytes
  pub out : t.out.bytes ≡ s.out.bytes

-- What is seen of the objects of the outside, and what their calls do to it.
use Rattle.std.specs.Prelude.{◌≡◌, ◌<◌, ◌≤◌, ◌+◌, ◌-◌, ◌^◌, ℕ, min, List, [], ◌++◌, length, take, drop}
use Rattle.std.specs.Prelude.{Option, Some, None, IfSome, Result, Ok, Err, Bool, IsTrue}
use Rattle.std.specs.Option.{option_map}
use Rattle.br_outside.specs.Files.{Files, put}
use Rattle.br_outside.specs.declared.errors.ShelfError.{ShelfError}
use Rattle.br_outside.specs.declared.errors.ShelfError.TheVariants as shelf_errors
use Rattle.br_outside.specs.declared.errors.StoreError.{StoreError}
use Rattle.br_outside.specs.declared.errors.StoreError.TheVariants as store_errors
use Rattle.br_outside.specs.declared.errors.SinkError.{SinkError}
use Rattle.br_outside.specs.declared.errors.SinkError.TheVariants as sink_errors
use Rattle.br_outside.specs.declared.errors.Failed.{Failed}

-- a shelf: its files, where it tells them, its count of faults, and whether it tells that it is calm
pub record ShelfView : Type 0 where
  pub files : Option Files
  pub faults : ℕ
  pub calm : Bool

-- a source by what it has left, or a sink by what was written
pub record StreamView : Type 0 where
  pub bytes : Option (List ℕ)
  pub faults : ℕ
  pub calm : Bool

-- the count rose, or stands at its greatest value
abbrev pub Rose : ℕ → ℕ → Type 0
Rose before now = min (before + 1) (2 ^ 64 - 1) ≤ now

-- A fetch gives the content of the name, or tells why not. Only a fault raises the count.
abbrev pub FetchGives : List ℕ → ℕ → Result (List ℕ) ShelfError → ShelfView → ShelfView → Type 0
FetchGives name limit (Ok bytes) old new =
    (length bytes ≤ limit) × IfSome old.files (λ files. files name ≡ Some bytes) × (new.faults ≡ old.faults)
FetchGives name limit (Err shelf_errors.Failed) old new =
    Rose old.faults new.faults × (IsTrue old.calm → IfSome old.files (λ files. files name ≡ None))
FetchGives name limit (Err shelf_errors.TooLong) old new =
    IfSome old.files (λ files. (bytes : List ℕ) × (files name ≡ Some bytes) × (limit < length bytes)) × (new.faults ≡ old.faults)
FetchGives name limit (Err shelf_errors.Memory) old new =
    IfSome old.files (λ files. (bytes : List ℕ) × (files name ≡ Some bytes) × (length bytes ≤ limit)) × (new.faults ≡ old.faults)

-- what a call of fetch does: no content changes, and the count never falls
pub record Fetched (name : List ℕ) (limit : ℕ) (answer : Result (List ℕ) ShelfError) (old new : ShelfView) : Type 0 where
  pub same : new.files ≡ old.files
  pub calm : new.calm ≡ old.calm
  pub later : old.faults ≤ new.faults
  pub bounded : new.faults < 2 ^ 64
  pub gives : FetchGives name limit answer old new

-- the files tell on, and are the same but for this name
abbrev pub SameBut : List ℕ → Option Files → Option Files → Type 0
SameBut name old new = (content : Option (List ℕ)) × (new ≡ option_map (put name content) old)

-- a store makes the bytes the content of the name, or tells why not
abbrev pub StoreGives : List ℕ → List ℕ → Result (Unit {0}) StoreError → ShelfView → ShelfView → Type 0
StoreGives name bytes (Ok _) old new =
    (new.files ≡ option_map (put name (Some bytes)) old.files) × (new.faults ≡ old.faults)
StoreGives name bytes (Err store_errors.Failed) old new =
    SameBut name old.files new.files × Rose old.faults new.faults × (IsTrue old.calm → ⊥)
StoreGives name bytes (Err store_errors.Memory) old new =
    (new.files ≡ old.files) × (new.faults ≡ old.faults)

-- what a call of store does
pub record Stored (name bytes : List ℕ) (answer : Result (Unit {0}) StoreError) (old new : ShelfView) : Type 0 where
  pub calm : new.calm ≡ old.calm
  pub later : old.faults ≤ new.faults
  pub bounded : new.faults < 2 ^ 64
  pub gives : StoreGives name bytes answer old new

-- the first n bytes of these are in the piece and gone from what is left
abbrev pub Gone : ℕ → List ℕ → List ℕ → List ℕ → Option (List ℕ) → Type 0
Gone n before after left rest =
    (left ≡ take n after ++ drop n left) × (rest ≡ Some (drop n left)) × (n ≡ 0 → 0 < length before → left ≡ [])

-- a take gives the first bytes that are left; 0 of a piece that is not empty means the end
abbrev pub TakeGives : List ℕ → List ℕ → Result ℕ Failed → StreamView → StreamView → Type 0
TakeGives before after (Ok n) old new =
    (n ≤ length before) × (drop n after ≡ drop n before)
    × IfSome old.bytes (λ left. Gone n before after left new.bytes) × (new.faults ≡ old.faults)
TakeGives before after (Err _) old new =
    (after ≡ before) × (new.bytes ≡ old.bytes) × Rose old.faults new.faults × (IsTrue old.calm → ⊥)

-- what a call of take does to the piece, which was `before` and is `after`, and to the source
pub record Took (before after : List ℕ) (answer : Result ℕ Failed) (old new : StreamView) : Type 0 where
  pub calm : new.calm ≡ old.calm
  pub later : old.faults ≤ new.faults
  pub bounded : new.faults < 2 ^ 64
  pub gives : TakeGives before after answer old new

-- a give appends the piece; one that failed appended a prefix of it
abbrev pub GiveGives : List ℕ → Result (Unit {0}) SinkError → StreamView → StreamView → Type 0
GiveGives piece (Ok _) old new =
    (new.bytes ≡ option_map (λ written. written ++ piece) old.bytes) × (new.faults ≡ old.faults)
GiveGives piece (Err sink_errors.Failed) old new =
    ((n : ℕ) × (new.bytes ≡ option_map (λ written. written ++ take n piece) old.bytes))
    × Rose old.faults new.faults × (IsTrue old.calm → ⊥)
GiveGives piece (Err sink_errors.Memory) old new =
    (new.bytes ≡ old.bytes) × (new.faults ≡ old.faults)

-- what a call of give does
pub record Gave (piece : List ℕ) (answer : Result (Unit {0}) SinkError) (old new : StreamView) : Type 0 where
  pub calm : new.calm ≡ old.calm
  pub later : old.faults ≤ new.faults
  pub bounded : new.faults < 2 ^ 64
  pub gives : GiveGives piece answer old new

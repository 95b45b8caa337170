-- Trace files: which are accepted, what an accepted one says, and what is written.
use Rattle.std.specs.Prelude.{◌≡◌, ℕ, zero, suc, ◌+◌, ◌*◌, ◌≤◌, ◌<◌, ◌^◌, Bool, true, not, nat_eq, nat_lt, if◌then◌else◌, List, [], ◌∷◌, ◌++◌, length, take, drop, codes, Option, Some, None, Result, Ok, Err, All}
use Rattle.std.specs.Str.{bytes_eq}
use Rattle.byteorder.specs.Endian.{little_number, little_bytes}
use Rattle.trace_file.specs.declared.limits.TheConstants.{FILE_EDGE_LIMIT}
use Rattle.trace_file.specs.Edges.{Edge, before, ascends}

-- ---- the format

-- the bytes with which a trace file begins
abbrev pub magic : List ℕ
magic = codes "BRTRACE1"

-- a number of four bytes, the lowest first
unfoldable pub word : ℕ → List ℕ
word v = little_bytes 4 v

-- the number of four bytes at an offset
unfoldable pub word_at : ℕ → List ℕ → ℕ
word_at at bytes = little_number 4 (drop at bytes)

-- how many bytes a record has
abbrev pub record_size : ℕ
record_size = 8

-- the edge in the record at an offset: its site and its target
abbrev pub record_at : ℕ → List ℕ → Edge
record_at at bytes = (word_at at bytes, word_at (at + 4) bytes)

-- the record of an edge
abbrev pub record_bytes : Edge → List ℕ
record_bytes e = word e.0 ++ word e.1

-- so many records, from a place on
abbrev pub records : ℕ → ℕ → List ℕ → List Edge
records zero at bytes = []
records (suc n) at bytes = record_at at bytes ∷ records n (at + record_size) bytes

-- the digest in a file: 32 bytes behind the magic
abbrev pub stored_digest : List ℕ → List ℕ
stored_digest bytes = take 32 (drop 8 bytes)

-- how many records a file says it has
abbrev pub count_of : List ℕ → ℕ
count_of bytes = word_at 40 bytes

-- the records of a file, in its order
abbrev pub records_of : List ℕ → List Edge
records_of bytes = records (count_of bytes) 44 bytes

-- where the last record ends
abbrev pub end_of : List ℕ → ℕ
end_of bytes = 44 + record_size * count_of bytes

-- ---- what is refused

-- a refusal: its number, from 21 to 26, and its place in the file
pub record Refused : Type 0 where
  pub number : ℕ
  pub place : ℕ

-- a place, where a test holds
abbrev pub place_if : Bool → ℕ → Option ℕ
place_if b place = if b then Some place else None

-- the place of the first byte of a list, from `at` on, that another list does not have
abbrev pub first_difference : ℕ → List ℕ → List ℕ → Option ℕ
first_difference at [] found = None
first_difference at (b ∷ bs) [] = Some at
first_difference at (b ∷ bs) (c ∷ found) = if nat_eq b c then first_difference (at + 1) bs found else Some at

-- the place of the first record that is not above the one before it; the edge is of the record before `at`
abbrev pub disorder_after : Edge → ℕ → List Edge → Option ℕ
disorder_after a at [] = None
disorder_after a at (b ∷ bs) = if before a b then disorder_after b (at + record_size) bs else Some at

-- the place of the first record that is not above the one before it, of records that begin at `at`
abbrev pub disorder : ℕ → List Edge → Option ℕ
disorder at [] = None
disorder at (a ∷ es) = disorder_after a (at + record_size) es

-- refused with a number where there is a place for it, else by what comes later
abbrev pub refuse : ℕ → Option ℕ → Option Refused → Option Refused
refuse number (Some place) later = Some (record { number = number; place = place })
refuse number None later = later

-- the refusals from the order of the records on
abbrev pub late_refusal : List ℕ → Option Refused
late_refusal bytes =
    refuse 24 (disorder 44 (records_of bytes))
    (refuse 25 (place_if (nat_lt (end_of bytes) (length bytes)) (end_of bytes)) None)

-- the refusals before those, and what comes later
abbrev pub early_refusal : List ℕ → List ℕ → Option Refused → Option Refused
early_refusal bytes digest later =
    refuse 21 (first_difference 0 magic bytes)
    (refuse 23 (place_if (nat_lt (length bytes) 44) (length bytes))
    (refuse 22 (place_if (not (bytes_eq (stored_digest bytes) digest)) 8)
    (refuse 26 (place_if (nat_lt FILE_EDGE_LIMIT (count_of bytes)) 40)
    (refuse 23 (place_if (nat_lt (length bytes) (end_of bytes)) (length bytes)) later))))

-- the first refusal, in the order of the checks
abbrev pub refusal : List ℕ → List ℕ → Option Refused
refusal bytes digest = early_refusal bytes digest (late_refusal bytes)

-- the edges, or the refusal
abbrev pub unless_refused : Option Refused → List Edge → Result (List Edge) Refused
unless_refused None es = Ok es
unless_refused (Some r) es = Err r

-- the edges of a file that is a trace of the executable with this digest, or its refusal
unfoldable pub trace : List ℕ → List ℕ → Result (List Edge) Refused
trace bytes digest = unless_refused (refusal bytes digest) (records_of bytes)

-- ---- what is written

-- the records of edges, one behind another
abbrev pub all_record_bytes : List Edge → List ℕ
all_record_bytes [] = []
all_record_bytes (e ∷ es) = record_bytes e ++ all_record_bytes es

-- the trace file of edges and a digest
unfoldable pub trace_bytes : List Edge → List ℕ → List ℕ
trace_bytes es digest = magic ++ (digest ++ (word (length es) ++ all_record_bytes es))

-- both addresses are numbers of 32 bits
abbrev pub AreWords : Edge → Type 0
AreWords e = (e.0 < 2 ^ 32) × (e.1 < 2 ^ 32)

-- of what a trace may be written
pub record IsWritable (es : List Edge) (digest : List ℕ) : Type 0 where
  pub order : ascends es ≡ true
  pub count : length es ≤ FILE_EDGE_LIMIT
  pub words : All AreWords es
  pub whole : length digest ≡ 32

-- what is written reads, with the same digest, as the same edges
abbrev pub ReadsBack : Type 0
ReadsBack = (es : List Edge) (digest : List ℕ) → IsWritable es digest → trace (trace_bytes es digest) digest ≡ Ok es

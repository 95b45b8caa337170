-- A session: live traces of an original, and what the last emit that succeeded left.
use Rattle.std.specs.Prelude.{ℕ, ◌+◌, nat_eq, Bool, true, false, ◌&&◌, ◌||◌, if◌then◌else◌, List, [], ◌∷◌}
use Rattle.elf_read.specs.declared.exe.Exe.{Exe}
use Rattle.run_model.specs.Edges.{Edge}
use Rattle.trace_file.specs.Edges.{union_of}
use Rattle.trace_set.specs.Traces.{Traces, sets_of}
use Rattle.ssa_form.specs.declared.form.BlockKey.{BlockKey}
use Rattle.code_layout.specs.Keys.{keys_of}

-- what a session is: its original, the live traces by number, the number of the next one, the keys of the last emit that succeeded,
-- and how many fragments that emit made
pub record SessionView : Type 0 where
  pub exe : Exe
  pub traces : List (ℕ × List Edge)
  pub next : ℕ
  pub keys : List BlockKey
  pub compiled : ℕ

-- a new one
abbrev pub new_session : Exe → SessionView
new_session exe = record { exe = exe; traces = []; next = 1; keys = []; compiled = 0 }

-- its live traces as a set of traces, and the session with others
abbrev pub traces_in : SessionView → Traces
traces_in s = record { traces = s.traces; next = s.next }

abbrev pub with_traces : SessionView → Traces → SessionView
with_traces s ts = record { exe = s.exe; traces = ts.traces; next = ts.next; keys = s.keys; compiled = s.compiled }

-- the union of live traces
abbrev pub edges_in : Traces → List Edge
edges_in ts = union_of (sets_of ts.traces)

-- of those of a session
abbrev pub live_edges : SessionView → List Edge
live_edges s = union_of (sets_of s.traces)

-- ---- keys

-- two keys have the same exits, each with the same live set
abbrev pub same_exits : List (ℕ × ℕ) → List (ℕ × ℕ) → Bool
same_exits [] [] = true
same_exits (a ∷ more) (b ∷ rest) = (nat_eq a.0 b.0 && nat_eq a.1 b.1) && same_exits more rest
same_exits [] (b ∷ rest) = false
same_exits (a ∷ more) [] = false

-- two keys are equal
abbrev pub same_key : BlockKey → BlockKey → Bool
same_key a b = nat_eq a.start b.start && same_exits a.exits b.exits

-- a key is among these
abbrev pub is_kept : BlockKey → List BlockKey → Bool
is_kept key [] = false
is_kept key (k ∷ keys) = same_key k key || is_kept key keys

-- how many of the later keys are not among the old ones
abbrev pub fresh : List BlockKey → List BlockKey → ℕ
fresh old [] = 0
fresh old (key ∷ keys) = (if is_kept key old then 0 else 1) + fresh old keys

-- ---- emits

-- the keys of what is live now
abbrev pub live_keys : SessionView → List BlockKey
live_keys s = keys_of s.exe (live_edges s)

-- how many fragments an emit makes
abbrev pub to_make : SessionView → ℕ
to_make s = fresh s.keys (live_keys s)

-- the session after an emit that succeeded
abbrev pub emitted_from : SessionView → SessionView
emitted_from s =
    record { exe = s.exe; traces = s.traces; next = s.next; keys = live_keys s; compiled = to_make s }

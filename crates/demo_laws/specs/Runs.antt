-- The run of the demonstration without words and input.
use Rattle.std.specs.Prelude.{◌≡◌, ℕ, zero, suc, ◌+◌, ◌-◌, ◌*◌, ◌%◌, ◌^◌, ◌<◌, ◌≤◌, Bool, if◌then◌else◌, List, [], ◌∷◌, ◌++◌}
use Rattle.br_word.specs.State.{Running, Exited}
use Rattle.br_word.specs.Words.{sign_bit}
use Rattle.elf_write.specs.File.{word}
use Rattle.run_model.specs.Edges.{Edge, edges_of}
use Rattle.run_model.specs.Run.{Observation, run_of, observed_of, IsWellDefinedRun}
use Rattle.elf_flat.specs.Flat.{flat_entry}
use Rattle.demo_gen.specs.Demonstration.{demo_file}
use Rattle.demo_laws.specs.Sites.{call_site, function_site, number_added}

-- ---- what the functions do to eax

-- the sum that function i makes
abbrev pub sum_of : ℕ → ℕ → ℕ → ℕ
sum_of count i eax = (eax + number_added count i) % 2 ^ 32

-- all bits are inverted where it is not negative
abbrev pub or_inverted : ℕ → ℕ
or_inverted sum = if sign_bit 32 sum then sum else 2 ^ 32 - 1 - sum

-- eax after the first i functions
abbrev pub eax_after : ℕ → ℕ → ℕ
eax_after count zero = count
eax_after count (suc i) = or_inverted (sum_of count i (eax_after count i))

-- ---- where control goes

-- the second block of a function: the RET where the sum is negative, and the NOT before it elsewhere
abbrev pub second_site : ℕ → ℕ → Bool → ℕ
second_site count i negative = function_site count i + (if negative then 10 else 8)

-- whether the sum of function i is negative
abbrev pub is_negative : ℕ → ℕ → Bool
is_negative count i = sign_bit 32 (sum_of count i (eax_after count i))

-- the edges of call i: to the function, in it, and back
abbrev pub call_edges : ℕ → ℕ → List Edge
call_edges count i =
    (call_site i, function_site count i)
    ∷ (function_site count i + 6, second_site count i (is_negative count i))
    ∷ (function_site count i + 10, call_site (suc i)) ∷ []

-- the edges of the first i calls
abbrev pub edges_after : ℕ → ℕ → List Edge
edges_after count zero = []
edges_after count (suc i) = edges_after count i ++ call_edges count i

-- all edges, from the pair that says that the run began
abbrev pub demo_edges : ℕ → List Edge
demo_edges count = (0, flat_entry) ∷ edges_after count count

-- ---- the run

-- what it shows in the end: the four bytes of eax after all functions, and status 0
abbrev pub demo_observed : ℕ → Observation
demo_observed count = record { out = word (eax_after count count); err = []; input = []; stop = Exited 0 }

-- it is well defined, exits after so many steps and not before, and shows and records no more afterwards
pub record IsDemoRun (count : ℕ) : Type 0 where
  pub defined : (n : ℕ) → IsWellDefinedRun (demo_file count) [] [] n
  pub steps : ℕ
  pub few : steps ≤ 10 + 5 * count
  pub before : (n : ℕ) → n < steps → (run_of (demo_file count) [] [] [] n).stop ≡ Running
  pub shown : (n : ℕ) → steps ≤ n → observed_of (demo_file count) [] [] [] n ≡ demo_observed count
  pub edges : (n : ℕ) → steps ≤ n → edges_of (demo_file count) [] [] n ≡ demo_edges count

-- with any number of functions from 1 to 1000
abbrev pub DemoRuns : Type 0
DemoRuns = (count : ℕ) → 1 ≤ count → count ≤ 1000 → IsDemoRun count

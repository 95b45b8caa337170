-- Where the parts of recovered code stand.
use Rattle.std.specs.Prelude.{◌≡◌, ℕ, ◌+◌, ◌≤◌, true, List, length}
use Rattle.br_word.specs.Memory.{Region}
use Rattle.elf_read.specs.declared.exe.Exe.{Exe}
use Rattle.ia_encode.specs.Items.{size_of_items, AreDistinct, AreValid}
use Rattle.run_model.specs.Edges.{Edge}
use Rattle.code_layout.specs.declared.place.TheConstants.{CODE_START, MAX_CODE}
use Rattle.code_layout.specs.Keys.{keys_of}
use Rattle.code_layout.specs.Linked.{has_key, itself, code_of}
use Rattle.sim_runs.specs.Recovered.{is_start_of}
use Rattle.sim_runs.specs.Pieces.{IsLinked}
use Rattle.image_laws.specs.Coded.{start_items, entry_of, address_of, goes_with, coded_of}
use Rattle.image_laws.specs.Linked.{BeginsLinked, HasFragments}

-- Keys are those of starts, the code at the entry stands first, and the fragment of each start at its address.
pub record CodeStands : Type 0 where
  pub known : (exe : Exe) (edges : List Edge) (x : ℕ) → has_key (keys_of exe edges) x ≡ is_start_of exe edges x
  pub entry : (exe : Exe) (edges : List Edge) (out : ℕ → ℕ) (code : Region) → BeginsLinked exe edges out code
      → IsLinked code (goes_with out exe edges) CODE_START (entry_of exe edges)
  pub fragment : (exe : Exe) (edges : List Edge) (out : ℕ → ℕ) (code : Region) → BeginsLinked exe edges out code
      → (x : ℕ) → is_start_of exe edges x ≡ true
      → AreValid (start_items exe edges x) → AreDistinct (start_items exe edges x)
      → IsLinked code (goes_with out exe edges) (address_of exe edges x) (start_items exe edges x)
  -- they lie in the code
  pub inside : (exe : Exe) (edges : List Edge) (out : ℕ → ℕ) (code : Region) → BeginsLinked exe edges out code
      → (x : ℕ) → is_start_of exe edges x ≡ true
      → address_of exe edges x + size_of_items (start_items exe edges x) ≤ code.start + length code.bytes
  -- of the file of an executable and edges, in which each address of the original lies at itself
  pub bytes : (exe : Exe) (edges : List Edge) → (coded_of exe edges).code.bytes ≡ code_of exe edges
  pub built : (exe : Exe) (edges : List Edge) → length (code_of exe edges) ≤ MAX_CODE
      → HasFragments exe edges itself (coded_of exe edges)

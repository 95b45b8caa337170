-- One step of the search for cold starts: the set that is found, and the list of those whose ways are still to be met.
use Rattle.std.specs.Prelude.{◌≡◌, ℕ, ◌+◌, ◌<◌, ◌≤◌, ◌⊎◌, ◌↔◌, true, List, ◌++◌, Contains, length, option_to_list}
use Rattle.elf_read.specs.declared.exe.Exe.{Exe}
use Rattle.cold_set.specs.declared.ways.Ways.{Ways}
use Rattle.std.specs.Ordering.{nat_cmp}
use Rattle.std.specs.BTreeSet.{BTreeSet, IsOrdered}
use Rattle.cold_set.specs.declared.error.TheConstants.{MAX_COLD}
use Rattle.cold_set.specs.ColdStarts.{is_free, cold_list}

-- the addresses of ways
abbrev pub ways_in : Ways → List ℕ
ways_in w = option_to_list w.first ++ option_to_list w.second

-- of some addresses those that are free and not found join the set and the list
pub record Meets (exe : Exe) (starts met found todo found' todo' : List ℕ) : Type 0 where
  pub keeps : (x : ℕ) → Contains found x → Contains found' x
  pub stays : (x : ℕ) → Contains todo x → Contains todo' x
  pub has : (x : ℕ) → Contains met x → is_free exe starts x ≡ true → Contains found' x
  pub only : (x : ℕ) → Contains found' x → Contains found x ⊎ (Contains met x × (is_free exe starts x ≡ true))
  pub from : (x : ℕ) → Contains todo' x → Contains todo x ⊎ (Contains met x × (is_free exe starts x ≡ true))
  pub listed : (x : ℕ) → Contains found' x → Contains found x ⊎ Contains todo' x
  pub grows : length found ≤ length found'
  pub few : length found' ≤ length found + length met
  pub both : length todo' + length found ≡ length todo + length found'

-- more than there may be are found, all of them cold starts
pub record IsMany (exe : Exe) (starts : List ℕ) (found : BTreeSet ℕ) : Type 0 where
  pub ordered : IsOrdered nat_cmp found
  pub many : MAX_COLD < length found.keys
  pub sound : (x : ℕ) → Contains found.keys x → Contains (cold_list exe starts) x

-- just the cold starts are found
abbrev pub IsFound : Exe → List ℕ → BTreeSet ℕ → Type 0
IsFound exe starts found = (x : ℕ) → Contains found.keys x ↔ Contains (cold_list exe starts) x

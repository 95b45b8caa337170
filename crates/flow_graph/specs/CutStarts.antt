-- Starts that are found one after another, each with the cut of its block.
use Rattle.std.specs.Prelude.{◌≡◌, ℕ, Bool, is_some, List, map, Some, IsTrue}
use Rattle.std.specs.Ordering.{nat_cmp}
use Rattle.std.specs.BTreeMap.{BTreeMap, get}
use Rattle.elf_read.specs.declared.exe.Exe.{Exe}
use Rattle.elf_read.specs.Elf.{is_exec}
use Rattle.block_cut.specs.declared.ends.Cut.{Cut}
use Rattle.block_cut.specs.Blocks.{block_of, cut_of, follow_of}

-- a start in code, with the cut of its block
pub record IsCutBlock (exe : Exe) (b : ℕ × Cut) : Type 0 where
  pub code : IsTrue (is_exec b.0 exe.segments)
  pub cut : b.1 ≡ cut_of b.0 (block_of exe b.0)

-- the starts of blocks in a list
abbrev pub starts_with : List (ℕ × Cut) → List ℕ
starts_with blocks = map (λ (b : ℕ × Cut). b.0) blocks

-- ---- in a map from starts to cuts

abbrev pub has_start : BTreeMap ℕ Cut → ℕ → Bool
has_start blocks s = is_some (get nat_cmp blocks s)

-- each has the cut of its block
abbrev pub AreCut : Exe → BTreeMap ℕ Cut → Type 0
AreCut exe blocks = (s : ℕ) (c : Cut) → get nat_cmp blocks s ≡ Some c → IsCutBlock exe (s, c)

-- the following start of each is there too
abbrev pub FollowEach : Exe → BTreeMap ℕ Cut → Type 0
FollowEach exe blocks = (s t : ℕ) → IsTrue (has_start blocks s) → follow_of exe s ≡ Some t → IsTrue (has_start blocks t)

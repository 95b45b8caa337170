-- Cold starts: the addresses from which a run may leave recovered code without an indirect transfer of a recovered block, and
-- those to which such a way leads on.
use Rattle.std.specs.Prelude.{◌≡◌, ℕ, zero, suc, ◌+◌, ◌^◌, Bool, true, ◌&&◌, not, List, [], ◌∷◌, ◌++◌, filter, Contains}
use Rattle.std.specs.List.Sorted.{IsStrictlyIncreasing}
use Rattle.elf_read.specs.declared.exe.Exe.{Exe}
use Rattle.elf_read.specs.Elf.{IsGuest, is_exec}
use Rattle.ia_inst.specs.declared.inst.Inst.{Inst}
use Rattle.ia_inst.specs.declared.inst.Inst.TheVariants.{Call, CallRm}
use Rattle.ia_inst.specs.Meaning.{wrap}
use Rattle.ia_inst.specs.Step.{Found, NoCode, NoInst, There}
use Rattle.block_cut.specs.Places.{found_at}
use Rattle.block_cut.specs.Transfers.{direct_targets, is_among}
use Rattle.block_cut.specs.declared.ends.End.{End}
use Rattle.block_cut.specs.declared.ends.End.TheVariants as ends
use Rattle.block_cut.specs.declared.ends.Cut.{Cut}
use Rattle.block_cut.specs.Blocks.{block_of, cut_of}
use Rattle.cold_cut.specs.declared.ends.ColdEnd.{ColdEnd}
use Rattle.cold_cut.specs.declared.ends.ColdEnd.TheVariants.{Transfers, Unreadable, Full}
use Rattle.cold_cut.specs.declared.ends.ColdCut.{ColdCut}
use Rattle.cold_cut.specs.ColdBlocks.{cold_of, cold_cut_of}
use Rattle.flow_graph.specs.GraphOf.{with_starts}

-- ---- ways

-- the address behind a call, to which its return leads
abbrev pub behind_call : Inst → ℕ → List ℕ
behind_call (Call rel) next = next ∷ []
behind_call (CallRm a) next = next ∷ []
behind_call _ next = []

-- the direct targets of what is found at an address, and the address behind a call
abbrev pub leads_on : Found → ℕ → List ℕ
leads_on NoCode at = []
leads_on NoInst at = []
leads_on (There i n) at = direct_targets i n at ++ behind_call i (wrap (at + n))

-- where the block of a start goes on, as far as no following start does: its transfer's ways, or the place of unreadable bytes
abbrev pub leaves_by : Exe → ℕ → Cut → End → List ℕ
leaves_by exe start c ends.Transfer = leads_on (found_at exe c.last) c.last
leaves_by exe start c ends.Unreadable = (start + c.len) ∷ []
leaves_by exe start c _ = []

abbrev pub leaves : Exe → ℕ → List ℕ
leaves exe start = leaves_by exe start (cut_of start (block_of exe start)) (cut_of start (block_of exe start)).end

-- where the cold block of a start goes on: its transfer's ways, or the address after 64 instructions
abbrev pub ways_by : Exe → ℕ → ColdCut → ColdEnd → List ℕ
ways_by exe start c Transfers = leads_on (found_at exe c.last) c.last
ways_by exe start c Full = (start + c.len) ∷ []
ways_by exe start c Unreadable = []

abbrev pub ways : Exe → ℕ → List ℕ
ways exe start = ways_by exe start (cold_cut_of start (cold_of exe start)) (cold_cut_of start (cold_of exe start)).end

-- ---- the least set, beside the starts of blocks

-- an address in code that is no start
abbrev pub is_free : Exe → List ℕ → ℕ → Bool
is_free exe starts x = is_exec x exe.segments && not (is_among starts x)

-- the addresses that each gives, one after another
abbrev pub each_gives : (ℕ → List ℕ) → List ℕ → List ℕ
each_gives f [] = []
each_gives f (x ∷ xs) = f x ++ each_gives f xs

-- the entry, and where the blocks go on
abbrev pub roots : Exe → List ℕ → List ℕ
roots exe starts = exe.entry ∷ each_gives (leaves exe) starts

-- where the cold blocks of addresses go on
abbrev pub all_ways : Exe → List ℕ → List ℕ
all_ways exe xs = each_gives (ways exe) xs

-- a set has the roots, and the ways of each of its members, as far as they are free
pub record IsColdClosed (exe : Exe) (starts : List ℕ) (Has : ℕ → Type 0) : Type 0 where
  pub begins : (x : ℕ) → Contains (roots exe starts) x → is_free exe starts x ≡ true → Has x
  pub goes_on : (x y : ℕ) → Has x → Contains (ways exe x) y → is_free exe starts y ≡ true → Has y

-- the roots, so many times joined with the ways of all
unfoldable pub cold_rounds : Exe → List ℕ → ℕ → List ℕ
cold_rounds exe starts zero = with_starts (filter (is_free exe starts) (roots exe starts)) []
cold_rounds exe starts (suc n) = let xs = cold_rounds exe starts n in with_starts (filter (is_free exe starts) (all_ways exe xs)) xs

-- as many times as there are addresses
unfoldable pub cold_list : Exe → List ℕ → List ℕ
cold_list exe starts = cold_rounds exe starts (2 ^ 32)

-- that list ascends, and has the members of the least closed set, all free
pub record AreColdLeast (exe : Exe) (starts : List ℕ) : Type 0 where
  pub ascend : IsStrictlyIncreasing (cold_list exe starts)
  pub free : (x : ℕ) → Contains (cold_list exe starts) x → is_free exe starts x ≡ true
  pub closed : IsColdClosed exe starts (Contains (cold_list exe starts))
  pub least : (p : ℕ → Bool) → IsColdClosed exe starts (λ x. p x ≡ true) → (x : ℕ) → Contains (cold_list exe starts) x → p x ≡ true

abbrev pub ColdLeast : Type 0
ColdLeast = (exe : Exe) (starts : List ℕ) → IsGuest exe → AreColdLeast exe starts

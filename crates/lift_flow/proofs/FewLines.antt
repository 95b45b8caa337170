-- A block has few lines, and is checked, since each instruction keeps it so.
use Rattle.std.proofs.Common.{◌≡◌, ℕ, ◌+◌, ◌*◌, ◌≤◌, true, List, [], ◌∷◌, length, refl, arith}
use Rattle.block_cut.specs.declared.ends.End.{End}
use Rattle.block_cut.specs.declared.ends.End.TheVariants.{Transfer, Island, BeforeIsland, Unreadable, Full}
use Rattle.block_cut.specs.Places.{Placed}
use Rattle.block_cut.specs.Blocks.{block_of}
use Rattle.ssa_form.specs.declared.form.Block.{Block}
use Rattle.ssa_form.specs.Checked.{checked}
use Rattle.lift_alu.specs.Lifted.{lifted}
use Rattle.lift_alu.specs.Means.{EachHasFew, EachStaysChecked}
use Rattle.lift_flow.specs.LiftedBlock.{blank, lifted_all, lifted_to, lift_of}
use Rattle.lift_flow.specs.FewLines.{FewLines}

module _ (few : EachHasFew) (stays : EachStaysChecked) where
  all_few : (is : List Placed) (b : Block) → length (lifted_all is b).lines ≤ length b.lines + 32 * length is
  all_few [] b = omega arith
  all_few (p ∷ ps) b =
      let q = all_few ps (lifted p.inst p.at p.size b) in
      let r = few p.inst p.at p.size b in
      omega (arith, q, r)

  all_checked : (is : List Placed) (b : Block) → checked b ≡ true → checked (lifted_all is b) ≡ true
  all_checked [] b h = h
  all_checked (p ∷ ps) b h = all_checked ps (lifted p.inst p.at p.size b) (stays p.inst p.at p.size b h)

  few_by : (e : End) (is : List Placed) (start : ℕ) → length (lifted_to e is start).lines ≤ 32 * length is
  few_by Transfer is start = let q = all_few is (blank start) in omega (arith, q)
  few_by Island is start = omega arith
  few_by BeforeIsland is start = let q = all_few is (blank start) in omega (arith, q)
  few_by Unreadable is start = let q = all_few is (blank start) in omega (arith, q)
  few_by Full is start = let q = all_few is (blank start) in omega (arith, q)

  checked_by : (e : End) (is : List Placed) (start : ℕ) → checked (lifted_to e is start) ≡ true
  checked_by Transfer is start = all_checked is (blank start) refl
  checked_by Island is start = refl
  checked_by BeforeIsland is start = all_checked is (blank start) refl
  checked_by Unreadable is start = all_checked is (blank start) refl
  checked_by Full is start = all_checked is (blank start) refl

  pub few_lines : FewLines
  unfolding lift_of
  few_lines = record {
    few = λ exe start. few_by (block_of exe start).end (block_of exe start).insts start;
    whole = λ exe start. checked_by (block_of exe start).end (block_of exe start).insts start;
  }

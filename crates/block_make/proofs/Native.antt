-- A native instruction: what stands at the start of its block.
use Rattle.std.proofs.Common.{◌≡◌, ℕ, suc, ◌+◌, ◌<◌, ◌≤◌, List, [], ◌∷◌, length, Option, Some, None, refl, sym, ap, ◌∙◌, subst, arith}
use Rattle.std.proofs.lemmas.List.Sums.{sum_by-cons}
use Rattle.elf_read.specs.declared.exe.Exe.{Exe}
use Rattle.ia_inst.specs.declared.inst.Inst.{Inst}
use Rattle.ia_inst.specs.Step.{There}
use Rattle.block_cut.specs.declared.ends.End.{End}
use Rattle.block_cut.specs.declared.ends.End.TheVariants as end
use Rattle.block_cut.specs.Places.{Placed, found_at, inst_found}
use Rattle.block_cut.specs.Blocks.{BasicBlock, StandFrom, IsBlock, EndsSo, size_of, block_of, EachHasOneBlock}
use Rattle.ssa_form.specs.declared.form.Val.{Val}
use Rattle.ssa_form.specs.declared.form.Block.{Block}
use Rattle.ssa_form.specs.declared.form.Exit.{Exit}
use Rattle.ssa_form.specs.declared.form.Exit.TheVariants as exits
use Rattle.lift_alu.specs.Lifted.{Leaving, Onward, Either, Away, leaving_of, exit_by, lifted}
use Rattle.lift_flow.specs.LiftedBlock.{blank, lifted_all, lifted_to, lift_of}

leaves : (l : Leaving) (vals : ℕ → Val) (n : ℕ) → exit_by l vals ≡ exits.Island n → ⊥
leaves (Onward to) vals n e = cc
leaves (Either taken next) vals n e = cc
leaves Away vals n e = cc

lifted_leaves : (i : Inst) (at m : ℕ) (b : Block) (n : ℕ) → (lifted i at m b).exit ≡ exits.Island n → ⊥
unfolding lifted
lifted_leaves i at m b n e = leaves (leaving_of i _) _ n e

all_leave : (is : List Placed) (b : Block) (n : ℕ) → (b.exit ≡ exits.Island n → ⊥) → (lifted_all is b).exit ≡ exits.Island n → ⊥
all_leave [] b n h e = h e
all_leave (p ∷ is) b n h e = all_leave is (lifted p.inst p.at p.size b) n (lifted_leaves p.inst p.at p.size b n) e

blank_leaves : (start n : ℕ) → (blank start).exit ≡ exits.Island n → ⊥
blank_leaves start n e = leaves (Onward start) (λ k. Rattle.ssa_form.specs.declared.form.Val.TheVariants.Num 0) n e

record Ends (e : End) (is : List Placed) (n : ℕ) : Type 0 where
  pub island : e ≡ end.Island
  pub size : size_of is ≡ n

same_size : (m n : ℕ) → ◌≡◌ {A = Exit} (exits.Island m) (exits.Island n) → m ≡ n
same_size m n e = cc

ends_so : (e : End) (is : List Placed) (start n : ℕ) → (lifted_to e is start).exit ≡ exits.Island n → Ends e is n
ends_so end.Transfer is start n q = absurd (all_leave is (blank start) n (blank_leaves start n) q)
ends_so end.Island is start n q = record { island = refl; size = same_size (size_of is) n q }
ends_so end.BeforeIsland is start n q = absurd (all_leave is (blank start) n (blank_leaves start n) q)
ends_so end.Unreadable is start n q = absurd (all_leave is (blank start) n (blank_leaves start n) q)
ends_so end.Full is start n q = absurd (all_leave is (blank start) n (blank_leaves start n) q)

native_ends : (exe : Exe) (start n : ℕ) → (lift_of exe start).exit ≡ exits.Island n → Ends (block_of exe start).end (block_of exe start).insts n
unfolding lift_of
native_ends exe start n q = ends_so (block_of exe start).end (block_of exe start).insts start n q

one_placed : (exe : Exe) (start n : ℕ) (is : List Placed) → length is ≡ 1 → StandFrom exe start is → size_of is ≡ n → (i : Inst) × (found_at exe start ≡ There i n)
one_placed exe start n [] c s z = absurd (omega arith)
one_placed exe start n (p ∷ []) c s z =
    let e : p.size ≡ n = omega (arith, sum_by-cons (λ (q : Placed). q.size) p [], z) in
    (p.inst, s.1 ∙ ap (λ (k : ℕ). There p.inst k) e)
one_placed exe start n (p ∷ q ∷ is) c s z = absurd (omega arith)

pub native_found : EachHasOneBlock → (exe : Exe) (start n : ℕ) → (lift_of exe start).exit ≡ exits.Island n → (i : Inst) × (inst_found (found_at exe start) ≡ Some (i, n))
native_found one exe start n q =
    let b = block_of exe start in
    let w = (one exe start b).1 refl in
    let e = native_ends exe start n q in
    let c = (subst (λ (x : End). EndsSo exe (start + size_of b.insts) b.insts x) e.island w.ends).1 in
    let p = one_placed exe start n b.insts c w.stand e.size in
    (p.0, ap inst_found p.1)

pub same_len : (i j : Inst) (n m : ℕ) → ◌≡◌ {A = Option (Inst × ℕ)} (Some (i, n)) (Some (j, m)) → n ≡ m
same_len i j n m q = let e : ◌≡◌ {A = Inst × ℕ} (i, n) (j, m) = cc in ap (λ (x : Inst × ℕ). x.1) e

pub not_found : (x : Inst × ℕ) → ◌≡◌ {A = Option (Inst × ℕ)} None (Some x) → ⊥
not_found x e = cc

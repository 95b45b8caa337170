-- The instructions of a block are lifted one behind the other.
use Rattle.std.proofs.Common.{◌≡◌, ◌≢◌, ℕ, zero, suc, ◌+◌, ◌<◌, ◌≤◌, List, [], ◌∷◌, length, drop, get_or, Option, Some, None, refl, sym, ap, ◌∙◌, subst, add-one, arith}
use Rattle.std.proofs.Math.Seq.{drop-cons}
use Rattle.std.proofs.lemmas.List.Sums.{sum_by-cons}
use Rattle.elf_read.specs.declared.exe.Exe.{Exe}
use Rattle.ia_inst.specs.declared.inst.Inst.{Inst}
use Rattle.ia_inst.specs.declared.inst.Inst.TheVariants.{Nop}
use Rattle.ia_inst.specs.Step.{There}
use Rattle.block_cut.specs.declared.ends.End.{End}
use Rattle.block_cut.specs.declared.ends.End.TheVariants.{Transfer, Island, BeforeIsland, Unreadable, Full}
use Rattle.block_cut.specs.Places.{Placed, found_at, inst_found}
use Rattle.block_cut.specs.Blocks.{BasicBlock, StandFrom, IsBlock, EndsSo, size_of, block_of, EachHasOneBlock}
use Rattle.ssa_form.specs.declared.form.Block.{Block}
use Rattle.lift_alu.specs.Lifted.{lifted}
use Rattle.ssa_form.specs.declared.form.Val.TheVariants.{Num}
use Rattle.ssa_form.specs.Same.{IsWord, SpellsWords}
use Rattle.lift_flow.specs.LiftedBlock.{params, blank, lifted_all, lifted_to, lift_of}

nothing : Placed
nothing = record { at = 0; inst = Nop; size = 0 }

-- ---- the instruction that comes next
pub record Left (exe : Exe) (at : ℕ) (is : List Placed) (b whole : Block) : Type 0 where
  pub rest : lifted_all is b ≡ whole
  pub stand : StandFrom exe at is

pub same_inst : (i j : Inst) (n m : ℕ) → ◌≡◌ {A = Option (Inst × ℕ)} (Some (i, n)) (Some (j, m)) → i ≡ j
same_inst i j n m q = let e : ◌≡◌ {A = Inst × ℕ} (i, n) (j, m) = cc in ap (λ (x : Inst × ℕ). x.0) e

pub same_size : (i j : Inst) (n m : ℕ) → ◌≡◌ {A = Option (Inst × ℕ)} (Some (i, n)) (Some (j, m)) → n ≡ m
same_size i j n m q = let e : ◌≡◌ {A = Inst × ℕ} (i, n) (j, m) = cc in ap (λ (x : Inst × ℕ). x.1) e

next_left : (exe : Exe) (at : ℕ) (p : Placed) (is : List Placed) (b c whole : Block) (i : Inst) (n : ℕ) → ◌≡◌ {A = Option (Inst × ℕ)} (Some (i, n)) (inst_found (found_at exe at)) → c ≡ lifted i at n b → lifted_all (p ∷ is) b ≡ whole → StandFrom exe at (p ∷ is) → Left exe (at + n) is c whole
next_left exe at p is b c whole i n q l h s =
    let f : ◌≡◌ {A = Option (Inst × ℕ)} (Some (i, n)) (Some (p.inst, p.size)) = q ∙ ap inst_found s.1 in
    let j = same_inst i p.inst n p.size f in
    let m = same_size i p.inst n p.size f in
    let same : c ≡ lifted p.inst p.at p.size b =
    l ∙ ap (λ (x : Inst). lifted x at n b) j ∙ ap (λ (x : ℕ). lifted p.inst at x b) m ∙ ap (λ (a : ℕ). lifted p.inst a p.size b) (sym s.0) in
    record {
      rest = ap (λ (d : Block). lifted_all is d) same ∙ h;
      stand = subst (λ (x : ℕ). StandFrom exe (at + x) is) (sym m) s.2;
    }

split : (k : ℕ) (is : List Placed) → k < length is → drop k is ≡ get_or is k nothing ∷ drop (k + 1) is
split k is l = drop-cons is k nothing l ∙ ap (λ j. get_or is k nothing ∷ drop j is) (sym (add-one k))

pub goes_on : (exe : Exe) (at k : ℕ) (is : List Placed) (b c whole : Block) (i : Inst) (n : ℕ) → k < length is → ◌≡◌ {A = Option (Inst × ℕ)} (Some (i, n)) (inst_found (found_at exe at)) → c ≡ lifted i at n b → lifted_all (drop k is) b ≡ whole → StandFrom exe at (drop k is) → Left exe (at + n) (drop (k + 1) is) c whole
goes_on exe at k is b c whole i n l q m h s =
    let e = split k is l in
    next_left exe at (get_or is k nothing) (drop (k + 1) is) b c whole i n q m (subst (λ xs. lifted_all xs b ≡ whole) e h) (subst (λ xs. StandFrom exe at xs) e s)

-- before the end of the block an instruction stands there
there : (exe : Exe) (at : ℕ) (p : Placed) (is : List Placed) → ◌≡◌ {A = Option (Inst × ℕ)} None (inst_found (found_at exe at)) → StandFrom exe at (p ∷ is) → ⊥
there exe at p is q s = let e : ◌≡◌ {A = Option (Inst × ℕ)} None (Some (p.inst, p.size)) = q ∙ ap inst_found s.1 in cc

pub stands_there : (exe : Exe) (at k : ℕ) (is : List Placed) → k < length is → ◌≡◌ {A = Option (Inst × ℕ)} None (inst_found (found_at exe at)) → StandFrom exe at (drop k is) → ⊥
stands_there exe at k is l q s = there exe at (get_or is k nothing) (drop (k + 1) is) q (subst (λ xs. StandFrom exe at xs) (split k is l) s)

-- ---- the block of a start
pub block_is : EachHasOneBlock → (exe : Exe) (start : ℕ) → IsBlock exe start (block_of exe start)
block_is one exe start = (one exe start (block_of exe start)).1 refl

ends_count : (exe : Exe) (next : ℕ) (is : List Placed) (e : End) → EndsSo exe next is e → length is ≤ 64
ends_count exe next is Transfer h = h.1
ends_count exe next is Island h = let c = h.1 in omega arith
ends_count exe next is BeforeIsland h = let c = h.2 in omega arith
ends_count exe next is Unreadable h = let c = h.1 in omega arith
ends_count exe next is Full h = let c = h.1 in omega arith

pub block_count : EachHasOneBlock → (exe : Exe) (start : ℕ) → length (block_of exe start).insts ≤ 64
block_count one exe start = ends_count exe _ (block_of exe start).insts (block_of exe start).end (block_is one exe start).ends

lifted_plain : (e : End) (is : List Placed) (start : ℕ) → e ≢ Island → lifted_to e is start ≡ lifted_all is (blank start)
lifted_plain Transfer is start n = refl
lifted_plain Island is start n = absurd (n refl)
lifted_plain BeforeIsland is start n = refl
lifted_plain Unreadable is start n = refl
lifted_plain Full is start n = refl

pub plain_is : (exe : Exe) (start : ℕ) (b : Block) → (block_of exe start).end ≢ Island → b ≡ lifted_all (block_of exe start).insts (blank start) → b ≡ lift_of exe start
unfolding lift_of
plain_is exe start b n q = q ∙ sym (lifted_plain (block_of exe start).end (block_of exe start).insts start n)

-- ---- a native instruction
one_placed : (exe : Exe) (start : ℕ) (is : List Placed) → length is ≡ 1 → StandFrom exe start is → (p : Placed) × (is ≡ p ∷ []) × (found_at exe start ≡ There p.inst p.size)
one_placed exe start [] c s = absurd (omega arith)
one_placed exe start (p ∷ []) c s = (p, refl, s.1)
one_placed exe start (p ∷ q ∷ is) c s = absurd (omega arith)

pub record IsNative (exe : Exe) (start : ℕ) (n : ℕ) : Type 0 where
  pub inst : Inst
  pub found : found_at exe start ≡ There inst n
  pub size : size_of (block_of exe start).insts ≡ n

native_ends : (exe : Exe) (start : ℕ) (b : BasicBlock) → IsBlock exe start b → b.end ≡ Island → length b.insts ≡ 1
native_ends exe start b w e = (subst (λ x. EndsSo exe (start + size_of b.insts) b.insts x) e w.ends).1

pub native_is : EachHasOneBlock → (exe : Exe) (start : ℕ) → (block_of exe start).end ≡ Island → (n : ℕ) × IsNative exe start n
native_is one exe start e =
    let w = block_is one exe start in
    let p = one_placed exe start (block_of exe start).insts (native_ends exe start (block_of exe start) w e) w.stand in
    (p.0.size, record { inst = p.0.inst; found = p.2; size = ap size_of p.1 ∙ sum_by-cons (λ q. q.size) p.0 [] ∙ omega arith })

pub lifted_native : (exe : Exe) (start n : ℕ) → (block_of exe start).end ≡ Island → size_of (block_of exe start).insts ≡ n → record (blank start) { exit = Rattle.ssa_form.specs.declared.form.Exit.TheVariants.Island n } ≡ lift_of exe start
unfolding lift_of
lifted_native exe start n e q =
    sym (ap (λ x. lifted_to x (block_of exe start).insts start) e ∙ ap (λ m. record (blank start) { exit = Rattle.ssa_form.specs.declared.form.Exit.TheVariants.Island m }) q)

-- ---- what a block without lines spells out
params_words : (v : ℕ) → IsWord (get_or params v (Num 0))
params_words zero = tt
params_words (suc zero) = tt
params_words (suc (suc zero)) = tt
params_words (suc (suc (suc zero))) = tt
params_words (suc (suc (suc (suc zero)))) = tt
params_words (suc (suc (suc (suc (suc zero))))) = tt
params_words (suc (suc (suc (suc (suc (suc zero)))))) = tt
params_words (suc (suc (suc (suc (suc (suc (suc zero))))))) = tt
params_words (suc (suc (suc (suc (suc (suc (suc (suc zero)))))))) = tt
params_words (suc (suc (suc (suc (suc (suc (suc (suc (suc zero))))))))) = tt
params_words (suc (suc (suc (suc (suc (suc (suc (suc (suc (suc zero)))))))))) = tt
params_words (suc (suc (suc (suc (suc (suc (suc (suc (suc (suc (suc zero))))))))))) = tt
params_words (suc (suc (suc (suc (suc (suc (suc (suc (suc (suc (suc (suc zero)))))))))))) = tt
params_words (suc (suc (suc (suc (suc (suc (suc (suc (suc (suc (suc (suc (suc zero))))))))))))) = tt
params_words (suc (suc (suc (suc (suc (suc (suc (suc (suc (suc (suc (suc (suc (suc v)))))))))))))) = omega arith

pub blank_words : (start : ℕ) → SpellsWords (blank start)
blank_words start = record { lines = tt; outs = params_words }

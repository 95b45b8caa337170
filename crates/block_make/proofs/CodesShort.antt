-- No fragment is longer than its block and its known exits make it.
use Rattle.std.proofs.Common.{◌≡◌, ℕ, ◌+◌, ◌*◌, ◌≤◌, Bool, true, false, List, [], ◌∷◌, length, Option, None, Some, refl, sym, ◌∙◌, arith, length-append}
use Rattle.std.specs.Prelude.{if◌then◌else◌}
use Rattle.elf_read.specs.declared.exe.Exe.{Exe}
use Rattle.elf_read.specs.Elf.{is_exec}
use Rattle.elf_read.specs.Code.{code_at}
use Rattle.ia_inst.specs.declared.inst.Inst.{Inst}
use Rattle.ia_inst.specs.Instructions.{decode_of}
use Rattle.ia_inst.specs.Step.{NoCode, found_from}
use Rattle.ia_encode.specs.declared.item.Dest.{Dest}
use Rattle.ia_encode.specs.declared.item.Item.{Item}
use Rattle.ia_encode.specs.Items.{size_of_item, size_of_items, dest_at}
use Rattle.block_cut.specs.Places.{found_at, inst_found}
use Rattle.block_cut.specs.Blocks.{block_of, EachHasOneBlock}
use Rattle.ssa_form.specs.declared.form.TheConstants.{REGISTERS}
use Rattle.ssa_form.specs.declared.form.Val.{Val}
use Rattle.ssa_form.specs.declared.form.Exit.{Exit}
use Rattle.ssa_form.specs.declared.form.Exit.TheVariants as exits
use Rattle.pass_copy.specs.Folded.{replaced, exit_replaced, stands, folded, FoldIsChecked, FoldHasForm}
use Rattle.pass_dead.specs.Needed.{pruned, PruneIsChecked, PruneHasForm}
use Rattle.lift_flow.specs.LiftedBlock.{lift_of}
use Rattle.lift_flow.specs.FewLines.{FewLines}
use Rattle.block_make.specs.Choices.{choice_of, ready}
use Rattle.block_make.specs.FragmentItems.{items_of}
use Rattle.block_make.specs.FragmentCode.{open_bytes, open_items, coded}
use Rattle.block_make.specs.CodesShort.{CodesShort, PartsShort}
use Rattle.block_make.proofs.Splits.{whole}
use Rattle.block_make.proofs.Counts.{AreShort}
use Rattle.block_make.proofs.Assembling.{HasLengths, open_length}
use Rattle.block_make.proofs.Native.{native_found}
use Rattle.block_make.proofs.Sizes.{whole_part, lines_apart, moves_few}

abbrev pub EncodingLength : Type 0
EncodingLength = (bs : List ℕ) (i : Inst) (n : ℕ) → decode_of bs ≡ Some (i, n) → (1 ≤ n) × (n ≤ 15) × (n ≤ length bs)

-- ---- what is found has at most fifteen bytes

found_short : EncodingLength → (exe : Exe) (at : ℕ) (i : Inst) (n : ℕ) → inst_found (found_at exe at) ≡ Some (i, n) → n ≤ 15
unfolding found_at
found_short most exe at i n e = decide (is_exec at exe.segments) e
  where
    read : (o : Option (Inst × ℕ)) → inst_found (found_from o) ≡ o
    read None = refl
    read (Some j) = refl

    decide : (b : Bool) → inst_found (if b then found_from (decode_of (code_at at exe.segments)) else NoCode) ≡ Some (i, n) → n ≤ 15
    decide true e = (most (code_at at exe.segments) i n (sym (read (decode_of (code_at at exe.segments))) ∙ e)).1
    decide false e = absurd (let f : ◌≡◌ {A = Option (Inst × ℕ)} None (Some (i, n)) = e in cc)

-- ---- the block that becomes code

record IsFew (exe : Exe) (start : ℕ) : Type 0 where
  lines : length (ready exe start).lines ≤ 32 * length (block_of exe start).insts
  outs : length (ready exe start).outs ≡ REGISTERS
  native : (len : ℕ) → (ready exe start).exit ≡ exits.Island len → len ≤ 15

-- what the passes keep
pub record Forms : Type 0 where
  pub fold_checked : FoldIsChecked
  pub fold_form : FoldHasForm
  pub prune_checked : PruneIsChecked
  pub prune_form : PruneHasForm

native_before : (t : List Val) (e : Exit) (len : ℕ) → exit_replaced t e ≡ exits.Island len → e ≡ exits.Island len
native_before t (exits.Jump to) len q = absurd (let f : exits.Jump to ≡ exits.Island len = q in cc)
native_before t (exits.Cond test taken next) len q = absurd (let f : exits.Cond (replaced t test) taken next ≡ exits.Island len = q in cc)
native_before t (exits.Way v) len q = absurd (let f : exits.Way (replaced t v) ≡ exits.Island len = q in cc)
native_before t (exits.Island n) len q = q

few : FewLines → Forms → EachHasOneBlock → EncodingLength → (exe : Exe) (start : ℕ) → IsFew exe start
unfolding ready
few lines forms one most exe start =
    let b = lift_of exe start in
    let l = lines.few exe start in
    let f = (forms.fold_form b).0 in
    let p = forms.prune_form (folded b) in
    record {
      lines = omega (arith, l, f, p);
      outs = (whole (pruned (folded b)) (forms.prune_checked (folded b) (forms.fold_checked b (lines.whole exe start)))).count;
      native = λ len e. let n = native_found one exe start len (native_before (stands [] b.lines) b.exit len e) in found_short most exe start n.0 len n.1;
    }

-- ---- fragments

lengths : HasLengths
lengths = record { jcc = λ cond distance. refl; jmp = λ distance. refl }

open_size : (dest : Dest → ℕ) (at : ℕ) (is : List Item) → length (open_items dest at is) ≡ size_of_items is
open_size dest at [] = refl
open_size dest at (i ∷ is) =
    let a = open_length lengths dest at i in
    let b = open_size dest (at + size_of_item i) is in
    let e = length-append (open_bytes dest at i) (open_items dest (at + size_of_item i) is) in
    omega (arith, a, b, e)

pub codes_short : AreShort → FewLines → Forms → EachHasOneBlock → EncodingLength → CodesShort
unfolding coded items_of
codes_short short lines forms one most exe key =
    let h = few lines forms one most exe key.start in
    let outs = h.outs in
    let size = whole_part short (choice_of exe key) (32 * length (block_of exe key.start).insts) h.lines (omega (arith, outs)) exe key h.native in
    let long = open_size (dest_at (λ y. 0) 0 (items_of exe key)) 0 (items_of exe key) in
    omega (arith, size, long)

pub parts_short : FewLines → Forms → EachHasOneBlock → EncodingLength → PartsShort
parts_short lines forms one most = record {
  few = λ exe start. (few lines forms one most exe start).lines;
  outs = λ exe start. (few lines forms one most exe start).outs;
  lines = lines_apart;
  moves = moves_few;
}

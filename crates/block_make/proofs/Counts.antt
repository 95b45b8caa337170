-- How many items a fragment has.
use Rattle.std.proofs.Common.{◌≡◌, ℕ, zero, suc, ◌+◌, ◌*◌, ◌^◌, ◌<◌, ◌≤◌, Bool, true, false, List, [], ◌∷◌, ◌++◌, length, map, refl, sym, ap, ◌∙◌, subst, arith, length-append}
use Rattle.std.specs.Prelude.{if◌then◌else◌}
use Rattle.std.proofs.lemmas.List.{length-map}
use Rattle.br_word.specs.declared.types.Width.{Width}
use Rattle.br_word.specs.declared.types.Width.TheVariants.{B8, B16, B32}
use Rattle.ia_inst.specs.declared.inst.Inst.{Inst}
use Rattle.ia_inst.specs.Canonical.{valid_of, canonical}
use Rattle.ia_encode.specs.declared.item.Dest.{Dest}
use Rattle.ia_encode.specs.declared.item.Item.{Item}
use Rattle.ia_encode.specs.declared.item.Item.TheVariants.{Inst as Put, Byte, Jump, Label}
use Rattle.ia_encode.specs.Items.{AreValid, size_of_item, size_of_items, size_of_jump}
use Rattle.ssa_form.specs.declared.form.Line.{Line}
use Rattle.ssa_form.specs.declared.form.Line.TheVariants.{Bin, One, Select, Load, Store, Gone}
use Rattle.ssa_form.specs.declared.form.Val.{Val}
use Rattle.ssa_form.specs.declared.form.BinOp.{BinOp}
use Rattle.ssa_form.specs.declared.form.BinOp.TheVariants.{Add, Sub, And, Or, Xor, Mul, MulOver, Shl, Shr, Sar, Eq, Ult}
use Rattle.ssa_form.specs.declared.form.OneOp.{OneOp}
use Rattle.ssa_form.specs.declared.form.OneOp.TheVariants.{Parity, Sext8, Sext16}
use Rattle.ssa_form.specs.Value.{numbered}
use Rattle.par_moves.specs.declared.locations.Place.{Place}
use Rattle.par_moves.specs.declared.locations.Place.TheVariants.{Reg, Slot}
use Rattle.par_moves.specs.declared.locations.MoveSource.{MoveSource as Source}
use Rattle.par_moves.specs.declared.locations.MoveSource.TheVariants.{Place as Held, Num}
use Rattle.par_moves.specs.declared.locations.PlaceMove.{PlaceMove}
use Rattle.emit_ops.specs.Templates.{bin_code, one_code, load_code, store_code, move_code, held_by, line_code}
use Rattle.emit_ops.specs.Sequences.{kept, lines_code, moves_code}

-- ---- bytes

-- no encoding is longer than fifteen bytes (SDM volume 2, 2.3.11)
abbrev pub AreShort : Type 0
AreShort = (i : Inst) → valid_of i ≡ true → length (canonical i) ≤ 15

jump_size : (cond : Rattle.std.specs.Prelude.Option ℕ) → size_of_jump cond ≤ 15
jump_size Rattle.std.specs.Prelude.None = omega arith
jump_size (Rattle.std.specs.Prelude.Some c) = omega arith

pub size_most : AreShort → (items : List Item) → AreValid items → size_of_items items ≤ 15 * length items
size_most h [] v = omega arith
size_most h (Put i ∷ is) v = let a = h i v.0 in let b = size_most h is v.1 in omega (arith, a, b)
size_most h (Byte x ∷ is) v = let b = size_most h is v in omega (arith, b)
size_most h (Jump cond d ∷ is) v = let a = jump_size cond in let b = size_most h is v.1 in omega (arith, a, b)
size_most h (Label l ∷ is) v = let b = size_most h is v in omega (arith, b)

-- ---- lines

bin_count : (op : BinOp) (x y : Source) (r : Place) → length (bin_code op x y r) ≤ 6
bin_count Add x y r = omega arith
bin_count Sub x y r = omega arith
bin_count And x y r = omega arith
bin_count Or x y r = omega arith
bin_count Xor x y r = omega arith
bin_count Mul x y r = omega arith
bin_count MulOver x y r = omega arith
bin_count Shl x y r = omega arith
bin_count Shr x y r = omega arith
bin_count Sar x y r = omega arith
bin_count Eq x y r = omega arith
bin_count Ult x y r = omega arith

one_count : (op : OneOp) (x : Source) (r : Place) → length (one_code op x r) ≤ 6
one_count Parity x r = omega arith
one_count Sext8 x r = omega arith
one_count Sext16 x r = omega arith

pub line_count : (home place : ℕ → Place) (i : ℕ) (l : Line) → length (line_code home place i l) ≤ 6
line_count home place i (Bin op x y) = bin_count op (held_by home place x) (held_by home place y) (place i)
line_count home place i (One op x) = one_count op (held_by home place x) (place i)
line_count home place i (Select c x y) = omega arith
line_count home place i (Load w at) = omega arith
line_count home place i (Store w at x) = omega arith
line_count home place i Gone = omega arith

pub lines_count : (home place : ℕ → Place) (keep : ℕ → Bool) (ps : List (ℕ × Line)) → length (lines_code home place (kept keep ps)) ≤ 6 * length ps
lines_count home place keep [] = omega arith
lines_count home place keep (p ∷ ps) = either (keep p.0) (lines_count home place keep ps)
  where
    either : (b : Bool) → length (lines_code home place (kept keep ps)) ≤ 6 * length ps → length (lines_code home place (if b then p ∷ kept keep ps else kept keep ps)) ≤ 6 * suc (length ps)
    either true t =
        let a = line_count home place p.0 p.1 in
        let e = length-append (line_code home place p.0 p.1) (lines_code home place (kept keep ps)) in
        omega (arith, a, e, t)
    either false t = omega (arith, t)

pub rows_count : (i : ℕ) (ls : List Line) → length (numbered i ls) ≡ length ls
rows_count i [] = refl
rows_count i (l ∷ ls) = ap suc (rows_count (suc i) ls)

-- ---- moves

move_count : (p : Place) (x : Source) → length (move_code p x) ≤ 2
move_count (Reg r) x = omega arith
move_count (Slot k) (Num n) = omega arith
move_count (Slot k) (Held (Reg r)) = omega arith
move_count (Slot k) (Held (Slot j)) = omega arith

pub moves_count : (ms : List PlaceMove) → length (moves_code ms) ≤ 2 * length ms
moves_count [] = omega arith
moves_count (m ∷ ms) =
    let a = move_count m.to m.from in
    let b = moves_count ms in
    let e = length-append (move_code m.to m.from) (moves_code ms) in
    omega (arith, a, b, e)

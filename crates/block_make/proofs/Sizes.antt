-- How many bytes a fragment has.
use Rattle.std.proofs.Common.{◌≡◌, ℕ, zero, suc, ◌+◌, ◌*◌, ◌≤◌, Bool, true, false, List, [], ◌∷◌, ◌++◌, length, map, Option, None, Some, refl, ap, ◌∙◌, arith, length-append}
use Rattle.std.specs.Prelude.{if◌then◌else◌, take}
use Rattle.std.proofs.lemmas.List.{length-map}
use Rattle.br_word.specs.declared.types.Width.{Width}
use Rattle.br_word.specs.declared.types.Width.TheVariants.{B8, B16, B32}
use Rattle.elf_read.specs.declared.exe.Exe.{Exe}
use Rattle.elf_read.specs.Code.{code_at}
use Rattle.ia_inst.specs.declared.inst.Inst.{Inst}
use Rattle.ia_inst.specs.declared.inst.Inst.TheVariants.{Alu, JmpRm}
use Rattle.ia_inst.specs.Canonical.{canonical, fits_extended}
use Rattle.ia_encode.specs.declared.item.Dest.{Dest}
use Rattle.ia_encode.specs.declared.item.Dest.TheVariants as dests
use Rattle.ia_encode.specs.declared.item.Item.{Item}
use Rattle.ia_encode.specs.declared.item.Item.TheVariants as item
use Rattle.ia_encode.specs.Items.{size_of_items}
use Rattle.ssa_form.specs.declared.form.Val.{Val}
use Rattle.ssa_form.specs.declared.form.BinOp.{BinOp}
use Rattle.ssa_form.specs.declared.form.BinOp.TheVariants.{Add, Sub, And, Or, Xor, Mul, MulOver, Shl, Shr, Sar, Eq, Ult}
use Rattle.ssa_form.specs.declared.form.OneOp.{OneOp}
use Rattle.ssa_form.specs.declared.form.OneOp.TheVariants.{Parity, Sext8, Sext16}
use Rattle.ssa_form.specs.declared.form.Line.{Line}
use Rattle.ssa_form.specs.declared.form.Line.TheVariants.{Bin, One, Select, Load, Store, Gone}
use Rattle.ssa_form.specs.declared.form.Exit.{Exit}
use Rattle.ssa_form.specs.declared.form.Exit.TheVariants as exits
use Rattle.ssa_form.specs.declared.form.BlockKey.{BlockKey}
use Rattle.ssa_form.specs.Same.{rows}
use Rattle.par_moves.specs.declared.locations.Place.{Place}
use Rattle.par_moves.specs.declared.locations.Place.TheVariants.{Reg, Slot}
use Rattle.par_moves.specs.declared.locations.MoveSource.{MoveSource as Source}
use Rattle.par_moves.specs.declared.locations.MoveSource.TheVariants.{Place as Held, Num}
use Rattle.par_moves.specs.declared.locations.PlaceMove.{PlaceMove}
use Rattle.par_moves.specs.Locations.{rm_of, src_of}
use Rattle.par_moves.specs.Homes.{home_of, register_homes}
use Rattle.reg_place.specs.Places.{is_in}
use Rattle.emit_ops.specs.Templates.{eax, load_reg, store_reg, keep, bin_code, one_code, load_code, store_code, move_code, held_by, line_code}
use Rattle.emit_ops.specs.Sequences.{kept, lines_code, moves_code, live_moves, in_order}
use Rattle.fall_stubs.specs.Exchange.{opening_items, closing_items, island_items}
use Rattle.block_make.specs.Choices.{Choice, place_in}
use Rattle.block_make.specs.Keys.{live_at, has}
use Rattle.block_make.specs.FragmentItems.{lines_items, moves_items, source_in, tail_items, regain_items, part_items, cond_items, aim_items, compare_items, tails_items, way_stub_items, dest_of, own_bytes, exit_items}
use Rattle.block_make.proofs.Behind.{puts_append}
use Rattle.block_make.proofs.Sequence.{sequenced_length, live_length}
use Rattle.block_make.proofs.Validity.{opening_valid, island_valid}
use Rattle.block_make.proofs.Counts.{AreShort, size_most, line_count, rows_count, moves_count}

-- ---- lists of items

pub size_cut : (is js : List Item) → size_of_items (is ++ js) ≡ size_of_items is + size_of_items js
size_cut [] js = omega arith
size_cut (i ∷ is) js = let q = size_cut is js in omega (arith, q)

abbrev code_size : List Inst → ℕ
code_size is = size_of_items (map item.Inst is)

code_cut : (is js : List Inst) → code_size (is ++ js) ≡ code_size is + code_size js
code_cut is js = ap size_of_items (puts_append is js) ∙ size_cut (map item.Inst is) (map item.Inst js)

-- ---- instructions of templates

shorter : (b : Bool) (xs ys : List ℕ) (n : ℕ) → length xs ≤ n → length ys ≤ n → length (if b then xs else ys) ≤ n
shorter true xs ys n h k = h
shorter false xs ys n h k = k

load_size : (r : ℕ) (x : Source) → length (canonical (load_reg r x)) ≤ 6
load_size r (Held (Reg q)) = omega arith
load_size r (Held (Slot k)) = omega arith
load_size r (Num n) = omega arith

store_size : (p : Place) (r : ℕ) → length (canonical (store_reg p r)) ≤ 6
store_size (Reg q) r = omega arith
store_size (Slot k) r = omega arith

alu_size : (op : ℕ) (x : Source) → length (canonical (Alu op B32 eax (src_of x))) ≤ 6
alu_size op (Held (Reg q)) = omega arith
alu_size op (Held (Slot k)) = omega arith
alu_size op (Num n) = shorter (fits_extended B32 n) _ _ 6 (omega arith) (omega arith)

-- ---- lines

bin_size : (op : BinOp) (x y : Source) (r : Place) → code_size (bin_code op x y r) ≤ 30
bin_size Add x y r = omega (arith, load_size 0 x, alu_size 0 y, store_size r 0)
bin_size Sub x y r = omega (arith, load_size 0 x, alu_size 5 y, store_size r 0)
bin_size And x y r = omega (arith, load_size 0 x, alu_size 4 y, store_size r 0)
bin_size Or x y r = omega (arith, load_size 0 x, alu_size 1 y, store_size r 0)
bin_size Xor x y r = omega (arith, load_size 0 x, alu_size 6 y, store_size r 0)
bin_size Mul x y r = omega (arith, load_size 0 x, load_size 1 y, store_size r 0)
bin_size MulOver x y r = omega (arith, load_size 0 x, load_size 1 y, store_size r 0)
bin_size Shl x y r = omega (arith, load_size 0 x, load_size 1 y, store_size r 0)
bin_size Shr x y r = omega (arith, load_size 0 x, load_size 1 y, store_size r 0)
bin_size Sar x y r = omega (arith, load_size 0 x, load_size 1 y, store_size r 0)
bin_size Eq x y r = omega (arith, load_size 0 x, alu_size 7 y, store_size r 0)
bin_size Ult x y r = omega (arith, load_size 0 x, alu_size 7 y, store_size r 0)

one_size : (op : OneOp) (x : Source) (r : Place) → code_size (one_code op x r) ≤ 30
one_size Parity x r = omega (arith, load_size 0 x, store_size r 0)
one_size Sext8 x r = omega (arith, load_size 0 x, store_size r 0)
one_size Sext16 x r = omega (arith, load_size 0 x, store_size r 0)

loaded_size : (w : Width) (x : Source) (r : Place) → code_size (load_code w x r) ≤ 30
loaded_size B8 x r = omega (arith, load_size 0 x, store_size r 0)
loaded_size B16 x r = omega (arith, load_size 0 x, store_size r 0)
loaded_size B32 x r = omega (arith, load_size 0 x, store_size r 0)

stored_size : (w : Width) (x y : Source) → code_size (store_code w x y) ≤ 30
stored_size B8 x y = omega (arith, load_size 0 x, load_size 1 y)
stored_size B16 x y = omega (arith, load_size 0 x, load_size 1 y)
stored_size B32 x y = omega (arith, load_size 0 x, load_size 1 y)

line_size : (home place : ℕ → Place) (i : ℕ) (l : Line) → code_size (line_code home place i l) ≤ 30
line_size home place i (Bin op x y) = bin_size op (held_by home place x) (held_by home place y) (place i)
line_size home place i (One op x) = one_size op (held_by home place x) (place i)
line_size home place i (Select c x y) = omega (arith, load_size 0 (held_by home place c), load_size 0 (held_by home place y), load_size 1 (held_by home place x), store_size (place i) 0)
line_size home place i (Load w at) = loaded_size w (held_by home place at) (place i)
line_size home place i (Store w at x) = stored_size w (held_by home place at) (held_by home place x)
line_size home place i Gone = omega arith

lines_size : (home place : ℕ → Place) (keep : ℕ → Bool) (ps : List (ℕ × Line)) → code_size (lines_code home place (kept keep ps)) ≤ 30 * length ps
lines_size home place keep [] = omega arith
lines_size home place keep (p ∷ ps) = either (keep p.0) (lines_size home place keep ps)
  where
    either : (b : Bool) → code_size (lines_code home place (kept keep ps)) ≤ 30 * length ps → code_size (lines_code home place (if b then p ∷ kept keep ps else kept keep ps)) ≤ 30 * suc (length ps)
    either true t =
        let a = line_size home place p.0 p.1 in
        let e = code_cut (line_code home place p.0 p.1) (lines_code home place (kept keep ps)) in
        omega (arith, a, e, t)
    either false t = omega (arith, t)

-- ---- moves

move_size : (p : Place) (x : Source) → code_size (move_code p x) ≤ 12
move_size (Reg r) x = omega (arith, load_size r x)
move_size (Slot k) (Num n) = omega arith
move_size (Slot k) (Held (Reg r)) = omega arith
move_size (Slot k) (Held (Slot j)) = omega arith

moves_size : (ms : List PlaceMove) → code_size (moves_code ms) ≤ 12 * length ms
moves_size [] = omega arith
moves_size (m ∷ ms) =
    let a = move_size m.to m.from in
    let b = moves_size ms in
    let e = code_cut (move_code m.to m.from) (moves_code ms) in
    omega (arith, a, b, e)

-- ---- how many instructions parts have

module _ (home place : ℕ → Place) (s t : ℕ → Bool) (apart : (j : ℕ) → s j ≡ true → t j ≡ false) where
  abbrev both : List (ℕ × Line) → List (ℕ × Line) → ℕ
  both xs ys = length (lines_code home place xs) + length (lines_code home place ys)

  apart_count : (ps : List (ℕ × Line)) → both (kept s ps) (kept t ps) ≤ 6 * length ps
  apart_count [] = omega arith
  apart_count (p ∷ ps) = either (s p.0) (t p.0) (apart p.0) (apart_count ps)
    where
      either : (a b : Bool) → (a ≡ true → b ≡ false) → both (kept s ps) (kept t ps) ≤ 6 * length ps
          → both (if a then p ∷ kept s ps else kept s ps) (if b then p ∷ kept t ps else kept t ps) ≤ 6 * suc (length ps)
      either true true h r = absurd (let f : true ≡ false = h refl in cc)
      either true false h r = omega (arith, r, line_count home place p.0 p.1, length-append (line_code home place p.0 p.1) (lines_code home place (kept s ps)))
      either false true h r = omega (arith, r, line_count home place p.0 p.1, length-append (line_code home place p.0 p.1) (lines_code home place (kept t ps)))
      either false false h r = omega (arith, r)

pub lines_apart : (c : Choice) (s t : List Bool) → ((j : ℕ) → is_in s j ≡ true → is_in t j ≡ false)
    → length (lines_items c s) + length (lines_items c t) ≤ 6 * length c.block.lines
lines_apart c s t apart =
    let a = apart_count home_of (place_in c) (is_in s) (is_in t) apart (rows c.block) in
    let b = rows_count 0 c.block.lines in
    let d = length-map (lines_code home_of (place_in c) (kept (is_in s) (rows c.block))) item.Inst in
    let e = length-map (lines_code home_of (place_in c) (kept (is_in t) (rows c.block))) item.Inst in
    omega (arith, a, b, d, e)

pub moves_few : (c : Choice) (live : ℕ → Bool) → length (moves_items c live) ≤ 4 * length c.block.outs
moves_few c live =
    let ms = live_moves home_of (place_in c) live 0 c.block.outs in
    let a = live_length (place_in c) live 0 c.block.outs in
    let b = sequenced_length (length ms) ms in
    let d = moves_count (in_order ms) in
    let e = length-map (moves_code (in_order ms)) item.Inst in
    omega (arith, a, b, d, e)

-- ---- parts, by the number of lines

take_few : (n : ℕ) (xs : List ℕ) → length (take n xs) ≤ n
take_few zero xs = omega arith
take_few (suc n) [] = omega arith
take_few (suc n) (x ∷ xs) = let t = take_few n xs in omega (arith, t)

module _ (short : AreShort) (c : Choice) (n : ℕ) (few : length c.block.lines ≤ n) (count : length c.block.outs ≤ 14) where
  lines_part : (set : List Bool) → size_of_items (lines_items c set) ≤ 30 * n
  lines_part set =
      let a = lines_size home_of (place_in c) (is_in set) (rows c.block) in
      let b = rows_count 0 c.block.lines in
      omega (arith, a, b, few)

  moves_part : (live : ℕ → Bool) → size_of_items (moves_items c live) ≤ 336
  moves_part live =
      let ms = live_moves home_of (place_in c) live 0 c.block.outs in
      let a = live_length (place_in c) live 0 c.block.outs in
      let b = sequenced_length (length ms) ms in
      let d = moves_size (in_order ms) in
      omega (arith, a, b, d, count)

  opening_part : (label : ℕ) → size_of_items (opening_items register_homes label) ≤ 600
  opening_part label =
      let a = size_most short (opening_items register_homes label) (opening_valid label) in
      let b : length (opening_items register_homes label) ≤ 40 = omega arith in
      omega (arith, a, b)

  tail_part : (set y : ℕ) → size_of_items (tail_items c set y) ≤ 341
  tail_part set y =
      let a = moves_part (has set) in
      let e = size_cut (moves_items c (has set)) (item.Jump None (dests.Block y) ∷ []) in
      omega (arith, a, e)

  regain_part : (label : ℕ) → size_of_items (regain_items c label) ≤ 30 * n + 936
  regain_part label =
      let a = lines_part c.split.sunk in
      let b = moves_part (λ v. true) in
      let d = opening_part label in
      let e = size_cut (lines_items c c.split.sunk) (moves_items c (λ v. true) ++ opening_items register_homes label) in
      let f = size_cut (moves_items c (λ v. true)) (opening_items register_homes label) in
      omega (arith, a, b, d, e, f)

  part_part : (label y : ℕ) (o : Option ℕ) → size_of_items (part_items c label y o) ≤ 30 * n + 941
  part_part label y None =
      let a = regain_part label in
      let e = size_cut (regain_items c label) (item.Jump None (dests.Original y) ∷ []) in
      omega (arith, a, e)
  part_part label y (Some set) = omega (arith, tail_part set y)

  -- ---- exits

  cond_part : (test : Val) (next taken : List Item) → size_of_items next ≤ 30 * n + 941 → size_of_items taken ≤ 30 * n + 941
      → size_of_items (cond_items c test next taken) ≤ 60 * n + 1900
  cond_part test next taken h k = omega (arith, load_size 0 (source_in c test), size_cut next (item.Label 2 ∷ taken), h, k)

  way_part : (v : Val) → size_of_items (way_stub_items c v) ≤ 30 * n + 954
  way_part v =
      let a = regain_part 0 in
      let e = size_cut (regain_items c 0) (item.Inst (JmpRm (rm_of (Slot 15))) ∷ []) in
      omega (arith, load_size 0 (source_in c v), a, e)

  compare_part : (label : ℕ) (es : List (ℕ × ℕ)) → size_of_items (compare_items label es) ≤ 12 * length es
  compare_part label [] = omega arith
  compare_part label (e ∷ es) = omega (arith, alu_size 7 (Num e.0), compare_part (suc label) es)

  tails_part : (label : ℕ) (es : List (ℕ × ℕ)) → size_of_items (tails_items c label es) ≤ 341 * length es
  tails_part label [] = omega arith
  tails_part label (e ∷ es) =
      let a = tail_part e.1 e.0 in
      let t = tails_part (suc label) es in
      let q = size_cut (tail_items c e.1 e.0) (tails_items c (suc label) es) in
      omega (arith, a, t, q)

  island_part : (bytes : List ℕ) (label : ℕ) (next : Dest) → length bytes ≤ 15 → size_of_items (island_items register_homes bytes label next) ≤ 3000
  island_part bytes label next l =
      let s = size_most short (island_items register_homes bytes label next) (island_valid bytes label next) in
      let a = length-append (opening_items register_homes label) (map item.Byte bytes ++ closing_items register_homes next) in
      let b = length-append (map item.Byte bytes) (closing_items register_homes next) in
      let d = length-map bytes item.Byte in
      let f : length (opening_items register_homes label) ≤ 40 = omega arith in
      let g : length (closing_items register_homes next) ≤ 40 = omega arith in
      omega (arith, l, s, a, b, d, f, g)

  exit_part : (exe : Exe) (key : BlockKey) (e : Exit) → ((len : ℕ) → e ≡ exits.Island len → len ≤ 15)
      → size_of_items (exit_items exe key c e) ≤ 60 * n + 3000 + 900 * length key.exits
  exit_part exe key (exits.Jump to) native = omega (arith, part_part 0 to (live_at key.exits to))
  exit_part exe key (exits.Cond test taken next) native =
      let a = part_part 0 next (live_at key.exits next) in
      let b = part_part 1 taken (live_at key.exits taken) in
      omega (arith, cond_part test (part_items c 0 next (live_at key.exits next)) (part_items c 1 taken (live_at key.exits taken)) a b)
  exit_part exe key (exits.Way v) native =
      let a = size_cut (aim_items c v) (compare_items 1 key.exits ++ (way_stub_items c v ++ tails_items c 1 key.exits)) in
      let b = size_cut (compare_items 1 key.exits) (way_stub_items c v ++ tails_items c 1 key.exits) in
      let d = size_cut (way_stub_items c v) (tails_items c 1 key.exits) in
      omega (arith, a, b, d, load_size 0 (source_in c v), compare_part 1 key.exits, way_part v, tails_part 1 key.exits)
  exit_part exe key (exits.Island len) native =
      let t = take_few len (code_at key.start exe.segments) in
      let l = native len refl in
      omega (arith, island_part (own_bytes exe key.start len) 0 (dest_of (key.start + len) (live_at key.exits (key.start + len))) (omega (arith, t, l)))

  pub whole_part : (exe : Exe) (key : BlockKey) → ((len : ℕ) → c.block.exit ≡ exits.Island len → len ≤ 15)
      → size_of_items (lines_items c c.split.body ++ exit_items exe key c c.block.exit) ≤ 90 * n + 3000 + 900 * length key.exits
  whole_part exe key native =
      let a = size_cut (lines_items c c.split.body) (exit_items exe key c c.block.exit) in
      omega (arith, a, lines_part c.split.body, exit_part exe key c.block.exit native)

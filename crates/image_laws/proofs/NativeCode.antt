-- The own bytes of a native instruction in the recovered code.
use Rattle.std.proofs.Common.{◌≡◌, ℕ, ◌+◌, ◌-◌, ◌≤◌, true, false, ◌&&◌, if◌then◌else◌, List, [], ◌∷◌, ◌++◌, length, map, take, drop, Option, Some, None, refl, sym, ap, ◌∙◌, arith, length-append, append_assoc}
use Rattle.std.specs.Prelude.{nat_le}
use Rattle.std.proofs.Math.Seq.{drop-append_seam}
use Rattle.std.proofs.lemmas.Bool.{le-leb}
use Rattle.std.proofs.lemmas.List.{length-take-le}
use Rattle.br_word.specs.Memory.{Region, Runs, bytes_at as bytes_from_address}
use Rattle.elf_read.specs.declared.exe.Exe.{Exe}
use Rattle.elf_read.specs.Code.{code_at}
use Rattle.ia_inst.specs.declared.inst.Inst.{Inst}
use Rattle.ia_inst.specs.Instructions.{decode_of}
use Rattle.ia_inst.specs.Step.{There, found, found_in, found_from}
use Rattle.ia_encode.specs.declared.item.Dest.{Dest}
use Rattle.ia_encode.specs.declared.item.Item.{Item}
use Rattle.ia_encode.specs.declared.item.Item.TheVariants.{Byte, Jump}
use Rattle.ia_encode.specs.Items.{size_of_item, size_of_items, bytes_of_item, bytes_of_items, with_labels}
use Rattle.run_model.specs.Edges.{Edge}
use Rattle.block_cut.specs.declared.ends.End.{End}
use Rattle.block_cut.specs.declared.ends.End.TheVariants.{Transfer, Island, BeforeIsland, Unreadable, Full}
use Rattle.block_cut.specs.Places.{Placed, found_at}
use Rattle.block_cut.specs.Blocks.{StandFrom, EndsSo, IsBlock, size_of, block_of, EachHasOneBlock}
use Rattle.ssa_form.specs.declared.form.Block.{Block}
use Rattle.ssa_form.specs.declared.form.BlockKey.{BlockKey}
use Rattle.ssa_form.specs.declared.form.Exit.TheVariants as exits
use Rattle.lift_flow.specs.LiftedBlock.{blank, lifted_to, lift_of}
use Rattle.par_moves.specs.Homes.{register_homes}
use Rattle.fall_stubs.specs.Exchange.{opening_items, capture_items, closing_items, island_items}
use Rattle.pass_copy.specs.Folded.{folded}
use Rattle.pass_dead.specs.Needed.{pruned}
use Rattle.stub_sink.specs.Splits.{split_of}
use Rattle.block_make.specs.Choices.{Choice, ready}
use Rattle.block_make.specs.Keys.{live_at}
use Rattle.block_make.specs.FragmentItems.{lines_items, exit_items, own_bytes, dest_of, items_of}
use Rattle.code_layout.specs.declared.place.TheConstants.{CODE_START}
use Rattle.code_layout.specs.Linked.{itself, code_of}
use Rattle.sim_runs.specs.Recovered.{is_island_end, first_inst, is_start_of}
use Rattle.image_laws.specs.Coded.{key_at, start_items, address_of, goes_with, coded_of}
use Rattle.image_laws.specs.Linked.{BeginsLinked}
use Rattle.image_laws.proofs.Places.{JumpLengths, bytes_long}
use Rattle.image_laws.proofs.Standing.{same_bytes, begins_built, own, front, behind, parts, begins, inside}
use Rattle.image_laws.proofs.LiftedBlocks.{found_code}

-- ---- the one instruction of a native block

no_truth : {X : Type 0} → false ≡ true → X
no_truth e = cc

pub is_native : (e : End) → is_island_end e ≡ true → e ≡ Island
is_native Transfer h = no_truth h
is_native Island h = refl
is_native BeforeIsland h = no_truth h
is_native Unreadable h = no_truth h
is_native Full h = no_truth h

one_by : (exe : Exe) (x next : ℕ) (is : List Placed) (e : End) → StandFrom exe x is → EndsSo exe next is e → is_island_end e ≡ true → found_at exe x ≡ There (first_inst is) (size_of is)
one_by exe x next is Transfer st h i = no_truth i
one_by exe x next [] Island st h i = absurd h.0
one_by exe x next (p ∷ []) Island st h i = let z : p.size ≡ size_of (p ∷ []) = omega arith in st.1 ∙ ap (λ n. There p.inst n) z
one_by exe x next (p ∷ q ∷ qs) Island st h i = absurd (omega (arith, h.1))
one_by exe x next is BeforeIsland st h i = no_truth i
one_by exe x next is Unreadable st h i = no_truth i
one_by exe x next is Full st h i = no_truth i

pub stands_native : EachHasOneBlock → (exe : Exe) (x : ℕ) → is_island_end (block_of exe x).end ≡ true → found_at exe x ≡ There (first_inst (block_of exe x).insts) (size_of (block_of exe x).insts)
stands_native one exe x i =
    let b = block_of exe x in
    let is : IsBlock exe x b = (one exe x b).1 refl in
    one_by exe x (x + size_of b.insts) b.insts b.end is.stand is.ends i

-- ---- its items

abbrev items_by : Exe → BlockKey → Block → List Item
items_by exe key b =
    let c : Choice = record { block = b; split = split_of b key } in
    lines_items c c.split.body ++ exit_items exe key c c.block.exit

pub native_lifted : (exe : Exe) (x : ℕ) → (block_of exe x).end ≡ Island → lift_of exe x ≡ record (blank x) { exit = exits.Island (size_of (block_of exe x).insts) }
unfolding lift_of
native_lifted exe x e = ap (λ e. lifted_to e (block_of exe x).insts x) e

abbrev pub next_of : Exe → List Edge → ℕ → Dest
next_of exe edges x = dest_of (x + size_of (block_of exe x).insts) (live_at (key_at exe edges x).exits (x + size_of (block_of exe x).insts))

abbrev pub own_of : Exe → ℕ → List ℕ
own_of exe x = own_bytes exe x (size_of (block_of exe x).insts)

pub native_items : (exe : Exe) (edges : List Edge) (x : ℕ) → is_island_end (block_of exe x).end ≡ true → start_items exe edges x ≡ island_items register_homes (own_of exe x) 0 (next_of exe edges x)
unfolding items_of ready
native_items exe edges x i = ap (λ b. items_by exe (key_at exe edges x) (pruned (folded b))) (native_lifted exe x (is_native (block_of exe x).end i))

-- ---- their bytes

bytes_parts : (dest : Dest → ℕ) (is js : List Item) (at : ℕ) → bytes_of_items dest at (is ++ js) ≡ bytes_of_items dest at is ++ bytes_of_items dest (at + size_of_items is) js
bytes_parts dest [] js at = let z : at ≡ at + 0 = omega arith in ap (λ a. bytes_of_items dest a js) z
bytes_parts dest (i ∷ is) js at =
    let z : at + size_of_item i + size_of_items is ≡ at + (size_of_item i + size_of_items is) = omega arith in
    ap (λ bs. bytes_of_item dest at i ++ bs) (bytes_parts dest is js (at + size_of_item i) ∙ ap (λ a. bytes_of_items dest (at + size_of_item i) is ++ bytes_of_items dest a js) z)
    ∙ sym (append_assoc (bytes_of_item dest at i) (bytes_of_items dest (at + size_of_item i) is) (bytes_of_items dest (at + (size_of_item i + size_of_items is)) js))

put_bytes : (dest : Dest → ℕ) (bs : List ℕ) (at : ℕ) → bytes_of_items dest at (map Byte bs) ≡ bs
put_bytes dest [] at = refl
put_bytes dest (b ∷ bs) at = ap (λ cs. b ∷ cs) (put_bytes dest bs (at + 1))

size_parts : (is js : List Item) → size_of_items (is ++ js) ≡ size_of_items is + size_of_items js
size_parts [] js = omega arith
size_parts (i ∷ is) js = let q = size_parts is js in omega (arith, q)

put_size : (bs : List ℕ) → size_of_items (map Byte bs) ≡ length bs
put_size [] = refl
put_size (b ∷ bs) = let q = put_size bs in omega (arith, q)

pub record Decodes : Type 0 where
  pub lengths : JumpLengths
  pub one : EachHasOneBlock
  pub decides : (bs rest : List ℕ) (i : Inst) (n : ℕ) → decode_of bs ≡ Some (i, n) → decode_of (take n bs ++ rest) ≡ Some (i, n)
  pub long : (bs : List ℕ) (i : Inst) (n : ℕ) → decode_of bs ≡ Some (i, n) → (1 ≤ n) × (n ≤ 15) × (n ≤ length bs)

module _ (laws : Decodes) (exe : Exe) (edges : List Edge) (x : ℕ) (start : is_start_of exe edges x ≡ true) (native : is_island_end (block_of exe x).end ≡ true) where
  abbrev code : Region
  code = (coded_of exe edges).code

  abbrev has : BeginsLinked exe edges itself code
  has = begins_built exe edges

  abbrev n : ℕ
  n = size_of (block_of exe x).insts

  abbrev inst : Inst
  inst = first_inst (block_of exe x).insts

  abbrev opening : List Item
  opening = opening_items register_homes 0

  abbrev closing : List Item
  closing = closing_items register_homes (next_of exe edges x)

  there : found_at exe x ≡ There inst n
  there = stands_native laws.one exe x native

  spelled : ◌≡◌ {A = Option (Inst × ℕ)} (decode_of (code_at x exe.segments)) (Some (inst, n))
  spelled = found_code exe x inst n there

  has_bytes : (1 ≤ n) × (n ≤ 15) × (n ≤ length (code_at x exe.segments))
  has_bytes = laws.long (code_at x exe.segments) inst n spelled

  pub own_long : length (own_of exe x) ≡ n
  own_long = length-take-le n (code_at x exe.segments) has_bytes.2

  sizes : size_of_items (start_items exe edges x) ≡ size_of_items opening + (n + size_of_items closing)
  sizes =
      let a = size_parts opening (map Byte (own_of exe x) ++ closing) in
      let b = size_parts (map Byte (own_of exe x)) closing in
      let c = put_size (own_of exe x) in
      let d = own_long in
      ap size_of_items (native_items exe edges x native) ∙ omega (arith, a, b, c, d)

  ends_with_jump : 5 ≤ size_of_items closing
  ends_with_jump = let q = size_parts (capture_items register_homes) (Jump None (next_of exe edges x) ∷ []) in omega (arith, q)

  -- it ends in the code
  pub native_inside : (coded_of exe edges).native x + n + 5 ≤ CODE_START + length (code_of exe edges)
  native_inside =
      let a = inside laws.lengths exe edges itself code has x start in
      let b = sizes in
      let c = ends_with_jump in
      let d = ap length (same_bytes exe edges) in
      omega (arith, a, b, c, d)

  abbrev at : ℕ
  at = address_of exe edges x

  abbrev dest : Dest → ℕ
  dest = with_labels (goes_with itself exe edges) at (start_items exe edges x)

  abbrev way_in : List ℕ
  way_in = bytes_of_items dest at opening

  abbrev way_out : List ℕ
  way_out = bytes_of_items dest (at + size_of_items opening + size_of_items (map Byte (own_of exe x))) closing

  own_parts : own laws.lengths exe edges itself code has x start ≡ way_in ++ (own_of exe x ++ way_out)
  own_parts =
      ap (bytes_of_items dest at) (native_items exe edges x native)
      ∙ bytes_parts dest opening (map Byte (own_of exe x) ++ closing) at
      ∙ ap (λ bs. way_in ++ bs) (bytes_parts dest (map Byte (own_of exe x)) closing (at + size_of_items opening) ∙ ap (λ bs. bs ++ way_out) (put_bytes dest (own_of exe x) (at + size_of_items opening)))

  abbrev before : List ℕ
  before = front laws.lengths exe edges itself code has x start

  abbrev after : List ℕ
  after = behind laws.lengths exe edges itself code has x start

  code_parts : (coded_of exe edges).code.bytes ≡ (before ++ way_in) ++ (own_of exe x ++ (way_out ++ after))
  code_parts =
      parts laws.lengths exe edges itself code has x start
      ∙ ap (λ bs. before ++ (bs ++ after)) own_parts
      ∙ ap (λ bs. before ++ bs) (append_assoc way_in (own_of exe x ++ way_out) after ∙ ap (λ bs. way_in ++ bs) (append_assoc (own_of exe x) way_out after))
      ∙ sym (append_assoc before way_in (own_of exe x ++ (way_out ++ after)))

  stands_at : (coded_of exe edges).native x ≡ CODE_START + length (before ++ way_in)
  stands_at =
      let a = begins laws.lengths exe edges itself code has x start in
      let b = bytes_long laws.lengths dest opening at in
      let c = length-append before way_in in
      omega (arith, a, b, c)

  rest_here : drop ((coded_of exe edges).native x - CODE_START) (coded_of exe edges).code.bytes ≡ own_of exe x ++ (way_out ++ after)
  rest_here =
      let z : (coded_of exe edges).native x - CODE_START ≡ length (before ++ way_in) = let s = stands_at in omega (arith, s) in
      ap (λ k. drop k (coded_of exe edges).code.bytes) z ∙ ap (λ bs. drop (length (before ++ way_in)) bs) code_parts ∙ drop-append_seam (before ++ way_in) (own_of exe x ++ (way_out ++ after))

  covered : (nat_le CODE_START ((coded_of exe edges).native x) && nat_le ((coded_of exe edges).native x + 1) (CODE_START + length (coded_of exe edges).code.bytes)) ≡ true
  covered =
      let l = native_inside in
      let s = stands_at in
      let b = ap length (same_bytes exe edges) in
      ap (λ t. t && nat_le ((coded_of exe edges).native x + 1) (CODE_START + length (coded_of exe edges).code.bytes)) (le-leb CODE_START ((coded_of exe edges).native x) (omega (arith, s)))
      ∙ le-leb ((coded_of exe edges).native x + 1) (CODE_START + length (coded_of exe edges).code.bytes) (omega (arith, l, b))

  -- it is found there
  pub copied : (rs : List Region) → found ((coded_of exe edges).native x) ((coded_of exe edges).code ∷ rs) ≡ There inst n
  unfolding bytes_from_address
  copied rs =
      ap (λ t. found_in (if t && true then Some (drop ((coded_of exe edges).native x - CODE_START) (coded_of exe edges).code.bytes) else bytes_from_address Runs ((coded_of exe edges).native x) 1 rs)) covered
      ∙ ap (λ bs. found_from (decode_of bs)) rest_here
      ∙ ap found_from (laws.decides (code_at x exe.segments) (way_out ++ after) inst n spelled)

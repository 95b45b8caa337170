-- The code is of bytes.
use Rattle.std.proofs.Common.{ℕ, zero, suc, ◌+◌, ◌<◌, Bool, true, false, List, [], ◌∷◌, ◌++◌, map, get_or, Option, Some, None, sym, subst, arith}
use Rattle.std.proofs.lemmas.List.Elements.{All-take, recursion_from_All}
use Rattle.br_word.specs.Memory.{Region}
use Rattle.elf_read.specs.declared.exe.Exe.{Exe}
use Rattle.elf_read.specs.Code.{code_at}
use Rattle.ia_inst.specs.declared.inst.Inst.{Inst}
use Rattle.ia_inst.specs.Canonical.{canonical}
use Rattle.ia_encode.specs.declared.item.Dest.{Dest}
use Rattle.ia_encode.specs.declared.item.Dest.TheVariants as dests
use Rattle.ia_encode.specs.declared.item.Item.{Item}
use Rattle.ia_encode.specs.declared.item.Item.TheVariants as item
use Rattle.ia_encode.specs.Items.{jump_inst, size_of_item, size_of_items, bytes_of_items, distance, size_of_jump, with_labels, IsCondition, AreValid}
use Rattle.run_model.specs.Edges.{Edge}
use Rattle.block_cut.specs.CountedEdges.{counting}
use Rattle.flow_graph.specs.GraphOf.{starts_of}
use Rattle.ssa_form.specs.declared.form.Val.{Val}
use Rattle.ssa_form.specs.declared.form.Exit.{Exit}
use Rattle.ssa_form.specs.declared.form.Exit.TheVariants as exits
use Rattle.ssa_form.specs.declared.form.BlockKey.{BlockKey}
use Rattle.ssa_form.specs.Same.{rows}
use Rattle.par_moves.specs.Homes.{home_of, register_homes}
use Rattle.reg_place.specs.Places.{is_in}
use Rattle.emit_ops.specs.Sequences.{kept, lines_code, moves_code, live_moves, in_order}
use Rattle.fall_stubs.specs.Exchange.{capture_code, capture_items, spill_code, spill_items, direction_items, restore_rest, restore_items, opening_items, closing_items}
use Rattle.block_make.specs.Choices.{Choice, choice_of, place_in}
use Rattle.block_make.specs.Keys.{live_at, has}
use Rattle.block_make.specs.FragmentItems.{lines_items, moves_items, tail_items, regain_items, part_items, compare_items, tails_items, way_stub_items, own_bytes, dest_of, exit_items, items_of}
use Rattle.code_layout.specs.declared.place.TheConstants.{CODE_START}
use Rattle.code_layout.specs.Keys.{keys_of}
use Rattle.code_layout.specs.Linked.{entry_items, bytes_at, bytes_from, first_at, fragments_of, has_key, code_of_keys}
use Rattle.image_laws.specs.Coded.{start_items, entry_of, goes_with}
use Rattle.image_laws.specs.Linked.{BeginsLinked}
use Rattle.image_laws.specs.Serves.{HaveBytes}
use Rattle.image_laws.proofs.Places.{fragment_at}
use Rattle.image_laws.proofs.Standing.{whole, same_fragments}
use Rattle.image_laws.proofs.LiftedBlocks.{code_bytes}
use Rattle.image_laws.proofs.InstBytes.{Bytes, join, four_bytes, inst_bytes}

-- ---- items that are bytes

abbrev Own : List Item → Type 0
Own [] = Unit {0}
Own (item.Byte b ∷ is) = (b < 256) × Own is
Own (item.Inst i ∷ is) = Own is
Own (item.Jump cond d ∷ is) = Own is
Own (item.Label l ∷ is) = Own is

own_join : (is js : List Item) → Own is → Own js → Own (is ++ js)
own_join [] js h k = k
own_join (item.Byte b ∷ is) js h k = (h.0, own_join is js h.1 k)
own_join (item.Inst i ∷ is) js h k = own_join is js h k
own_join (item.Jump cond d ∷ is) js h k = own_join is js h k
own_join (item.Label l ∷ is) js h k = own_join is js h k

own_insts : (is : List Inst) → Own (map item.Inst is)
own_insts [] = tt
own_insts (i ∷ is) = own_insts is

own_put : (bs : List ℕ) → Bytes bs → Own (map item.Byte bs)
own_put [] h = tt
own_put (b ∷ bs) h = (h.0, own_put bs h.1)

own_opening : (label : ℕ) → Own (opening_items register_homes label)
own_opening label = own_join (spill_items register_homes) (restore_items label) (own_insts (spill_code register_homes)) (own_join (direction_items label) (map item.Inst restore_rest) tt (own_insts restore_rest))

own_closing : (next : Dest) → Own (closing_items register_homes next)
own_closing next = own_join (capture_items register_homes) (item.Jump None next ∷ []) (own_insts (capture_code register_homes)) tt

module _ (c : Choice) where
  own_lines : (set : List Bool) → Own (lines_items c set)
  own_lines set = own_insts (lines_code home_of (place_in c) (kept (is_in set) (rows c.block)))

  own_moves : (live : ℕ → Bool) → Own (moves_items c live)
  own_moves live = own_insts (moves_code (in_order (live_moves home_of (place_in c) live 0 c.block.outs)))

  own_tail : (set y : ℕ) → Own (tail_items c set y)
  own_tail set y = own_join (moves_items c (has set)) (item.Jump None (dests.Block y) ∷ []) (own_moves (has set)) tt

  own_regain : (label : ℕ) → Own (regain_items c label)
  own_regain label = own_join (lines_items c c.split.sunk) (moves_items c (λ v. true) ++ opening_items register_homes label) (own_lines c.split.sunk) (own_join (moves_items c (λ v. true)) (opening_items register_homes label) (own_moves (λ v. true)) (own_opening label))

  own_part : (label y : ℕ) (o : Option ℕ) → Own (part_items c label y o)
  own_part label y (Some set) = own_tail set y
  own_part label y None = own_join (regain_items c label) (item.Jump None (dests.Original y) ∷ []) (own_regain label) tt

  own_compare : (label : ℕ) (es : List (ℕ × ℕ)) → Own (compare_items label es)
  own_compare label [] = tt
  own_compare label (e ∷ es) = own_compare (suc label) es

  own_tails : (label : ℕ) (es : List (ℕ × ℕ)) → Own (tails_items c label es)
  own_tails label [] = tt
  own_tails label (e ∷ es) = own_join (tail_items c e.1 e.0) (tails_items c (suc label) es) (own_tail e.1 e.0) (own_tails (suc label) es)

  own_way_stub : (v : Val) → Own (way_stub_items c v)
  own_way_stub v = own_join (regain_items c 0) _ (own_regain 0) tt

  own_exit : (exe : Exe) (key : BlockKey) (e : Exit) → HaveBytes exe → Own (exit_items exe key c e)
  own_exit exe key (exits.Jump to) bytes = own_part 0 to (live_at key.exits to)
  own_exit exe key (exits.Cond test taken next) bytes = own_join (part_items c 0 next (live_at key.exits next)) (item.Label 2 ∷ part_items c 1 taken (live_at key.exits taken)) (own_part 0 next (live_at key.exits next)) (own_part 1 taken (live_at key.exits taken))
  own_exit exe key (exits.Way v) bytes = own_join (compare_items 1 key.exits) (way_stub_items c v ++ tails_items c 1 key.exits) (own_compare 1 key.exits) (own_join (way_stub_items c v) (tails_items c 1 key.exits) (own_way_stub v) (own_tails 1 key.exits))
  own_exit exe key (exits.Island len) bytes =
      let next = dest_of (key.start + len) (live_at key.exits (key.start + len)) in
      let bs = own_bytes exe key.start len in
      let h = recursion_from_All (λ b. b < 256) bs (All-take (λ b. b < 256) len (code_at key.start exe.segments) (code_bytes key.start exe.segments bytes)) in
      own_join (opening_items register_homes 0) (map item.Byte bs ++ closing_items register_homes next) (own_opening 0) (own_join (map item.Byte bs) (closing_items register_homes next) (own_put bs h) (own_closing next))

own_items : (exe : Exe) (key : BlockKey) → HaveBytes exe → Own (items_of exe key)
unfolding items_of
own_items exe key bytes = let c = choice_of exe key in own_join (lines_items c c.split.body) (exit_items exe key c c.block.exit) (own_lines c c.split.body) (own_exit c exe key c.block.exit bytes)

own_entry : (entry : ℕ) (b : Bool) → Own (entry_items entry b)
own_entry entry true = own_closing (dests.Block entry)
own_entry entry false = tt

-- ---- their bytes

jump_bytes : (cond : Option ℕ) (rel : ℕ) → IsCondition cond → Bytes (canonical (jump_inst cond rel))
jump_bytes None rel h = (omega arith, four_bytes rel)
jump_bytes (Some c) rel h = (omega arith, (omega (arith, h), four_bytes rel))

items_bytes : (dest : Dest → ℕ) (is : List Item) (at : ℕ) → AreValid is → Own is → Bytes (bytes_of_items dest at is)
items_bytes dest [] at h k = tt
items_bytes dest (item.Byte b ∷ is) at h k = (k.0, items_bytes dest is (at + 1) h k.1)
items_bytes dest (item.Inst i ∷ is) at h k = join (canonical i) (bytes_of_items dest (at + size_of_item (item.Inst i)) is) (inst_bytes i h.0) (items_bytes dest is (at + size_of_item (item.Inst i)) h.1 k)
items_bytes dest (item.Jump cond d ∷ is) at h k =
    let rel = distance (at + size_of_jump cond) (dest d) in
    join (canonical (jump_inst cond rel)) (bytes_of_items dest (at + size_of_jump cond) is) (jump_bytes cond rel h.0) (items_bytes dest is (at + size_of_jump cond) h.1 k)
items_bytes dest (item.Label l ∷ is) at h k = items_bytes dest is (at + 0) h k

-- ---- the code

each_below : (bs : List ℕ) → Bytes bs → (i : ℕ) → get_or bs i 0 < 256
each_below [] h i = omega arith
each_below (b ∷ bs) h zero = h.0
each_below (b ∷ bs) h (suc i) = each_below bs h.1 i

all_below : (bs : List ℕ) → ((i : ℕ) → get_or bs i 0 < 256) → Bytes bs
all_below [] h = tt
all_below (b ∷ bs) h = (h 0, all_below bs (λ i. h (suc i)))

module _ (exe : Exe) (edges : List Edge) (out : ℕ → ℕ) (bytes : HaveBytes exe) (valid : (x : ℕ) → AreValid (start_items exe edges x)) where
  abbrev goes : Dest → ℕ
  goes = goes_with out exe edges

  parts_bytes : (xs : List ℕ) (at : ℕ) → Bytes (bytes_from goes at (map (fragment_at (start_items exe edges)) xs))
  parts_bytes [] at = tt
  parts_bytes (x ∷ xs) at =
      let is = start_items exe edges x in
      join (bytes_at goes at is) (bytes_from goes (at + size_of_items is) (map (fragment_at (start_items exe edges)) xs)) (items_bytes (with_labels goes at is) is at (valid x) (own_items exe _ bytes)) (parts_bytes xs (at + size_of_items is))

  linked_bytes : AreValid (entry_of exe edges) → Bytes (code_of_keys out exe (keys_of exe edges))
  linked_bytes entry =
      let is = entry_of exe edges in
      subst Bytes (sym (whole out exe edges))
      (join (bytes_at goes CODE_START is) (bytes_from goes (first_at is) (fragments_of exe (keys_of exe edges)))
      (items_bytes (with_labels goes CODE_START is) is CODE_START entry (own_entry exe.entry (has_key (keys_of exe edges) exe.entry)))
      (subst (λ fs. Bytes (bytes_from goes (first_at is) fs)) (sym (same_fragments exe edges)) (parts_bytes (starts_of exe (counting exe edges)) (first_at is))))

  pub code_small : AreValid (entry_of exe edges) → (code : Region) → BeginsLinked exe edges out code → (i : ℕ) → get_or code.bytes i 0 < 256
  code_small entry code has =
      let front = code_of_keys out exe (keys_of exe edges) in
      each_below code.bytes (subst Bytes (sym has.bytes) (join front has.behind (linked_bytes entry) (all_below has.behind has.small)))

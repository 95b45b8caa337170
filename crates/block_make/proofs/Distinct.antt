-- Each label of a fragment stands once, and its last item is a jump.
use Rattle.std.proofs.Common.{◌≡◌, ℕ, zero, suc, ◌+◌, ◌<◌, ◌≤◌, Bool, true, false, List, [], ◌∷◌, ◌++◌, length, map, Option, None, Some, refl, sym, ap, ◌∙◌, arith, append_assoc}
use Rattle.std.specs.Prelude.{nat_eq}
use Rattle.std.proofs.lemmas.Bool.{ne_eqb}
use Rattle.elf_read.specs.declared.exe.Exe.{Exe}
use Rattle.ia_inst.specs.declared.inst.Inst.{Inst}
use Rattle.ia_inst.specs.declared.inst.Inst.TheVariants.{JmpRm}
use Rattle.ia_encode.specs.declared.item.Dest.{Dest}
use Rattle.ia_encode.specs.declared.item.Dest.TheVariants as dests
use Rattle.ia_encode.specs.declared.item.Item.{Item}
use Rattle.ia_encode.specs.declared.item.Item.TheVariants as item
use Rattle.ia_encode.specs.Items.{Lacks, AreDistinct}
use Rattle.ssa_form.specs.declared.form.Val.{Val}
use Rattle.ssa_form.specs.declared.form.Exit.{Exit}
use Rattle.ssa_form.specs.declared.form.Exit.TheVariants as exits
use Rattle.ssa_form.specs.declared.form.BlockKey.{BlockKey}
use Rattle.ssa_form.specs.Same.{rows}
use Rattle.par_moves.specs.declared.locations.Place.TheVariants.{Slot}
use Rattle.par_moves.specs.Locations.{rm_of}
use Rattle.par_moves.specs.Homes.{home_of, register_homes}
use Rattle.reg_place.specs.Places.{is_in}
use Rattle.emit_ops.specs.Sequences.{kept, lines_code, moves_code, live_moves, in_order}
use Rattle.fall_stubs.specs.Exchange.{opening_items, closing_items, capture_items, island_items}
use Rattle.block_make.specs.Choices.{Choice, choice_of, place_in}
use Rattle.block_make.specs.FragmentItems.{lines_items, moves_items, tail_items, regain_items, stub_items, part_items, cond_items, aim_items, compare_items, tails_items, way_stub_items, dest_of, own_bytes, exit_items, items_of}
use Rattle.block_make.specs.Keys.{live_at, has}
use Rattle.block_make.specs.Laws.{IsJump, EndInJump}
use Rattle.block_make.proofs.Validity.{lack_append, lack_puts, puts_distinct, HasOne, distinct_append, opening_one, island_distinct}

module _ (c : Choice) where
  abbrev line_insts : List Bool → List Inst
  line_insts set = lines_code home_of (place_in c) (kept (is_in set) (rows c.block))

  abbrev move_insts : (ℕ → Bool) → List Inst
  move_insts live = moves_code (in_order (live_moves home_of (place_in c) live 0 c.block.outs))

  -- ---- labels
  tail_lacks : (set y k : ℕ) → Lacks k (tail_items c set y)
  tail_lacks set y k = lack_append k (moves_items c (has set)) (item.Jump None (dests.Block y) ∷ []) (lack_puts k (move_insts (has set))) (refl, tt)

  tail_one : (set y label : ℕ) → HasOne label (tail_items c set y)
  tail_one set y label = record { distinct = puts_distinct (move_insts (has set)) (item.Jump None (dests.Block y) ∷ []) tt; others = λ k n. tail_lacks set y k }

  -- the exchange of state, and one more item without a label
  regain_one : (label : ℕ) → HasOne label (regain_items c label)
  regain_one label =
      let o = opening_one label in
      record {
        distinct = puts_distinct (line_insts c.split.sunk) (moves_items c (λ v. true) ++ opening_items register_homes label)
            (puts_distinct (move_insts (λ v. true)) (opening_items register_homes label) o.distinct);
        others = λ k n. lack_append k (lines_items c c.split.sunk) (moves_items c (λ v. true) ++ opening_items register_homes label) (lack_puts k (line_insts c.split.sunk))
            (lack_append k (moves_items c (λ v. true)) (opening_items register_homes label) (lack_puts k (move_insts (λ v. true))) (o.others k n));
      }

  stub_one : (label y : ℕ) → HasOne label (stub_items c label y)
  stub_one label y =
      let r = regain_one label in
      record {
        distinct = distinct_append (regain_items c label) (item.Jump None (dests.Original y) ∷ []) label r tt (refl, tt);
        others = λ k n. lack_append k (regain_items c label) (item.Jump None (dests.Original y) ∷ []) (r.others k n) (refl, tt);
      }

  part_one : (label y : ℕ) (o : Option ℕ) → HasOne label (part_items c label y o)
  part_one label y None = stub_one label y
  part_one label y (Some set) = tail_one set y label

  cond_distinct : (test : Val) (next taken : List Item) → HasOne 0 next → HasOne 1 taken → AreDistinct (cond_items c test next taken)
  cond_distinct test next taken n t = distinct_append next (item.Label 2 ∷ taken) 0 n (t.others 2 refl, t.distinct) (refl, t.others 0 refl)

  compare_distinct : (label : ℕ) (es : List (ℕ × ℕ)) (js : List Item) → AreDistinct js → AreDistinct (compare_items label es ++ js)
  compare_distinct label [] js d = d
  compare_distinct label (e ∷ es) js d = compare_distinct (suc label) es js d

  way_stub_one : (v : Val) → HasOne 0 (way_stub_items c v)
  way_stub_one v =
      let r = regain_one 0 in
      let last = item.Inst (JmpRm (rm_of (Slot 15))) ∷ [] in
      record {
        distinct = distinct_append (regain_items c 0) last 0 r tt (refl, tt);
        others = λ k n. (refl, (refl, lack_append k (regain_items c 0) last (r.others k n) (refl, tt)));
      }

  tails_lack : (l label : ℕ) (es : List (ℕ × ℕ)) → l < label → Lacks l (tails_items c label es)
  tails_lack l label [] h = tt
  tails_lack l label (e ∷ es) h = (ne_eqb label l (λ q. omega arith), lack_append l (tail_items c e.1 e.0) (tails_items c (suc label) es) (tail_lacks e.1 e.0 l) (tails_lack l (suc label) es (omega arith)))

  tails_distinct : (label : ℕ) (es : List (ℕ × ℕ)) → AreDistinct (tails_items c label es)
  tails_distinct label [] = tt
  tails_distinct label (e ∷ es) =
      let t = tails_lack label (suc label) es (omega arith) in (
        lack_append label (tail_items c e.1 e.0) (tails_items c (suc label) es) (tail_lacks e.1 e.0 label) t,
        distinct_append (tail_items c e.1 e.0) (tails_items c (suc label) es) label (tail_one e.1 e.0 label) (tails_distinct (suc label) es) t,
      )

  exit_distinct : (exe : Exe) (key : BlockKey) (e : Exit) → AreDistinct (exit_items exe key c e)
  exit_distinct exe key (exits.Jump to) = (part_one 0 to (live_at key.exits to)).distinct
  exit_distinct exe key (exits.Cond test taken next) = cond_distinct test (part_items c 0 next (live_at key.exits next)) (part_items c 1 taken (live_at key.exits taken)) (part_one 0 next (live_at key.exits next)) (part_one 1 taken (live_at key.exits taken))
  exit_distinct exe key (exits.Way v) =
      compare_distinct 1 key.exits (way_stub_items c v ++ tails_items c 1 key.exits)
      (distinct_append (way_stub_items c v) (tails_items c 1 key.exits) 0 (way_stub_one v) (tails_distinct 1 key.exits) (tails_lack 0 1 key.exits (omega arith)))
  exit_distinct exe key (exits.Island len) = island_distinct (own_bytes exe key.start len) 0 (dest_of (key.start + len) (live_at key.exits (key.start + len)))

  -- ---- the last item
  behind : (front is : List Item) → EndInJump is → EndInJump (front ++ is)
  behind front is e = (front ++ e.0, e.1, ap (λ xs. front ++ xs) e.2 ∙ sym (append_assoc front e.0 (e.1 ∷ [])), e.3)

  jump_ends : (front : List Item) (cond : Option ℕ) (d : Dest) → EndInJump (front ++ item.Jump cond d ∷ [])
  jump_ends front cond d = (front, item.Jump cond d, refl, tt)

  part_ends : (label y : ℕ) (o : Option ℕ) → EndInJump (part_items c label y o)
  part_ends label y None = jump_ends (regain_items c label) None (dests.Original y)
  part_ends label y (Some set) = jump_ends (moves_items c (has set)) None (dests.Block y)

  tails_end : (front : List Item) (label : ℕ) (es : List (ℕ × ℕ)) → EndInJump front → EndInJump (front ++ tails_items c label es)
  tails_end front label [] e = (e.0, e.1, Rattle.std.proofs.Common.append-nil front ∙ e.2, e.3)
  tails_end front label (x ∷ es) e =
      behind front (item.Label label ∷ (tail_items c x.1 x.0 ++ tails_items c (suc label) es))
      (behind (item.Label label ∷ []) (tail_items c x.1 x.0 ++ tails_items c (suc label) es)
      (tails_end (tail_items c x.1 x.0) (suc label) es (jump_ends (moves_items c (has x.1)) None (dests.Block x.0))))

  exit_ends : (exe : Exe) (key : BlockKey) (e : Exit) → EndInJump (exit_items exe key c e)
  exit_ends exe key (exits.Jump to) = part_ends 0 to (live_at key.exits to)
  exit_ends exe key (exits.Cond test taken next) =
      behind (_ ∷ _ ∷ _ ∷ []) (part_items c 0 next (live_at key.exits next) ++ (item.Label 2 ∷ part_items c 1 taken (live_at key.exits taken)))
      (behind (part_items c 0 next (live_at key.exits next)) (item.Label 2 ∷ part_items c 1 taken (live_at key.exits taken))
      (behind (item.Label 2 ∷ []) (part_items c 1 taken (live_at key.exits taken)) (part_ends 1 taken (live_at key.exits taken))))
  exit_ends exe key (exits.Way v) =
      behind (aim_items c v) (compare_items 1 key.exits ++ (way_stub_items c v ++ tails_items c 1 key.exits))
      (behind (compare_items 1 key.exits) (way_stub_items c v ++ tails_items c 1 key.exits)
      (tails_end (way_stub_items c v) 1 key.exits
      (behind (_ ∷ _ ∷ []) (regain_items c 0 ++ (item.Inst (JmpRm (rm_of (Slot 15))) ∷ [])) (regain_items c 0, item.Inst (JmpRm (rm_of (Slot 15))), refl, tt))))
  exit_ends exe key (exits.Island len) =
      let bytes = own_bytes exe key.start len in
      let next = dest_of (key.start + len) (live_at key.exits (key.start + len)) in
      behind (opening_items register_homes 0) (map item.Byte bytes ++ closing_items register_homes next)
      (behind (map item.Byte bytes) (closing_items register_homes next) (jump_ends (capture_items register_homes) None next))

pub all_distinct : (exe : Exe) (key : BlockKey) → AreDistinct (items_of exe key)
unfolding items_of
all_distinct exe key = let c = choice_of exe key in puts_distinct (line_insts c c.split.body) (exit_items exe key c c.block.exit) (exit_distinct c exe key c.block.exit)

pub all_end : (exe : Exe) (key : BlockKey) → EndInJump (items_of exe key)
unfolding items_of
all_end exe key = let c = choice_of exe key in behind c (lines_items c c.split.body) (exit_items exe key c c.block.exit) (exit_ends c exe key c.block.exit)

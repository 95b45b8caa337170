-- The items of a fragment: each instruction has an encoding, each label stands once, and there are few.
use Rattle.std.proofs.Common.{◌≡◌, ℕ, zero, suc, ◌+◌, ◌*◌, ◌^◌, ◌<◌, ◌≤◌, Bool, true, false, List, [], ◌∷◌, ◌++◌, length, map, get_or, take, Option, None, Some, refl, sym, ap, ◌∙◌, subst, arith, length-append}
use Rattle.std.specs.Prelude.{nat_lt, nat_eq, All}
use Rattle.std.proofs.lemmas.List.{length-map}
use Rattle.std.proofs.lemmas.Bool.{lt-ltb}
use Rattle.br_word.specs.declared.types.Width.TheVariants.{B32}
use Rattle.elf_read.specs.declared.exe.Exe.{Exe}
use Rattle.ia_inst.specs.declared.inst.Inst.{Inst}
use Rattle.ia_inst.specs.declared.inst.Inst.TheVariants.{Alu, JmpRm}
use Rattle.ia_inst.specs.declared.inst.Src.TheVariants as src
use Rattle.ia_inst.specs.Canonical.{valid_of, canonical}
use Rattle.ia_inst.specs.Instructions.{decode_of}
use Rattle.ia_encode.specs.declared.item.Dest.{Dest}
use Rattle.ia_encode.specs.declared.item.Dest.TheVariants as dests
use Rattle.ia_encode.specs.declared.item.Item.{Item}
use Rattle.ia_encode.specs.declared.item.Item.TheVariants as item
use Rattle.ia_encode.specs.Items.{Lacks, AreDistinct, AreValid, size_of_items}
use Rattle.ssa_form.specs.declared.form.TheConstants.{REGISTERS}
use Rattle.ssa_form.specs.declared.form.Line.{Line}
use Rattle.ssa_form.specs.declared.form.Line.TheVariants.{Gone}
use Rattle.ssa_form.specs.declared.form.Val.{Val}
use Rattle.ssa_form.specs.declared.form.Val.TheVariants as val
use Rattle.ssa_form.specs.declared.form.Exit.{Exit}
use Rattle.ssa_form.specs.declared.form.Exit.TheVariants as exits
use Rattle.ssa_form.specs.declared.form.BlockKey.{BlockKey}
use Rattle.ssa_form.specs.Value.{numbered}
use Rattle.ssa_form.specs.Same.{rows}
use Rattle.par_moves.specs.declared.locations.Place.{Place}
use Rattle.par_moves.specs.Homes.{home_of, register_homes}
use Rattle.par_moves.specs.Locations.{IsFit}
use Rattle.reg_place.specs.Laws.{EachPlaced, HomesLie, OfSplits, PlacesLie}
use Rattle.reg_place.specs.Places.{is_in, placed}
use Rattle.emit_ops.specs.Templates.{eax, held_by, move_code}
use Rattle.emit_ops.specs.Placed.{place_at, AreHeld}
use Rattle.emit_ops.specs.Sequences.{kept, lines_code, moves_code, live_moves, in_order}
use Rattle.fall_stubs.specs.Exchange.{opening_items, island_items}
use Rattle.block_make.specs.declared.fragment.TheConstants.{MAX_EXITS}
use Rattle.block_make.specs.Choices.{Choice, choice_of, place_in, ready}
use Rattle.block_make.specs.FragmentItems.{lines_items, moves_items, source_in, tail_items, regain_items, stub_items, part_items, cond_items, aim_items, compare_items, tails_items, way_stub_items, dest_of, own_bytes, exit_items, items_of}
use Rattle.block_make.specs.Keys.{live_at, has}
use Rattle.block_make.specs.Prepared.{SpellsFew, IsFound, is_done, ArePlaced}
use Rattle.block_make.specs.Laws.{AreWords, IsLifted, SplitsAreClosed}
use Rattle.block_make.proofs.Splits.{IsWhole, whole, found_fits, ExitFound, exit_found, lines_held, outs_found}
use Rattle.block_make.proofs.Placing.{placed_so, body_done, sunk_done}
use Rattle.block_make.proofs.Sequence.{AllFit, fit_sequenced, sequenced_length, live_fit, live_length}
use Rattle.block_make.proofs.Validity.{into, moves_valid, RowsHeld, lines_valid, puts_valid, valid_append, opening_valid, island_valid, lack_append, lack_puts, puts_distinct, HasOne, distinct_append, opening_one, island_distinct}
use Rattle.block_make.proofs.Counts.{AreShort, size_most, lines_count, rows_count, moves_count}

-- no encoding is longer than fifteen bytes
pub short : ((i : Inst) (rest : List ℕ) → valid_of i ≡ true → decode_of (canonical i ++ rest) ≡ Some (i, length (canonical i))) → ((bs : List ℕ) (i : Inst) (n : ℕ) → decode_of bs ≡ Some (i, n) → (1 ≤ n) × (n ≤ 15) × (n ≤ length bs)) → AreShort
short trip most i v = (most (canonical i ++ []) i (length (canonical i)) (trip i [] v)).1

rows_held : (places : List (Option Place)) (keep : ℕ → Bool) (ls : List Line) (i : ℕ) → ((k : ℕ) → k < length ls → keep (i + k) ≡ true → AreHeld places (i + k) (get_or ls k Gone)) → RowsHeld places keep (numbered i ls)
rows_held places keep [] i h = tt
rows_held places keep (l ∷ ls) i h =
    let z : i + 0 ≡ i = omega arith in
    let P : ℕ → Line → Type 0 = λ j x. keep j ≡ true → AreHeld places j x in (
      subst (λ (j : ℕ). P j l) z (h 0 (omega arith)),
      rows_held places keep ls (suc i) (λ k lt. let e : i + suc k ≡ suc i + k = omega arith in subst (λ (j : ℕ). P j (get_or ls k Gone)) e (h (suc k) (omega arith))),
    )

pub words_all : (es : List (ℕ × ℕ)) → ((k : ℕ) → k < length es → (get_or es k (0, 0)).0 < 2 ^ 32) → AreWords es
words_all [] h = tt
words_all (e ∷ es) h = (h 0 (omega arith), words_all es (λ k l. h (suc k) (omega arith)))

pub items_are : (exe : Exe) (key : BlockKey) (c : Choice) (p q r : List Item) (set : List Bool) → p ≡ [] → set ≡ c.split.body → q ≡ p ++ lines_items c set → r ≡ q ++ exit_items exe key c c.block.exit → r ≡ lines_items c c.split.body ++ exit_items exe key c c.block.exit
items_are exe key c p q r set a b d e =
    e ∙ ap (λ (xs : List Item). xs ++ exit_items exe key c c.block.exit) (d ∙ ap (λ (xs : List Item). xs ++ lines_items c set) a ∙ ap (λ (s : List Bool). lines_items c s) b)

module _ (c : Choice) (h : ArePlaced c.block c.split (placed c.block c.split)) where
  abbrev places : List (Option Place)
  places = placed c.block c.split

  lines_ok : (set : List Bool) → ((i : ℕ) → is_in set i ≡ true → is_done c.split i ≡ true) → AreValid (lines_items c set)
  lines_ok set done =
      let P : ℕ → ℕ → Type 0 = λ k j. is_in set j ≡ true → AreHeld places j (get_or c.block.lines k Gone) in
      puts_valid (lines_code home_of (place_in c) (kept (is_in set) (rows c.block)))
      (lines_valid h.homes places (is_in set) (rows c.block) (rows_held places (is_in set) c.block.lines 0 (λ k l. let z : k ≡ 0 + k = omega arith in subst (P k) z (λ d. lines_held c.block c.split places h k l (done k d)))))

  body_ok : AreValid (lines_items c c.split.body)
  body_ok = lines_ok c.split.body (body_done c.split)

  sunk_ok : AreValid (lines_items c c.split.sunk)
  sunk_ok = lines_ok c.split.sunk (sunk_done c.split)

  lines_few : (set : List Bool) → length (lines_items c set) ≤ 12288
  lines_few set =
      let few = h.few in
      let n = rows_count 0 c.block.lines in
      let m = lines_count home_of (place_in c) (is_in set) (rows c.block) in
      let e = length-map (lines_code home_of (place_in c) (kept (is_in set) (rows c.block))) item.Inst in
      omega (arith, few, n, m, e)

  moves_ok : (live : ℕ → Bool) → AreValid (moves_items c live)
  moves_ok live =
      let ms = live_moves home_of (place_in c) live 0 c.block.outs in
      let n = (whole c.block h.whole).count in
      puts_valid (moves_code (in_order ms)) (moves_valid (in_order ms) (fit_sequenced (length ms) ms
      (live_fit h.homes (place_in c) live 0 c.block.outs (omega arith) (λ k l. found_fits h.homes places (get_or c.block.outs k (val.Num 0)) (outs_found c.block c.split places h k l)))))

  moves_few : (live : ℕ → Bool) → length (moves_items c live) ≤ 56
  moves_few live =
      let ms = live_moves home_of (place_in c) live 0 c.block.outs in
      let n = (whole c.block h.whole).count in
      let a = live_length (place_in c) live 0 c.block.outs in
      let b = sequenced_length (length ms) ms in
      let d = moves_count (in_order ms) in
      let e = length-map (moves_code (in_order ms)) item.Inst in
      omega (arith, n, a, b, d, e)

  -- ---- parts
  tail_ok : (set y : ℕ) → AreValid (tail_items c set y)
  tail_ok set y = valid_append (moves_items c (has set)) (item.Jump None (dests.Block y) ∷ []) (moves_ok (has set)) (tt, tt)

  tail_few : (set y : ℕ) → length (tail_items c set y) ≤ 57
  tail_few set y =
      let a = moves_few (has set) in
      let e = length-append (moves_items c (has set)) (item.Jump None (dests.Block y) ∷ []) in
      omega (arith, a, e)

  regain_ok : (label : ℕ) → AreValid (regain_items c label)
  regain_ok label = valid_append (lines_items c c.split.sunk) (moves_items c (λ v. true) ++ opening_items register_homes label) sunk_ok
      (valid_append (moves_items c (λ v. true)) (opening_items register_homes label) (moves_ok (λ v. true)) (opening_valid label))

  regain_few : (label : ℕ) → length (regain_items c label) ≤ 12400
  regain_few label =
      let a = lines_few c.split.sunk in
      let b = moves_few (λ v. true) in
      let d = length-append (lines_items c c.split.sunk) (moves_items c (λ v. true) ++ opening_items register_homes label) in
      let e = length-append (moves_items c (λ v. true)) (opening_items register_homes label) in
      let f : length (opening_items register_homes label) ≡ 32 = refl in
      omega (arith, a, b, d, e, f)

  stub_ok : (label y : ℕ) → AreValid (stub_items c label y)
  stub_ok label y = valid_append (regain_items c label) (item.Jump None (dests.Original y) ∷ []) (regain_ok label) (tt, tt)

  stub_few : (label y : ℕ) → length (stub_items c label y) ≤ 12401
  stub_few label y =
      let a = regain_few label in
      let e = length-append (regain_items c label) (item.Jump None (dests.Original y) ∷ []) in
      omega (arith, a, e)

  part_ok : (label y : ℕ) (o : Option ℕ) → AreValid (part_items c label y o)
  part_ok label y None = stub_ok label y
  part_ok label y (Some set) = tail_ok set y

  part_few : (label y : ℕ) (o : Option ℕ) → length (part_items c label y o) ≤ 12401
  part_few label y None = stub_few label y
  part_few label y (Some set) = let a = tail_few set y in omega (arith, a)

  -- ---- exits
  cond_ok : (test : Val) (next taken : List Item) → IsFound places test → AreValid next → AreValid taken → AreValid (cond_items c test next taken)
  cond_ok test next taken i n t = (into 0 (source_in c test) (omega arith) (found_fits h.homes places test i), (refl, (omega arith, valid_append next (item.Label 2 ∷ taken) n t)))

  cond_few : (test : Val) (next taken : List Item) → length next ≤ 12401 → length taken ≤ 12401 → length (cond_items c test next taken) ≤ 25000
  cond_few test next taken n t = let e = length-append next (item.Label 2 ∷ taken) in omega (arith, e, n, t)

  aim_ok : (v : Val) → IsFound places v → AreValid (aim_items c v)
  aim_ok v i = (into 0 (source_in c v) (omega arith) (found_fits h.homes places v i), tt)

  way_stub_ok : (v : Val) → IsFound places v → AreValid (way_stub_items c v)
  way_stub_ok v i = (into 0 (source_in c v) (omega arith) (found_fits h.homes places v i), (refl, valid_append (regain_items c 0) _ (regain_ok 0) (refl, tt)))

  way_stub_few : (v : Val) → length (way_stub_items c v) ≤ 12403
  way_stub_few v =
      let a = regain_few 0 in
      let e = length-append (regain_items c 0) (item.Inst (JmpRm (Rattle.par_moves.specs.Locations.rm_of (Rattle.par_moves.specs.declared.locations.Place.TheVariants.Slot 15))) ∷ []) in
      omega (arith, a, e)

  compare_ok : (label : ℕ) (es : List (ℕ × ℕ)) → AreWords es → AreValid (compare_items label es)
  compare_ok label [] w = tt
  compare_ok label (e ∷ es) w = (lt-ltb e.0 (2 ^ 32) w.0, (omega arith, compare_ok (suc label) es w.1))

  compare_few : (label : ℕ) (es : List (ℕ × ℕ)) → length (compare_items label es) ≡ 2 * length es
  compare_few label [] = refl
  compare_few label (e ∷ es) = let t = compare_few (suc label) es in omega (arith, t)

  tails_ok : (label : ℕ) (es : List (ℕ × ℕ)) → AreValid (tails_items c label es)
  tails_ok label [] = tt
  tails_ok label (e ∷ es) = valid_append (tail_items c e.1 e.0) (tails_items c (suc label) es) (tail_ok e.1 e.0) (tails_ok (suc label) es)

  tails_few : (label : ℕ) (es : List (ℕ × ℕ)) → length (tails_items c label es) ≤ 58 * length es
  tails_few label [] = omega arith
  tails_few label (e ∷ es) =
      let a = tail_few e.1 e.0 in
      let t = tails_few (suc label) es in
      let n = length-append (tail_items c e.1 e.0) (tails_items c (suc label) es) in
      omega (arith, a, t, n)

  pub exit_ok : (exe : Exe) (key : BlockKey) (e : Exit) → AreWords key.exits → ExitFound c.block c.split places h e → AreValid (exit_items exe key c e)
  exit_ok exe key (exits.Jump to) w x = part_ok 0 to (live_at key.exits to)
  exit_ok exe key (exits.Cond test taken next) w x = cond_ok test (part_items c 0 next (live_at key.exits next)) (part_items c 1 taken (live_at key.exits taken)) x (part_ok 0 next (live_at key.exits next)) (part_ok 1 taken (live_at key.exits taken))
  exit_ok exe key (exits.Way v) w x =
      valid_append (aim_items c v) (compare_items 1 key.exits ++ (way_stub_items c v ++ tails_items c 1 key.exits)) (aim_ok v x)
      (valid_append (compare_items 1 key.exits) (way_stub_items c v ++ tails_items c 1 key.exits) (compare_ok 1 key.exits w)
      (valid_append (way_stub_items c v) (tails_items c 1 key.exits) (way_stub_ok v x) (tails_ok 1 key.exits)))
  exit_ok exe key (exits.Island len) w x = island_valid (own_bytes exe key.start len) 0 (dest_of (key.start + len) (live_at key.exits (key.start + len)))

  take_few : (n : ℕ) (xs : List ℕ) → length (take n xs) ≤ n
  take_few zero xs = omega arith
  take_few (suc n) [] = omega arith
  take_few (suc n) (x ∷ xs) = let t = take_few n xs in omega (arith, t)

  island_few : (bytes : List ℕ) (label : ℕ) (next : Dest) → length bytes < 256 → length (island_items register_homes bytes label next) ≤ 400
  island_few bytes label next l =
      let a = length-append (opening_items register_homes label) (map item.Byte bytes ++ Rattle.fall_stubs.specs.Exchange.closing_items register_homes next) in
      let b = length-append (map item.Byte bytes) (Rattle.fall_stubs.specs.Exchange.closing_items register_homes next) in
      let d = length-map bytes item.Byte in
      let f : length (opening_items register_homes label) ≡ 32 = refl in
      let g : length (Rattle.fall_stubs.specs.Exchange.closing_items register_homes next) ≡ 17 = refl in
      omega (arith, l, a, b, d, f, g)

  pub exit_few : (exe : Exe) (key : BlockKey) (e : Exit) → length key.exits ≤ MAX_EXITS → SpellsFew e → length (exit_items exe key c e) ≤ 5000000
  exit_few exe key (exits.Jump to) m x = let a = part_few 0 to (live_at key.exits to) in omega (arith, a)
  exit_few exe key (exits.Cond test taken next) m x =
      let a = cond_few test (part_items c 0 next (live_at key.exits next)) (part_items c 1 taken (live_at key.exits taken)) (part_few 0 next (live_at key.exits next)) (part_few 1 taken (live_at key.exits taken)) in
      omega (arith, a)
  exit_few exe key (exits.Way v) m x =
      let a = length-append (aim_items c v) (compare_items 1 key.exits ++ (way_stub_items c v ++ tails_items c 1 key.exits)) in
      let b = length-append (compare_items 1 key.exits) (way_stub_items c v ++ tails_items c 1 key.exits) in
      let d = length-append (way_stub_items c v) (tails_items c 1 key.exits) in
      let e = compare_few 1 key.exits in
      let f = way_stub_few v in
      let g = tails_few 1 key.exits in
      omega (arith, a, b, d, e, f, g, m)
  exit_few exe key (exits.Island len) m x =
      let t = take_few len (Rattle.elf_read.specs.Code.code_at key.start exe.segments) in
      let a = island_few (own_bytes exe key.start len) 0 (dest_of (key.start + len) (live_at key.exits (key.start + len))) (omega arith) in
      omega (arith, a)

  -- ---- fragments
  pub all_valid : (exe : Exe) (key : BlockKey) → AreWords key.exits → AreValid (lines_items c c.split.body ++ exit_items exe key c c.block.exit)
  all_valid exe key w = valid_append (lines_items c c.split.body) (exit_items exe key c c.block.exit) body_ok (exit_ok exe key c.block.exit w (exit_found c.block c.split places h))

  pub all_short : AreShort → (exe : Exe) (key : BlockKey) → AreWords key.exits → length key.exits ≤ MAX_EXITS → size_of_items (lines_items c c.split.body ++ exit_items exe key c c.block.exit) < 2 ^ 32
  all_short s exe key w m =
      let a = size_most s (lines_items c c.split.body ++ exit_items exe key c c.block.exit) (all_valid exe key w) in
      let b = length-append (lines_items c c.split.body) (exit_items exe key c c.block.exit) in
      let d = lines_few c.split.body in
      let e = exit_few exe key c.block.exit m h.exit in
      omega (arith, a, b, d, e)

-- given a block as lifting makes it
pub items_valid : SplitsAreClosed → OfSplits EachPlaced → PlacesLie → HomesLie → (exe : Exe) (key : BlockKey) → IsLifted (ready exe key.start) → AreWords key.exits → AreValid (items_of exe key)
unfolding items_of
items_valid closed each lie homes exe key h w =
    let c = choice_of exe key in
    all_valid c (placed_so closed each lie homes (ready exe key.start) key (placed c.block c.split) h.whole h.words h.exit h.few refl) exe key w

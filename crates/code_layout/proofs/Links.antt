-- Filling in the distances of fragments gives the code of their items.
use Rattle.std.proofs.Common.{◌≡◌, ℕ, ◌+◌, ◌-◌, ◌^◌, Bool, true, false, ◌||◌, List, [], ◌∷◌, ◌++◌, length, Option, Some, None, refl, sym, ap, ◌∙◌, arith, length-append}
use Rattle.std.specs.Prelude.{◌==◌, if◌then◌else◌}
use Rattle.std.proofs.lemmas.List.{append_assoc}
use Rattle.br_word.specs.Memory.{bytes_of}
use Rattle.elf_read.specs.declared.exe.Exe.{Exe}
use Rattle.ia_inst.specs.Meaning.{wrap}
use Rattle.ia_inst.specs.Canonical.{canonical}
use Rattle.ia_encode.specs.declared.item.Dest.{Dest}
use Rattle.ia_encode.specs.declared.item.Dest.TheVariants as dests
use Rattle.ia_encode.specs.declared.item.Item.{Item}
use Rattle.ia_encode.specs.declared.item.Item.TheVariants as item
use Rattle.ia_encode.specs.Items.{jump_inst, size_of_jump, size_of_item, size_of_items, bytes_of_item, bytes_of_items, distance, dest_at, with_labels, is_label, label_at}
use Rattle.ssa_form.specs.declared.form.BlockKey.{BlockKey}
use Rattle.block_make.specs.FragmentItems.{items_of}
use Rattle.block_make.specs.FragmentCode.{open_bytes, open_items, fix_of, fixes_of, code_of_items, coded}
use Rattle.code_layout.specs.declared.place.TheConstants.{CODE_START}
use Rattle.code_layout.specs.Linked.{entry_items, address_in, goes_out, bytes_at, bytes_from, first_at, linked, fragments_of, has_key, code_of_keys}
use Rattle.code_layout.specs.Layout.{Added, with_word, filled, filled_code, filled_from, added_length, added_at, code_length, layout_code, layout_of, added_of}
use Rattle.code_layout.proofs.Fills.{word_front, filled_append, goes_same, filled_same}
use Rattle.code_layout.proofs.Labels.{has_label, Resolved, Closed, fragment_closed, entry_closed}

-- ---- sizes

length_open_item : (dest : Dest → ℕ) (at : ℕ) (i : Item) → length (open_bytes dest at i) ≡ size_of_item i
length_open_item dest at (item.Inst i) = refl
length_open_item dest at (item.Byte b) = refl
length_open_item dest at (item.Label l) = refl
length_open_item dest at (item.Jump None (dests.Block y)) = refl
length_open_item dest at (item.Jump None (dests.Original y)) = refl
length_open_item dest at (item.Jump None (dests.Label l)) = refl
length_open_item dest at (item.Jump (Some c) (dests.Block y)) = refl
length_open_item dest at (item.Jump (Some c) (dests.Original y)) = refl
length_open_item dest at (item.Jump (Some c) (dests.Label l)) = refl

pub length_open : (dest : Dest → ℕ) (at : ℕ) (is : List Item) → length (open_items dest at is) ≡ size_of_items is
length_open dest at [] = refl
length_open dest at (i ∷ is) = omega (arith, length-append (open_bytes dest at i) (open_items dest (at + size_of_item i) is), length_open_item dest at i, length_open dest (at + size_of_item i) is)

length_item : (dest : Dest → ℕ) (at : ℕ) (i : Item) → length (bytes_of_item dest at i) ≡ size_of_item i
length_item dest at (item.Inst i) = refl
length_item dest at (item.Byte b) = refl
length_item dest at (item.Label l) = refl
length_item dest at (item.Jump None d) = refl
length_item dest at (item.Jump (Some c) d) = refl

length_items : (dest : Dest → ℕ) (at : ℕ) (is : List Item) → length (bytes_of_items dest at is) ≡ size_of_items is
length_items dest at [] = refl
length_items dest at (i ∷ is) = omega (arith, length-append (bytes_of_item dest at i) (bytes_of_items dest (at + size_of_item i) is), length_item dest at i, length_items dest (at + size_of_item i) is)

-- ---- labels

label_moves : (at off to : ℕ) (is : List Item) (l : ℕ) → to ≡ at + off → has_label l is ≡ true → label_at to is l ≡ at + label_at off is l
label_moves at off to [] l e h = cc
label_moves at off to (i ∷ is) l e h = go (is_label l i) h (label_moves at (off + size_of_item i) (to + size_of_item i) is l (omega arith))
  where
    go : (b : Bool) → (b || has_label l is) ≡ true → (has_label l is ≡ true → label_at (to + size_of_item i) is l ≡ at + label_at (off + size_of_item i) is l) → (if b then to else label_at (to + size_of_item i) is l) ≡ at + (if b then off else label_at (off + size_of_item i) is l)
    go true h r = e
    go false h r = r h

same_distance : (at end to from place : ℕ) → to ≡ at + place → from ≡ at + end → distance end place ≡ distance from to
same_distance at end to from place e f = let s : place + 2 ^ 32 - end ≡ to + 2 ^ 32 - from = omega arith in ap wrap s

-- ---- one item

module _ (goes : Dest → ℕ) (at : ℕ) (all : List Item) where
  abbrev near : Dest → ℕ
  near = dest_at (λ y. 0) 0 all

  abbrev far : Dest → ℕ
  far = with_labels goes at all

  abbrev Fills : ℕ → Item → Type 0
  Fills off i = (front rest : List ℕ) → length front ≡ off → filled goes at (fix_of off i) (front ++ (open_bytes near off i ++ rest)) ≡ front ++ (bytes_of_item far (at + off) i ++ rest)

  word_at : (front x : List ℕ) (m k end to : ℕ) → m ≡ length front + k → at + m + 4 ≡ end → with_word m (distance (at + m + 4) to) (front ++ x) ≡ front ++ with_word k (distance end to) x
  word_at front x m k end to e f = ap (λ z. with_word m (distance z to) (front ++ x)) f ∙ word_front front x m k (distance end to) e

  fills_block : (off : ℕ) (cond : Option ℕ) (y : ℕ) → Fills off (item.Jump cond (dests.Block y))
  unfolding bytes_of
  fills_block off None y front rest e = word_at front (canonical (jump_inst None 0) ++ rest) (off + 5 - 4) 1 (at + off + 5) (goes (dests.Block y)) (omega arith) (omega arith)
  fills_block off (Some c) y front rest e = word_at front (canonical (jump_inst (Some c) 0) ++ rest) (off + 6 - 4) 2 (at + off + 6) (goes (dests.Block y)) (omega arith) (omega arith)

  fills_original : (off : ℕ) (cond : Option ℕ) (y : ℕ) → Fills off (item.Jump cond (dests.Original y))
  unfolding bytes_of
  fills_original off None y front rest e = word_at front (canonical (jump_inst None 0) ++ rest) (off + 5 - 4) 1 (at + off + 5) (goes (dests.Original y)) (omega arith) (omega arith)
  fills_original off (Some c) y front rest e = word_at front (canonical (jump_inst (Some c) 0) ++ rest) (off + 6 - 4) 2 (at + off + 6) (goes (dests.Original y)) (omega arith) (omega arith)

  fills_label : (off : ℕ) (cond : Option ℕ) (l : ℕ) → has_label l all ≡ true → Fills off (item.Jump cond (dests.Label l))
  fills_label off cond l h front rest e =
      let z : at ≡ at + 0 = omega arith in
      ap (λ d. front ++ (canonical (jump_inst cond d) ++ rest)) (same_distance at (off + size_of_jump cond) (label_at at all l) (at + off + size_of_jump cond) (label_at 0 all l) (label_moves at 0 at all l z h) (omega arith))

  fills_rest : (off : ℕ) (i : Item) (is : List Item) (front : List ℕ) → length front ≡ off → Fills off i
      → ((front : List ℕ) → length front ≡ off + size_of_item i → filled goes at (fixes_of (off + size_of_item i) is) (front ++ open_items near (off + size_of_item i) is) ≡ front ++ bytes_of_items far (at + (off + size_of_item i)) is)
      → filled goes at (fixes_of off (i ∷ is)) (front ++ open_items near off (i ∷ is)) ≡ front ++ bytes_of_items far (at + off) (i ∷ is)
  fills_rest off i is front e one more =
      let n = off + size_of_item i in
      let b = bytes_of_item far (at + off) i in
      let s : at + n ≡ at + off + size_of_item i = omega arith in
      filled_append goes at (fix_of off i) (fixes_of n is) (front ++ (open_bytes near off i ++ open_items near n is))
      ∙ ap (filled goes at (fixes_of n is)) (one front (open_items near n is) e ∙ sym (append_assoc front b (open_items near n is)))
      ∙ more (front ++ b) (omega (arith, length-append front b, length_item far (at + off) i, e))
      ∙ append_assoc front b (bytes_of_items far (at + n) is)
      ∙ ap (λ z. front ++ (b ++ bytes_of_items far z is)) s

  fills : (off : ℕ) (is : List Item) (front : List ℕ) → length front ≡ off → Resolved all is → filled goes at (fixes_of off is) (front ++ open_items near off is) ≡ front ++ bytes_of_items far (at + off) is
  fills off [] front e h = refl
  fills off (item.Inst i ∷ is) front e h = fills_rest off (item.Inst i) is front e (λ f r d. refl) (λ f d. fills (off + length (canonical i)) is f d h)
  fills off (item.Byte b ∷ is) front e h = fills_rest off (item.Byte b) is front e (λ f r d. refl) (λ f d. fills (off + 1) is f d h)
  fills off (item.Label l ∷ is) front e h = fills_rest off (item.Label l) is front e (λ f r d. refl) (λ f d. fills (off + 0) is f d h)
  fills off (item.Jump cond (dests.Label l) ∷ is) front e h = fills_rest off (item.Jump cond (dests.Label l)) is front e (fills_label off cond l h.0) (λ f d. fills (off + size_of_jump cond) is f d h.1)
  fills off (item.Jump cond (dests.Block y) ∷ is) front e h = fills_rest off (item.Jump cond (dests.Block y)) is front e (fills_block off cond y) (λ f d. fills (off + size_of_jump cond) is f d h)
  fills off (item.Jump cond (dests.Original y) ∷ is) front e h = fills_rest off (item.Jump cond (dests.Original y)) is front e (fills_original off cond y) (λ f d. fills (off + size_of_jump cond) is f d h)

  pub fills_all : Closed all → filled_code goes at (code_of_items all) ≡ bytes_at goes at all
  fills_all h = let z : at + 0 ≡ at = omega arith in fills 0 all [] refl h ∙ ap (λ n. bytes_of_items far n all) z

-- ---- fragments

module _ (exe : Exe) where
  pub length_coded : (key : BlockKey) → length (coded exe key).bytes ≡ size_of_items (items_of exe key)
  unfolding coded
  length_coded key = length_open (dest_at (λ y. 0) 0 (items_of exe key)) 0 (items_of exe key)

  coded_filled : (goes : Dest → ℕ) (at : ℕ) (key : BlockKey) → filled_code goes at (coded exe key) ≡ bytes_at goes at (items_of exe key)
  unfolding coded
  coded_filled goes at key = fills_all goes at (items_of exe key) (fragment_closed exe key)

  same_addresses : (at : ℕ) (keys : List BlockKey) (y : ℕ) → added_at at (added_of exe keys) y ≡ address_in at (fragments_of exe keys) y
  same_addresses at [] y = refl
  same_addresses at (key ∷ keys) y =
      ap (λ r. if key.start == y then at else r) (
      ap (λ n. added_at (at + n) (added_of exe keys) y) (length_coded key)
      ∙ same_addresses (at + size_of_items (items_of exe key)) keys y)

  from_same : (goes : Dest → ℕ) (at : ℕ) (keys : List BlockKey) → filled_from goes at (added_of exe keys) ≡ bytes_from goes at (fragments_of exe keys)
  from_same goes at [] = refl
  from_same goes at (key ∷ keys) =
      ap (λ l. l ++ filled_from goes (at + length (coded exe key).bytes) (added_of exe keys)) (coded_filled goes at key)
      ∙ ap (λ n. bytes_at goes at (items_of exe key) ++ filled_from goes (at + n) (added_of exe keys)) (length_coded key)
      ∙ ap (λ l. bytes_at goes at (items_of exe key) ++ l) (from_same goes (at + size_of_items (items_of exe key)) keys)

  from_addresses : (p q : Dest → ℕ) → ((d : Dest) → p d ≡ q d) → (at : ℕ) (list : List Added) → filled_from p at list ≡ filled_from q at list
  from_addresses p q e at [] = refl
  from_addresses p q e at (a ∷ more) =
      ap (λ l. l ++ filled_from p (at + length a.code.bytes) more) (filled_same p q e at a.code.fixes a.code.bytes)
      ∙ ap (λ l. filled_code q at a.code ++ l) (from_addresses p q e (at + length a.code.bytes) more)

  length_entry : (entry : ℕ) (known : Bool) → length (code_of_items (entry_items entry known)).bytes ≡ size_of_items (entry_items entry known)
  length_entry entry known = length_open (dest_at (λ y. 0) 0 (entry_items entry known)) 0 (entry_items entry known)

  pub code_links : (out : ℕ → ℕ) (keys : List BlockKey) → layout_code out (layout_of exe keys) ≡ code_of_keys out exe keys
  unfolding layout_code linked
  code_links out keys =
      let entry = entry_items exe.entry (has_key keys exe.entry) in
      let from = CODE_START + length (code_of_items entry).bytes in
      let list = added_of exe keys in
      let there = added_at from list in
      let here = address_in (first_at entry) (fragments_of exe keys) in
      let p = goes_out there out in
      let q = goes_out here out in
      let n : from ≡ first_at entry = ap (λ n. CODE_START + n) (length_entry exe.entry (has_key keys exe.entry)) in
      let same = goes_same there here out (λ y. ap (λ n. added_at n list y) n ∙ same_addresses (first_at entry) keys y) in
      ap (λ l. l ++ filled_from p from list) (filled_same p q same CODE_START (code_of_items entry).fixes (code_of_items entry).bytes ∙ fills_all q CODE_START entry (entry_closed exe.entry (has_key keys exe.entry)))
      ∙ ap (λ l. bytes_at q CODE_START entry ++ l) (from_addresses p q same from list ∙ ap (λ n. filled_from q n list) n ∙ from_same q (first_at entry) keys)

  length_from : (goes : Dest → ℕ) (at : ℕ) (keys : List BlockKey) → length (bytes_from goes at (fragments_of exe keys)) ≡ added_length (added_of exe keys)
  length_from goes at [] = refl
  length_from goes at (key ∷ keys) =
      let is = items_of exe key in
      omega (arith, length-append (bytes_at goes at is) (bytes_from goes (at + size_of_items is) (fragments_of exe keys)), length_items (with_labels goes at is) at is, length_coded key, length_from goes (at + size_of_items is) keys)

  pub length_links : (out : ℕ → ℕ) (keys : List BlockKey) → length (code_of_keys out exe keys) ≡ code_length (layout_of exe keys)
  unfolding linked
  length_links out keys =
      let entry = entry_items exe.entry (has_key keys exe.entry) in
      let q = goes_out (address_in (first_at entry) (fragments_of exe keys)) out in
      omega (arith, length-append (bytes_at q CODE_START entry) (bytes_from q (first_at entry) (fragments_of exe keys)), length_items (with_labels q CODE_START entry) CODE_START entry, length_entry exe.entry (has_key keys exe.entry), length_from q (first_at entry) keys)

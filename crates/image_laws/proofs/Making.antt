-- Fragments are made of pieces that do what they have to.
use Rattle.std.proofs.Common.{◌≡◌, ℕ, ◌+◌, ◌^◌, ◌<◌, ◌≤◌, Bool, true, false, ◌&&◌, if◌then◌else◌, List, [], ◌∷◌, map, get_or, refl, sym, ap, ◌∙◌, subst, arith}
use Rattle.std.specs.Prelude.{not}
use Rattle.br_word.specs.Memory.{Region}
use Rattle.elf_read.specs.declared.exe.Exe.{Exe}
use Rattle.ia_encode.specs.declared.item.Dest.{Dest}
use Rattle.ia_encode.specs.declared.item.Item.{Item}
use Rattle.ia_encode.specs.Items.{size_of_item, size_of_items, is_label, label_at, with_labels}
use Rattle.run_model.specs.Edges.{Edge}
use Rattle.block_cut.specs.Blocks.{block_of}
use Rattle.block_cut.specs.CountedEdges.{counting}
use Rattle.flow_graph.specs.Graph.{known_of}
use Rattle.lift_flow.specs.LiftedBlock.{lift_of}
use Rattle.par_moves.specs.Homes.{home_of}
use Rattle.block_make.specs.Choices.{ready, choice_of}
use Rattle.block_make.specs.Keys.{has}
use Rattle.block_make.specs.Laws.{ReadyKeeps}
use Rattle.code_layout.specs.Keys.{live_of}
use Rattle.sim_runs.specs.Recovered.{Coded, is_island_end, is_start_of, knows_of}
use Rattle.sim_runs.specs.Pieces.{Pieces, is_out, fragment_items, IsLinked, FragmentsMade, PathWithin, PathsWithin}
use Rattle.sim_runs.specs.Promised.{ServesAt}
use Rattle.piece_laws.specs.Choices.{Suits}
use Rattle.piece_laws.specs.Joined.{ItemsArePieces}
use Rattle.piece_laws.specs.Pieces.{PiecesDo, pieces_of, set_or_none, IsHome, LiveSets, GoesTo}
use Rattle.piece_laws.specs.Suited.{SuitsHold}
use Rattle.image_laws.specs.Coded.{key_at, start_items, address_of, goes_with, coding_at}
use Rattle.image_laws.specs.Linked.{HasFragments}
use Rattle.image_laws.specs.Stands.{CodeStands}
use Rattle.image_laws.specs.Serves.{HaveBytes, CodingsServe, EachIsLifted}
use Rattle.image_laws.specs.Made.{FragmentsAreMade, IsMade}
use Rattle.image_laws.proofs.Places.{JumpLengths}
use Rattle.image_laws.proofs.SameKinds.{ready_lifted, same_outs}
use Rattle.image_laws.proofs.Standing.{low}
use Rattle.image_laws.proofs.Exchanging.{live_there}

pub record Makes : Type 0 where
  pub lengths : JumpLengths
  pub stands : CodeStands
  pub serve : CodingsServe
  pub lifted : EachIsLifted
  pub keeps : ReadyKeeps
  pub joined : ItemsArePieces
  pub run : PiecesDo
  pub suit : SuitsHold

first_of_each : (live : ℕ → ℕ) (ys : List ℕ) → ys ≡ map (λ (e : ℕ × ℕ). e.0) (map (λ y. (y, live y)) ys)
first_of_each live [] = refl
first_of_each live (y ∷ ys) = ap (λ zs. y ∷ zs) (first_of_each live ys)

label_low : (is : List Item) (at l : ℕ) → label_at at is l ≤ at + size_of_items is
label_low [] at l = omega arith
label_low (i ∷ is) at l = decide (is_label l i) (label_low is (at + size_of_item i) l)
  where
    decide : (b : Bool) → label_at (at + size_of_item i) is l ≤ at + size_of_item i + size_of_items is → (if b then at else label_at (at + size_of_item i) is l) ≤ at + (size_of_item i + size_of_items is)
    decide true q = omega arith
    decide false q = omega (arith, q)

suited : SuitsHold → EachIsLifted → ReadyKeeps → (exe : Exe) (edges : List Edge) (x : ℕ) → HaveBytes exe → Suits (choice_of exe (key_at exe edges x))
suited suit lifted keeps exe edges x bytes = let h = ready_lifted lifted keeps exe x bytes in suit (choice_of exe (key_at exe edges x)) h.whole h.words

outs_small : ReadyKeeps → (exe : Exe) (edges : List Edge) (x : ℕ) → ((y : ℕ) → is_out (lift_of exe x).exit y ≡ true → y < 2 ^ 32) → (y : ℕ) → is_out (choice_of exe (key_at exe edges x)).block.exit y ≡ true → y < 2 ^ 32
outs_small keeps exe edges x h y e = h y (same_outs (lift_of exe x).exit (ready exe x).exit (keeps.kind exe x) y ∙ e)

-- ---- the recovered code, with what the fragments have in place of what is the same

abbrev pub settled : Exe → List Edge → Coded → Coded
settled exe edges c = record c { home = home_of; live = λ x v. has (live_of exe edges x) v; address = address_of exe edges }

pub settled_is : (exe : Exe) (edges : List Edge) (out : ℕ → ℕ) (c : Coded) → HasFragments exe edges out c → settled exe edges c ≡ c
settled_is exe edges out c has_all =
    ap (λ h. record c { home = h; live = λ x v. has (live_of exe edges x) v; address = address_of exe edges }) (sym has_all.registers.home)
    ∙ ap (λ l. record c { live = l; address = address_of exe edges }) (sym has_all.registers.live)
    ∙ ap (λ a. record c { address = a }) (sym has_all.address)

module _ (laws : Makes) (exe : Exe) (edges : List Edge) (out : ℕ → ℕ) (c : Coded) (bytes : HaveBytes exe) (linked : HasFragments exe edges out c) (small : (i : ℕ) → get_or c.code.bytes i 0 < 256) (made : (x : ℕ) → is_start_of exe edges x ≡ true → is_island_end (block_of exe x).end ≡ false → IsMade exe edges x) where
  abbrev code : Region
  code = c.code

  abbrev pieces : ℕ → Pieces
  pieces x = pieces_of (choice_of exe (key_at exe edges x)) (key_at exe edges x).exits

  serve : (x : ℕ) → is_start_of exe edges x ≡ true → is_island_end (block_of exe x).end ≡ false → ServesAt exe edges (settled exe edges c) x (coding_at exe edges x)
  serve x start plain = laws.serve exe edges (settled exe edges c) bytes (record { home = refl; live = refl }) x start plain

  parts : (x : ℕ) → is_start_of exe edges x ≡ true → is_island_end (block_of exe x).end ≡ false → start_items exe edges x ≡ fragment_items exe edges (coding_at exe edges x) (pieces x) x
  parts x start plain = laws.joined exe edges (key_at exe edges x) (lift_of exe x) (record { distinct = (made x start plain).exits; known = first_of_each (live_of exe edges) (known_of exe (counting exe edges) x) }) (serve x start plain).kind

  outs_same : (x y : ℕ) → is_out (lift_of exe x).exit y ≡ is_out (coding_at exe edges x).block.exit y
  outs_same x y = same_outs (lift_of exe x).exit (ready exe x).exit (laws.keeps.kind exe x) y

  -- an indirect exit leads to the address itself, and a direct one that is not known where out says
  literal : (x y : ℕ) → is_out (coding_at exe edges x).block.exit y ≡ false → c.beyond x y ≡ y
  literal x y n = linked.beyond x y ∙ ap (λ b. if b && not (knows_of exe edges x y) then out y else y) (outs_same x y ∙ n)

  to_out : (x y : ℕ) → is_out (coding_at exe edges x).block.exit y ≡ true → knows_of exe edges x y ≡ false → c.beyond x y ≡ out y
  to_out x y o off =
      linked.beyond x y
      ∙ ap (λ b. if b && not (knows_of exe edges x y) then out y else y) (outs_same x y ∙ o)
      ∙ ap (λ b. if true && not b then out y else y) off

  module _ (x : ℕ) (start : is_start_of exe edges x ≡ true) (plain : is_island_end (block_of exe x).end ≡ false) where
    abbrev items : List Item
    items = fragment_items exe edges (coding_at exe edges x) (pieces x) x

    abbrev dest : Dest → ℕ
    dest = with_labels (goes_with out exe edges) (address_of exe edges x) items

    linked_here : IsLinked code (goes_with out exe edges) (address_of exe edges x) items
    linked_here = let m = made x start plain in subst (IsLinked code (goes_with out exe edges) (address_of exe edges x)) (parts x start plain) (laws.stands.fragment exe edges out code linked.begins x start m.valid m.labels)

    goes : GoesTo (knows_of exe edges x) (settled exe edges c) x (choice_of exe (key_at exe edges x)).block.exit dest
    goes = record {
      block = λ y. refl;
      original = λ y o off. sym (to_out x y o off);
      label = λ l.
          let q = label_low items (address_of exe edges x) l in
          let size = ap size_of_items (parts x start plain) in
          let inside = laws.stands.inside exe edges out code linked.begins x start in
          let below = linked.here.below in
          omega (arith, q, size, inside, below);
      known = λ y k. let q = low laws.lengths exe edges out code linked.begins y in let below = linked.here.below in omega (arith, q, below);
      out = λ y o off. subst (λ n. n < 2 ^ 32) (sym (to_out x y o off)) (linked.low y (outs_small laws.keeps exe edges x (made x start plain).outs y o));
    }

  settled_made : FragmentsMade exe edges (settled exe edges c) (coding_at exe edges)
  settled_made = record {
    goes = goes_with out exe edges;
    literal = literal;
    pieces = pieces;
    linked = linked_here;
    run = λ x p t a start plain serves runs.
        let home : IsHome (settled exe edges c) = record { here = linked.here; bytes = small; home = λ v. refl } in
        let sets : LiveSets (knows_of exe edges x) (settled exe edges c).live (key_at exe edges x).exits = λ y k v l. ap (λ o. has (set_or_none o) v) (live_there (live_of exe edges) (known_of exe (counting exe edges) x) y k) in
        laws.run exe edges (settled exe edges c) x (choice_of exe (key_at exe edges x)) (key_at exe edges x).exits (dest x start plain) home serves (suited laws.suit laws.lifted laws.keeps exe edges x bytes) sets (goes x start plain) p t a runs;
  }

  -- which pieces they are
  same_pieces : (x : ℕ) → settled_made.pieces x ≡ pieces x
  unfolding settled_made
  same_pieces x = refl

  pub with_paths : (high : ℕ) → ((x : ℕ) → is_start_of exe edges x ≡ true → is_island_end (block_of exe x).end ≡ false → PathWithin exe edges (coding_at exe edges x) (pieces x) x high) → (m : FragmentsMade exe edges c (coding_at exe edges)) × PathsWithin exe edges c (coding_at exe edges) m high
  with_paths high paths =
      subst (λ d. (m : FragmentsMade exe edges d (coding_at exe edges)) × PathsWithin exe edges d (coding_at exe edges) m high) (settled_is exe edges out c linked)
      (settled_made, λ x start plain. subst (λ p. PathWithin exe edges (coding_at exe edges x) p x high) (sym (same_pieces x)) (paths x start plain))

  pub all_made : FragmentsMade exe edges c (coding_at exe edges)
  all_made = subst (λ d. FragmentsMade exe edges d (coding_at exe edges)) (settled_is exe edges out c linked) settled_made

pub fragments_made : Makes → FragmentsAreMade
fragments_made = all_made

-- Linked pieces that do what they have to give the law of fragments.
use Rattle.std.proofs.Common.{◌≡◌, ℕ, ◌+◌, ◌*◌, ◌≤◌, Bool, true, false, List, [], ◌∷◌, ◌++◌, length, Option, Some, None, refl, ap, ◌∙◌, arith, length-append, ◌⊎◌}
use Rattle.std.specs.Prelude.{IsTrue, nat_eq, if◌then◌else◌}
use Rattle.std.proofs.lemmas.Bool.{eqb-true}
use Rattle.ia_inst.specs.declared.inst.Inst.{Inst}
use Rattle.ia_inst.specs.declared.inst.Inst.TheVariants.{Jcc, Jmp}
use Rattle.ia_inst.specs.Canonical.{valid_of, canonical}
use Rattle.ia_inst.specs.Instructions.{decode_of}
use Rattle.ia_encode.specs.declared.item.Dest.{Dest}
use Rattle.ia_encode.specs.declared.item.Item.{Item}
use Rattle.ia_encode.specs.declared.item.Item.TheVariants.{Inst as Put, Byte, Jump, Label}
use Rattle.ia_encode.specs.Items.{size_of_items, size_of_jump, jump_inst, distance, bytes_of_items, AreValid, ItemsStand}
use Rattle.sim_runs.specs.Laws.{Arrives, Leaves}
use Rattle.elf_read.specs.declared.exe.Exe.{Exe}
use Rattle.run_model.specs.Edges.{Edge}
use Rattle.block_cut.specs.CountedEdges.{counting}
use Rattle.flow_graph.specs.Graph.{known_of}
use Rattle.ssa_form.specs.declared.form.Exit.{Exit}
use Rattle.ssa_form.specs.declared.form.Exit.TheVariants as exits
use Rattle.ia_encode.specs.declared.item.Dest.TheVariants as dests
use Rattle.sim_runs.specs.Recovered.{Coded, knows_of, plan_of}
use Rattle.sim_runs.specs.Coding.{Coding}
use Rattle.sim_runs.specs.Promised.{FragmentRuns}
use Rattle.sim_runs.specs.Passes.{count_of, chain, tails, is_in}
use Rattle.sim_runs.specs.Pieces.{Pieces, part_of, exit_items, ExitWithin, fragment_items, FragmentsMade, PathsWithin, FragmentsRun}
use Rattle.ia_encode.specs.Items.{with_labels}
use Rattle.sim_runs.proofs.Pass.{gets_map, gets_leads}
use Rattle.sim_runs.proofs.Pieces.{pieces_pass}

-- the laws of the encoder
pub record Encodes : Type 0 where
  pub stand : ItemsStand
  pub reread : (i : Inst) (rest : List ℕ) → IsTrue (valid_of i) → decode_of (canonical i ++ rest) ≡ Some (i, length (canonical i))
  pub length_of : (bs : List ℕ) (i : Inst) (n : ℕ) → decode_of bs ≡ Some (i, n) → (1 ≤ n) × (n ≤ 15) × (n ≤ length bs)
  pub jcc : (c d : ℕ) → length (canonical (Jcc c d)) ≡ 6
  pub jmp : (d : ℕ) → length (canonical (Jmp d)) ≡ 5

module _ (laws : Encodes) where
  jump_long : (c : Option ℕ) (d : ℕ) → length (canonical (jump_inst c d)) ≡ size_of_jump c
  jump_long None d = laws.jmp d
  jump_long (Some c) d = laws.jcc c d

  some : (i : Inst) → IsTrue (valid_of i) → 1 ≤ length (canonical i)
  some i v = (laws.length_of (canonical i ++ []) i (length (canonical i)) (laws.reread i [] v)).0

  bytes_long : (dest : Dest → ℕ) (is : List Item) (at : ℕ) → length (bytes_of_items dest at is) ≡ size_of_items is
  bytes_long dest [] at = refl
  bytes_long dest (Put i ∷ is) at = length-append (canonical i) (bytes_of_items dest (at + length (canonical i)) is) ∙ ap (λ n. length (canonical i) + n) (bytes_long dest is (at + length (canonical i)))
  bytes_long dest (Byte b ∷ is) at = let q = bytes_long dest is (at + 1) in omega (arith, q)
  bytes_long dest (Jump c to ∷ is) at =
      let bs = canonical (jump_inst c (distance (at + size_of_jump c) (dest to))) in
      let q = bytes_long dest is (at + size_of_jump c) in
      let l = jump_long c (distance (at + size_of_jump c) (dest to)) in
      let a = length-append bs (bytes_of_items dest (at + size_of_jump c) is) in
      omega (arith, a, q, l)
  bytes_long dest (Label l ∷ is) at = let q = bytes_long dest is (at + 0) in omega (arith, q)

  -- each instruction has a byte at least
  count_bytes : (is : List Item) → AreValid is → count_of is ≤ size_of_items is
  count_bytes [] g = omega arith
  count_bytes (Put i ∷ is) g = let q = count_bytes is g.1 in let r = some i g.0 in omega (arith, q, r)
  count_bytes (Byte b ∷ is) g = let q = count_bytes is g in omega (arith, q)
  count_bytes (Jump None to ∷ is) g = let q = count_bytes is g.1 in omega (arith, q)
  count_bytes (Jump (Some c) to ∷ is) g = let q = count_bytes is g.1 in omega (arith, q)
  count_bytes (Label m ∷ is) g = let q = count_bytes is g in omega (arith, q)

  -- each way through an exit is a part of it
  cut_count : (is js : List Item) → count_of (is ++ js) ≡ count_of is + count_of js
  cut_count [] js = omega arith
  cut_count (Put i ∷ is) js = let q = cut_count is js in omega (arith, q)
  cut_count (Byte b ∷ is) js = let q = cut_count is js in omega (arith, q)
  cut_count (Jump c d ∷ is) js = let q = cut_count is js in omega (arith, q)
  cut_count (Label l ∷ is) js = cut_count is js

  chain_long : (compare : ℕ → Inst) (label : ℕ → ℕ) (ys : List ℕ) → count_of (chain compare label ys) ≡ 2 * length ys
  chain_long compare label [] = refl
  chain_long compare label (y ∷ ys) = let q = chain_long compare label ys in omega (arith, q)

  tail_short : (tail : ℕ → List Item) (label : ℕ → ℕ) (ys : List ℕ) (v : ℕ) → is_in v ys ≡ true → count_of (tail v) ≤ count_of (tails tail label ys)
  tail_short tail label [] v i = absurd (let h : false ≡ true = i in cc)
  tail_short tail label (y ∷ ys) v i = go (nat_eq v y) refl i (tail_short tail label ys v) (cut_count (tail y) (tails tail label ys))
    where
      go : (b : Bool) → nat_eq v y ≡ b → (if b then true else is_in v ys) ≡ true → (is_in v ys ≡ true → count_of (tail v) ≤ count_of (tails tail label ys)) → count_of (tail y ++ tails tail label ys) ≡ count_of (tail y) + count_of (tails tail label ys) → count_of (tail v) ≤ count_of (tail y ++ tails tail label ys)
      go true q i r n = let z = ap (λ v. count_of (tail v)) (eqb-true v y q) in omega (arith, z, n)
      go false q i r n = let k = r i in omega (arith, k, n)

  exit_within : (knows : ℕ → Bool) (ys : List ℕ) (k : Pieces) (w : Exit) → ExitWithin knows ys k w (count_of (exit_items knows ys k w))
  exit_within knows ys k (exits.Jump to) = omega arith
  exit_within knows ys k (exits.Cond t taken next) =
      let a = cut_count k.ask (Jump (Some 5) (dests.Label k.other) ∷ (part_of knows k 0 next ++ (Label k.other ∷ part_of knows k 1 taken))) in
      let b = cut_count (part_of knows k 0 next) (Label k.other ∷ part_of knows k 1 taken) in
      (omega (arith, a, b), omega (arith, a, b))
  exit_within knows ys k (exits.Way v) =
      let a = cut_count k.aim (chain k.compare k.label ys ++ (k.way_stub ++ tails k.tail k.label ys)) in
      let b = cut_count (chain k.compare k.label ys) (k.way_stub ++ tails k.tail k.label ys) in
      let d = cut_count k.way_stub (tails k.tail k.label ys) in
      let m = chain_long k.compare k.label ys in
      (omega (arith, a, b, d, m), λ y i. let t = tail_short k.tail k.label ys y i in omega (arith, a, b, d, m, t))
  exit_within knows ys k (exits.Island len) = tt

  by_paths : (exe : Exe) (edges : List Edge) (c : Coded) (coding : ℕ → Coding) → (made : FragmentsMade exe edges c coding) → (high : ℕ) → PathsWithin exe edges c coding made high → FragmentRuns exe edges c coding high
  by_paths exe edges c coding made high paths x p t a cs start plain serves h =
      let pieces = made.pieces x in
      let is = fragment_items exe edges (coding x) pieces x in
      let k = made.linked x start plain in
      let dest = with_labels made.goes (c.address x) is in
      let stands = laws.stand c.code made.goes (c.address x) is k.front k.behind k.bytes k.place k.valid k.distinct in
      let run = made.run x p t a start plain serves h in
      let path = paths x start plain in
      let g = pieces_pass dest exe edges c x (coding x) serves p a h.small h.bytes h.allowed h.homes pieces run (made.literal x) h.home_bits h.out_bits path.exit path.ways (c.address x) t cs stands (h.sees, h.eip) in
      gets_leads _ _ t cs (gets_map _ (λ u. Arrives (plan_of exe edges c) x p a u ⊎ Leaves (plan_of exe edges c) x p a u) 1 1 _ high t cs (omega arith) path.fits (λ u h. h) g)

  by_length : (exe : Exe) (edges : List Edge) (c : Coded) (coding : ℕ → Coding) → FragmentsMade exe edges c coding → FragmentRuns exe edges c coding (length c.code.bytes)
  by_length exe edges c coding made = by_paths exe edges c coding made (length c.code.bytes) (λ x start plain.
      let pieces = made.pieces x in
      let is = fragment_items exe edges (coding x) pieces x in
      let k = made.linked x start plain in
      let dest = with_labels made.goes (c.address x) is in
      let long : length c.code.bytes ≡ length k.front + (length (bytes_of_items dest (c.address x) is) + length k.behind) =
      ap length k.bytes ∙ length-append k.front (bytes_of_items dest (c.address x) is ++ k.behind) ∙ ap (λ n. length k.front + n) (length-append (bytes_of_items dest (c.address x) is) k.behind) in
      let size = bytes_long dest is (c.address x) in
      let count = count_bytes is k.valid in
      let cut = cut_count pieces.body (exit_items (knows_of exe edges x) (known_of exe (counting exe edges) x) pieces (coding x).block.exit) in
      record {
        exit = count_of (exit_items (knows_of exe edges x) (known_of exe (counting exe edges) x) pieces (coding x).block.exit);
        ways = exit_within (knows_of exe edges x) (known_of exe (counting exe edges) x) pieces (coding x).block.exit;
        fits = omega (arith, long, size, count, cut);
      })

  pub fragments_run : FragmentsRun
  fragments_run = record { by_paths = by_paths; by_length = by_length }

-- No way through a fragment has many instructions, so none takes many steps.
use Rattle.std.proofs.Common.{◌≡◌, ℕ, ◌+◌, ◌*◌, ◌<◌, ◌≤◌, Bool, true, false, if◌then◌else◌, ◌||◌, List, [], ◌∷◌, ◌++◌, length, map, None, sym, ap, ◌∙◌, subst, arith, length-append, ⊎_elim}
use Rattle.std.specs.Prelude.{All, ◌==◌, ◌≢◌}
use Rattle.std.proofs.lemmas.Bool.{cases_lt}
use Rattle.std.proofs.lemmas.Bool.Decides.{eqb_tells}
use Rattle.std.proofs.lemmas.List.Elements.{All-head, All-tail}
use Rattle.elf_read.specs.declared.exe.Exe.{Exe}
use Rattle.elf_read.specs.Elf.{IsOriginal}
use Rattle.elf_read.proofs.Accepted.{original_is_guest}
use Rattle.ia_inst.specs.declared.inst.Inst.TheVariants.{JmpRm}
use Rattle.ia_encode.specs.declared.item.Dest.TheVariants as dests
use Rattle.ia_encode.specs.declared.item.Item.{Item}
use Rattle.ia_encode.specs.declared.item.Item.TheVariants as item
use Rattle.run_model.specs.Edges.{Edge}
use Rattle.block_cut.specs.CountedEdges.{counting}
use Rattle.block_cut.specs.Blocks.{block_of}
use Rattle.block_cut.specs.Transfers.{is_among}
use Rattle.flow_graph.specs.Graph.{Node, known_of, starts_in}
use Rattle.flow_graph.specs.GraphOf.{starts_of, graph_of}
use Rattle.ssa_form.specs.declared.form.Exit.{Exit}
use Rattle.ssa_form.specs.declared.form.Exit.TheVariants.{Jump, Cond, Way, Island}
use Rattle.par_moves.specs.declared.locations.Place.TheVariants.{Slot}
use Rattle.par_moves.specs.Locations.{rm_of}
use Rattle.par_moves.specs.Homes.{register_homes}
use Rattle.fall_stubs.specs.Exchange.{opening_items}
use Rattle.block_make.specs.Choices.{Choice, choice_of}
use Rattle.block_make.specs.Keys.{has}
use Rattle.block_make.specs.FragmentItems.{lines_items, moves_items, tail_items, regain_items, stub_items}
use Rattle.block_make.specs.CodesShort.{PartsShort}
use Rattle.code_layout.specs.declared.place.TheConstants.{MAX_CODE}
use Rattle.code_layout.specs.Linked.{itself, code_of}
use Rattle.code_layout.specs.Image.{image}
use Rattle.sim_runs.specs.Passes.{count_of}
use Rattle.sim_runs.specs.Pieces.{part_of, ExitWithin, FragmentsRun}
use Rattle.sim_runs.specs.Promised.{FragmentRuns}
use Rattle.sim_runs.specs.Recovered.{is_island_end, is_start_of, knows_of}
use Rattle.piece_laws.specs.Pieces.{set_of, ask_of, aim_of, way_of, pieces_of}
use Rattle.image_laws.specs.Coded.{key_at, coded_of, coding_at}
use Rattle.image_laws.specs.Exchanged.{OPENING_STEPS, CLOSING_STEPS, ENTRY_STEPS}
use Rattle.image_laws.specs.Serves.{HaveBytes}
use Rattle.image_laws.specs.Made.{FragmentsAreMade, EachIsMade}
use Rattle.image_laws.specs.Valid.{CodeIsBytes}
use Rattle.image_laws.specs.Quick.{KnowAtMost, fragment_steps, FragmentsQuick, FragmentsLinkedRun, IsQuick, ImagesQuick}
use Rattle.image_laws.proofs.Meeting.{Parts}
use Rattle.image_laws.proofs.Making.{Makes, with_paths}
use Rattle.image_laws.proofs.NoCopies.{no_copies, none_further}

-- ---- pieces

count_most : (is : List Item) → count_of is ≤ length is
count_most [] = omega arith
count_most (item.Inst i ∷ is) = omega (arith, count_most is)
count_most (item.Byte b ∷ is) = omega (arith, count_most is)
count_most (item.Jump cond d ∷ is) = omega (arith, count_most is)
count_most (item.Label l ∷ is) = omega (arith, count_most is)

module _ (parts : PartsShort) (c : Choice) (es : List (ℕ × ℕ)) (count : length c.block.outs ≤ 14) where
  abbrev sunk : ℕ
  sunk = length (lines_items c c.split.sunk)

  moves_most : (live : ℕ → Bool) → length (moves_items c live) ≤ 56
  moves_most live = omega (arith, parts.moves c live, count)

  tail_count : (set y : ℕ) → count_of (tail_items c set y) ≤ 57
  tail_count set y =
      omega (arith, count_most (tail_items c set y), moves_most (has set), length-append (moves_items c (has set)) (item.Jump None (dests.Block y) ∷ []))

  regain_length : (label : ℕ) → length (regain_items c label) ≤ sunk + 96
  regain_length label =
      let a = length-append (lines_items c c.split.sunk) (moves_items c (λ v. true) ++ opening_items register_homes label) in
      let b = length-append (moves_items c (λ v. true)) (opening_items register_homes label) in
      let d : length (opening_items register_homes label) ≤ 40 = omega arith in
      omega (arith, a, b, d, moves_most (λ v. true))

  stub_count : (label y : ℕ) → count_of (stub_items c label y) ≤ sunk + 97
  stub_count label y =
      omega (arith, count_most (stub_items c label y), regain_length label, length-append (regain_items c label) (item.Jump None (dests.Original y) ∷ []))

  part_count : (knows : ℕ → Bool) (label y : ℕ) → count_of (part_of knows (pieces_of c es) label y) ≤ sunk + 97
  part_count knows label y = by (knows y)
    where
      by : (b : Bool) → count_of (if b then (pieces_of c es).tail y else (pieces_of c es).stub label y) ≤ sunk + 97
      by true = omega (arith, tail_count (set_of es y) y)
      by false = stub_count label y

  ask_count : (e : Exit) → count_of (ask_of c e) ≤ 2
  ask_count (Jump to) = omega arith
  ask_count (Cond test taken next) = omega arith
  ask_count (Way v) = omega arith
  ask_count (Island len) = omega arith

  aim_count : (e : Exit) → count_of (aim_of c e) ≤ 1
  aim_count (Jump to) = omega arith
  aim_count (Cond test taken next) = omega arith
  aim_count (Way v) = omega arith
  aim_count (Island len) = omega arith

  way_count : (e : Exit) → count_of (way_of c e) ≤ sunk + 99
  way_count (Jump to) = omega arith
  way_count (Cond test taken next) = omega arith
  way_count (Way v) =
      let last = item.Inst (JmpRm (rm_of (Slot 15))) ∷ [] in
      omega (arith, count_most (regain_items c 0 ++ last), regain_length 0, length-append (regain_items c 0) last)
  way_count (Island len) = omega arith

  ways : (knows : ℕ → Bool) (ys : List ℕ) (e : Exit) → ExitWithin knows ys (pieces_of c es) e (sunk + 200 + 2 * length ys)
  ways knows ys (Jump to) = omega (arith, part_count knows 0 to)
  ways knows ys (Cond test taken next) =
      let a = ask_count c.block.exit in
      (omega (arith, a, part_count knows 0 next), omega (arith, a, part_count knows 1 taken))
  ways knows ys (Way v) =
      let a = aim_count c.block.exit in
      (omega (arith, a, way_count c.block.exit), λ y k. omega (arith, a, tail_count (set_of es y) y))
  ways knows ys (Island len) = tt

-- ---- known exits

module _ (exe : Exe) (edges : List Edge) (exits x : ℕ) where
  abbrev node : ℕ → Node
  node s = record { start = s; known = known_of exe (counting exe edges) s }

  abbrev IsFew : Node → Type 0
  IsFew b = length b.known ≤ exits

  few_among : (ss : List ℕ) → All IsFew (map node ss) → is_among (starts_in (map node ss)) x ≡ true → length (known_of exe (counting exe edges) x) ≤ exits
  few_among [] h e = absurd (let f : false ≡ true = e in cc)
  few_among (s ∷ ss) h e = ⊎_elim
      (λ (q : ((x == s) ≡ true) × (x ≡ s)). subst (λ (y : ℕ). length (known_of exe (counting exe edges) y) ≤ exits) (sym q.1) (All-head IsFew (node s) (map node ss) h))
      (λ (q : ((x == s) ≡ false) × (x ≢ s)). few_among ss (All-tail IsFew (node s) (map node ss) h) (sym (ap (λ b. b || is_among (starts_in (map node ss)) x) q.0) ∙ e))
      (eqb_tells x s)

  known_few : KnowAtMost exits (graph_of exe edges) → is_start_of exe edges x ≡ true → length (known_of exe (counting exe edges) x) ≤ exits
  unfolding graph_of
  known_few know start = few_among (starts_of exe (counting exe edges)) know start

-- ---- fragments

pub fragments_quick : Makes → PartsShort → FragmentsQuick
fragments_quick laws parts exe edges out c exits bytes linked small each know =
    with_paths laws exe edges out c bytes linked small each (fragment_steps exits) (λ x start native.
    let choice = choice_of exe (key_at exe edges x) in
    let es = (key_at exe edges x).exits in
    let ys = known_of exe (counting exe edges) x in
    let serves = laws.serve exe edges c bytes linked.registers x start native in
    let few = serves.few in
    let outs = parts.outs exe x in
    let count : length choice.block.outs ≤ 14 = omega (arith, outs) in
    let k = known_few exe edges exits x know start in
    let both = parts.lines choice choice.split.body choice.split.sunk serves.apart in
    let body = count_most (lines_items choice choice.split.body) in
    record {
      exit = sunk parts choice es count + 200 + 2 * length ys;
      ways = ways parts choice es count (knows_of exe edges x) ys choice.block.exit;
      fits = omega (arith, body, both, few, k);
    })

pub linked_run : FragmentsAreMade → FragmentsQuick → EachIsMade → CodeIsBytes → FragmentsRun → FragmentsLinkedRun
linked_run made quick each of_bytes run exe edges out c guest bytes order few linked =
    let small = of_bytes exe edges out c.code guest bytes linked.begins in
    let is_made = λ (x : ℕ) (start : is_start_of exe edges x ≡ true) (native : is_island_end (block_of exe x).end ≡ false). each exe edges guest bytes order few x start in
    record {
      by_length = run.by_length exe edges c (coding_at exe edges) (made exe edges out c bytes linked small is_made);
      by_exits = λ exits know.
          let q = quick exe edges out c exits bytes linked small is_made know in
          run.by_paths exe edges c (coding_at exe edges) q.0 (fragment_steps exits) q.1;
    }

-- ---- the file

-- fragments that run within so many steps, fewer than the file has bytes
quick_at : Parts → (exe : Exe) (edges : List Edge) (exits plain high : ℕ) → IsOriginal exe → HaveBytes exe
    → length (code_of exe edges) ≤ MAX_CODE → FragmentRuns exe edges (coded_of exe edges) (coding_at exe edges) plain
    → plain ≤ high → 52 ≤ high → high ≤ length (image exe edges) → high ≤ fragment_steps exits → IsQuick exe edges exits
quick_at parts exe edges exits plain high original bytes room runs enough some below most = record {
  laws = record {
    plain = plain;
    turn = 0;
    opening = OPENING_STEPS;
    closing = CLOSING_STEPS;
    top = ENTRY_STEPS;
    coding = coding_at exe edges;
    serves = parts.serve exe edges (coded_of exe edges) bytes (parts.stands.built exe edges room).registers;
    fragment = runs;
    exchange = parts.exchanged exe edges original room;
    copies = no_copies exe edges;
    met = none_further exe edges;
    laid = parts.laid exe edges original room;
    high = high;
    plain_bound = omega (arith, enough);
    island_bound = omega (arith, some);
    high_bound = below;
    top_bound = omega (arith, some, below);
  };
  top = omega arith;
  high = most;
}

pub record Quickly : Type 0 where
  pub parts : Parts
  pub run : FragmentsLinkedRun

-- a short file is quick as it is
pub images_quick : Quickly → ImagesQuick
images_quick laws exe edges exits original bytes order few room know =
    let r = laws.run exe edges itself (coded_of exe edges) (original_is_guest exe original) bytes order few (laws.parts.stands.built exe edges room) in
    let long = laws.parts.hold exe edges in
    let size = ap length (laws.parts.stands.bytes exe edges) in
    ⊎_elim
    (λ (l : length (image exe edges) < fragment_steps exits).
    quick_at laws.parts exe edges exits (length (coded_of exe edges).code.bytes) (length (image exe edges)) original bytes room r.by_length
    (omega (arith, long, size)) (omega (arith, long)) (omega arith) (omega (arith, l)))
    (λ (l : fragment_steps exits ≤ length (image exe edges)).
    quick_at laws.parts exe edges exits (fragment_steps exits) (fragment_steps exits) original bytes room (r.by_exits exits know)
    (omega arith) (omega arith) l (omega arith))
    (cases_lt (length (image exe edges)) (fragment_steps exits))

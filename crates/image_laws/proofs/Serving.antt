-- The coding of a start serves its block, from the registers that are live there.
use Rattle.std.proofs.Common.{◌≡◌, ℕ, suc, ◌==◌, Bool, true, false, ◌||◌, ◌&&◌, List, [], ◌∷◌, map, get_or, refl, sym, ap, ◌∙◌, subst}
use Rattle.std.specs.Prelude.{not, if◌then◌else◌}
use Rattle.std.proofs.lemmas.Bool.{eqb-true, eq-eqb}
use Rattle.elf_read.specs.declared.exe.Exe.{Exe}
use Rattle.run_model.specs.Edges.{Edge}
use Rattle.block_cut.specs.Transfers.{is_among}
use Rattle.block_cut.specs.CountedEdges.{counting}
use Rattle.block_cut.specs.Blocks.{block_of}
use Rattle.flow_graph.specs.Graph.{known_of, Node}
use Rattle.flow_graph.specs.GraphOf.{graph_of, starts_of as block_starts}
use Rattle.ssa_form.specs.declared.form.Exit.{Exit}
use Rattle.ssa_form.specs.declared.form.Exit.TheVariants.{Jump, Cond, Way, Island}
use Rattle.ssa_form.specs.declared.form.Block.{Block}
use Rattle.pass_dead.specs.Names as dead
use Rattle.pass_copy.specs.Folded.{SameKind}
use Rattle.stub_sink.specs.Splits.{is_known, has_fallback, starts_of, live_at, split_of}
use Rattle.stub_sink.specs.Serving.{Feeds, IsSplit}
use Rattle.live_flow.specs.declared.row.LiveRow.{LiveRow}
use Rattle.live_flow.specs.Live.{row_at, place_of, ways, any_live, live_in}
use Rattle.live_flow.specs.Laws.{LiveFeeds, EachRowIsNarrow, NumbersAreClosed}
use Rattle.lift_flow.specs.LiftedBlock.{lift_of}
use Rattle.reg_place.specs.Places.{is_in}
use Rattle.block_make.specs.Choices.{ready, choice_of}
use Rattle.block_make.specs.Keys.{has}
use Rattle.block_make.specs.Laws.{ReadyKeeps, SplitsAreClosed, SplitsAreListed}
use Rattle.code_layout.specs.Keys.{row_in, rows_in, rows_of, live_of}
use Rattle.code_layout.proofs.LiveRows.{ready_start, are_narrow}
use Rattle.sim_runs.specs.Coding.{Exits}
use Rattle.sim_runs.specs.Recovered.{is_island_end, is_start_of}
use Rattle.sim_runs.specs.Promised.{is_live_at, is_unknown, exits_of, ServesAt}
use Rattle.piece_laws.specs.Parts.{StandsFor, PartedServe}
use Rattle.image_laws.specs.Coded.{key_at, coded_of, coding_at}
use Rattle.image_laws.specs.Serves.{HaveBytes, EachIsLifted, CodingsServe}
use Rattle.image_laws.proofs.SameKinds.{lifted_is, ready_lifted, kind_is}
use Rattle.image_laws.proofs.Standing.{same_starts}

-- ---- the row of a start

module _ (exe : Exe) (edges : List Edge) where
  abbrev node : ℕ → Node
  node s = record { start = s; known = known_of exe (counting exe edges) s }

  row_stands : (ss : List ℕ) (x : ℕ) → is_among ss x ≡ true → row_at (rows_in exe (map node ss)) (place_of (rows_in exe (map node ss)) x) ≡ row_in exe (node x)
  row_stands [] x h = absurd (let e : false ≡ true = h in cc)
  row_stands (s ∷ ss) x h = decide ((ready exe s).start == x) refl (row_stands ss x)
    where
      later : (b : Bool) → (x == s) ≡ b → ((ready exe s).start == x) ≡ false → (b || is_among ss x) ≡ true → is_among ss x ≡ true
      later true e f m = absurd (let z = eqb-true x s e in let q = ready_start exe s in let y : (ready exe s).start ≡ x = q ∙ sym z in let w = eq-eqb (ready exe s).start x y in cc)
      later false e f m = m

      decide : (b : Bool) → ((ready exe s).start == x) ≡ b
          → (is_among ss x ≡ true → row_at (rows_in exe (map node ss)) (place_of (rows_in exe (map node ss)) x) ≡ row_in exe (node x))
          → row_at (rows_in exe (map node (s ∷ ss))) (if b then 0 else suc (place_of (rows_in exe (map node ss)) x)) ≡ row_in exe (node x)
      decide true e more = ap (λ z. row_in exe (node z)) (sym (ready_start exe s) ∙ eqb-true (ready exe s).start x e)
      decide false e more = more (later (x == s) refl e h)

  pub row_here : (x : ℕ) → is_start_of exe edges x ≡ true → row_at (rows_of exe edges) (place_of (rows_of exe edges) x) ≡ row_in exe (node x)
  unfolding rows_of graph_of
  row_here x h = row_stands (block_starts exe (counting exe edges)) x (sym (ap (λ xs. is_among xs x) (same_starts exe edges)) ∙ h)

-- ---- what is live at known exits

known_same : (live : ℕ → ℕ) (ys : List ℕ) → starts_of (map (λ y. (y, live y)) ys) ≡ ys
known_same live [] = refl
known_same live (y ∷ ys) = ap (λ zs. y ∷ zs) (known_same live ys)

live_same : (live : ℕ → ℕ) (ys : List ℕ) (v : ℕ) → is_live_at (λ y v. has (live y) v) ys v ≡ live_at (map (λ y. (y, live y)) ys) v
live_same live [] v = refl
live_same live (y ∷ ys) v = ap (λ b. has (live y) v || b) (live_same live ys v)

any_same : (live place : ℕ → ℕ) (sets : ℕ → ℕ → Bool) (ys : List ℕ) (v : ℕ) → ((y : ℕ) → sets (place y) v ≡ dead.has (live y) v) → any_live sets v (map place ys) ≡ live_at (map (λ y. (y, live y)) ys) v
any_same live place sets [] v h = refl
any_same live place sets (y ∷ ys) v h = ap (λ b. b || any_live sets v (map place ys)) (h y) ∙ ap (λ b. dead.has (live y) v || b) (any_same live place sets ys v h)

-- ---- ways that are not known

same_test : (z k : ℕ) → (z == k) ≡ (k == z)
same_test z k = go (z == k) refl (k == z) refl
  where
    go : (a : Bool) → (z == k) ≡ a → (b : Bool) → (k == z) ≡ b → a ≡ b
    go true e true f = refl
    go false e false f = refl
    go true e false f = absurd (let q = eqb-true z k e in let w = eq-eqb k z (sym q) in cc)
    go false e true f = absurd (let q = eqb-true k z f in let w = eq-eqb z k (sym q) in cc)

among_known : (known : List ℕ) (z : ℕ) → is_among known z ≡ is_known known z
among_known [] z = refl
among_known (k ∷ ks) z = ap (λ b. b || is_among ks z) (same_test z k) ∙ ap (λ b. k == z || b) (among_known ks z)

not_both : (a b : Bool) → not (a && b) ≡ (not a || not b)
not_both true true = refl
not_both true false = refl
not_both false b = refl

unknown_same : (x y : Exit) → SameKind x y → (known : List ℕ) → is_unknown (λ z. is_among known z) x ≡ has_fallback y known
unknown_same (Jump a) (Jump b) h known = ap not (among_known known a ∙ ap (is_known known) h)
unknown_same (Jump a) (Cond t c d) h known = absurd h
unknown_same (Jump a) (Way v) h known = absurd h
unknown_same (Jump a) (Island n) h known = absurd h
unknown_same (Cond t a b) (Jump c) h known = absurd h
unknown_same (Cond t a b) (Cond u c d) h known =
    not_both (is_among known a) (is_among known b)
    ∙ ap (λ z. not z || not (is_among known b)) (among_known known a ∙ ap (is_known known) h.0)
    ∙ ap (λ z. not (is_known known c) || not z) (among_known known b ∙ ap (is_known known) h.1)
unknown_same (Cond t a b) (Way v) h known = absurd h
unknown_same (Cond t a b) (Island n) h known = absurd h
unknown_same (Way v) (Jump b) h known = absurd h
unknown_same (Way v) (Cond t c d) h known = absurd h
unknown_same (Way v) (Way u) h known = refl
unknown_same (Way v) (Island n) h known = absurd h
unknown_same (Island m) (Jump b) h known = absurd h
unknown_same (Island m) (Cond t c d) h known = absurd h
unknown_same (Island m) (Way v) h known = absurd h
unknown_same (Island m) (Island n) h known = refl

-- ---- registers that feed, and a split that serves, for the same exits in other words

feeds_for : (on live more : ℕ → Bool) (a b : Bool) (c : Block) → ((v : ℕ) → more v ≡ live v) → b ≡ a → Feeds on live a c → Feeds on more b c
feeds_for on live more a b c same e f = record {
  lines = f.lines;
  exit = f.exit;
  outs = λ v l h. f.outs v l (ap (λ x. x || a) (sym (same v)) ∙ ap (λ x. more v || x) (sym e) ∙ h);
}

split_for : (on live more : ℕ → Bool) (a b : Bool) (c : Block) (body sunk : ℕ → Bool) → ((v : ℕ) → more v ≡ live v) → b ≡ a → IsSplit on live a c body sunk → IsSplit on more b c body sunk
split_for on live more a b c body sunk same e s = record {
  runs = s.runs;
  exit = s.exit;
  outs = λ v l h. s.outs v l (sym (same v) ∙ h);
  apart = s.apart;
  none = λ u. s.none (sym e ∙ u);
  moves = λ u. s.moves (sym e ∙ u);
  all_outs = λ u. s.all_outs (sym e ∙ u);
}

pub record Serving : Type 0 where
  pub lifted : EachIsLifted
  pub keeps : ReadyKeeps
  pub closed : SplitsAreClosed
  pub listed : SplitsAreListed
  pub feeds : LiveFeeds
  pub narrow : EachRowIsNarrow
  pub numbers : NumbersAreClosed
  pub parted : PartedServe

module _ (laws : Serving) (exe : Exe) (edges : List Edge) (x : ℕ) (bytes : HaveBytes exe) (start : is_start_of exe edges x ≡ true) where
  abbrev known : List ℕ
  known = known_of exe (counting exe edges) x

  abbrev block : Block
  block = ready exe x

  abbrev rows : List LiveRow
  rows = rows_of exe edges

  abbrev sets : ℕ → ℕ → Bool
  sets i v = dead.has (get_or (live_in rows) i 0) v

  whole : Rattle.ssa_form.specs.Checked.checked block ≡ true
  whole = (ready_lifted laws.lifted laws.keeps exe x bytes).whole

  fed : Feeds (sets (place_of rows x)) (λ v. any_live sets v (ways rows (place_of rows x))) (has_fallback block.exit known) block
  fed = laws.feeds rows sets block (place_of rows x) known whole (laws.numbers rows (are_narrow laws.narrow exe edges)) (row_here exe edges x start)

  next_is : ways rows (place_of rows x) ≡ map (place_of rows) known
  next_is = ap (λ (r : LiveRow). map (place_of rows) r.next) (row_here exe edges x start)

  live_is : (v : ℕ) → live_at (key_at exe edges x).exits v ≡ any_live sets v (ways rows (place_of rows x))
  unfolding live_of
  live_is v = sym (ap (any_live sets v) next_is ∙ any_same (live_of exe edges) (place_of rows) sets known v (λ y. refl))

  fed_here : Feeds ((coded_of exe edges).live x) (live_at (key_at exe edges x).exits) (has_fallback block.exit (starts_of (key_at exe edges x).exits)) block
  unfolding live_of
  fed_here = feeds_for (sets (place_of rows x)) (λ v. any_live sets v (ways rows (place_of rows x))) (live_at (key_at exe edges x).exits) (has_fallback block.exit known) (has_fallback block.exit (starts_of (key_at exe edges x).exits)) block live_is (ap (has_fallback block.exit) (known_same (live_of exe edges) known)) fed

  pub split_here : IsSplit ((coded_of exe edges).live x) (exits_of exe edges (coded_of exe edges) x).live (exits_of exe edges (coded_of exe edges) x).unknown block (is_in (split_of block (key_at exe edges x)).body) (is_in (split_of block (key_at exe edges x)).sunk)
  split_here =
      let exits : Exits = exits_of exe edges (coded_of exe edges) x in
      split_for ((coded_of exe edges).live x) (live_at (key_at exe edges x).exits) exits.live (has_fallback block.exit (starts_of (key_at exe edges x).exits)) exits.unknown block (is_in (split_of block (key_at exe edges x)).body) (is_in (split_of block (key_at exe edges x)).sunk)
      (live_same (live_of exe edges) known)
      (unknown_same (lift_of exe x).exit block.exit (laws.keeps.kind exe x) known ∙ sym (ap (has_fallback block.exit) (known_same (live_of exe edges) known)))
      (laws.closed block (key_at exe edges x) ((coded_of exe edges).live x) whole fed_here)

-- from the registers that the fragments have
serves_here : Serving → (exe : Exe) (edges : List Edge) (x : ℕ) → HaveBytes exe → is_start_of exe edges x ≡ true → is_island_end (block_of exe x).end ≡ false → ServesAt exe edges (coded_of exe edges) x (coding_at exe edges x)
serves_here laws exe edges x bytes start plain =
    let h = ready_lifted laws.lifted laws.keeps exe x bytes in
    let stands : StandsFor (lift_of exe x) (choice_of exe (key_at exe edges x)) = record {
      whole = h.whole;
      words = h.words;
      few = h.few;
      kind = kind_is (lift_of exe x).exit (ready exe x).exit (laws.keeps.kind exe x) ((laws.lifted exe x bytes).way plain);
      same = laws.keeps.same exe x (lifted_is laws.lifted exe x bytes);
    } in
    laws.parted (coded_of exe edges).home ((coded_of exe edges).live x) (exits_of exe edges (coded_of exe edges) x) (lift_of exe x) (choice_of exe (key_at exe edges x)) (λ v. refl) stands (laws.listed (ready exe x) (key_at exe edges x) h.whole) (split_here laws exe edges x bytes start)

pub codings_serve : Serving → CodingsServe
codings_serve laws exe edges c bytes keeps x start plain =
    subst (λ l. ServesAt exe edges (record c { live = l }) x (coding_at exe edges x)) (sym keeps.live)
    (subst (λ h. ServesAt exe edges (record c { home = h; live = λ x v. has (live_of exe edges x) v }) x (coding_at exe edges x)) (sym keeps.home)
    (serves_here laws exe edges x bytes start plain))

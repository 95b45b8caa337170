-- block_make's items of a fragment, and the simulation's.
use Rattle.std.proofs.Common.{◌≡◌, ℕ, suc, Bool, true, false, ◌||◌, List, [], ◌∷◌, ◌++◌, map, Option, Some, None, refl, sym, ap, ◌∙◌}
use Rattle.std.specs.Prelude.{◌==◌, if◌then◌else◌}
use Rattle.std.proofs.lemmas.Bool.{eqb-true, eq-eqb, ne_eqb, true≢false}
use Rattle.elf_read.specs.declared.exe.Exe.{Exe}
use Rattle.ia_encode.specs.declared.item.Item.TheVariants as item
use Rattle.ia_encode.specs.declared.item.Dest.TheVariants as dests
use Rattle.br_word.specs.declared.types.Width.TheVariants.{B32}
use Rattle.ia_inst.specs.declared.inst.Inst.{Inst}
use Rattle.ia_inst.specs.declared.inst.Inst.TheVariants.{Alu}
use Rattle.ia_inst.specs.declared.inst.Src.TheVariants as src
use Rattle.block_cut.specs.Transfers.{is_among}
use Rattle.ssa_form.specs.declared.form.Exit.{Exit}
use Rattle.ssa_form.specs.declared.form.Exit.TheVariants.{Jump, Cond, Way, Island}
use Rattle.ssa_form.specs.declared.form.BlockKey.{BlockKey}
use Rattle.emit_ops.specs.Templates.{eax}
use Rattle.block_make.specs.Choices.{Choice, choice_of}
use Rattle.block_make.specs.Keys.{live_at, AreDistinct}
use Rattle.block_make.specs.FragmentItems.{lines_items, tail_items, stub_items, part_items, compare_items, tails_items, items_of, aim_items, way_stub_items}
use Rattle.block_make.specs.FragmentItems as make
use Rattle.sim_runs.specs.Coding.{SameKind}
use Rattle.sim_runs.specs.Passes.{chain, tails}
use Rattle.sim_runs.specs.Pieces.{Pieces, part_of, exit_items}
use Rattle.piece_laws.specs.Pieces.{set_or_none, set_of, label_of, ask_of, aim_of, way_of, pieces_of}
use Rattle.piece_laws.specs.Joined.{ItemsArePieces}

abbrev compare : ℕ → Inst
compare y = Alu 7 B32 eax (src.Imm y)

abbrev IsKnown : List (ℕ × ℕ) → ℕ → Type 0
IsKnown es y = live_at es y ≡ None → ⊥

abbrev firsts : List (ℕ × ℕ) → List ℕ
firsts es = map (λ e. e.0) es

-- behind another exit an exit is found as before
behind : (e : ℕ × ℕ) (es : List (ℕ × ℕ)) → live_at es e.0 ≡ None → (y : ℕ) → IsKnown es y → (e.0 == y) ≡ false
behind e es n y k = go (e.0 == y) refl
  where
    go : (b : Bool) → (e.0 == y) ≡ b → b ≡ false
    go true q = absurd (k (ap (live_at es) (sym (eqb-true e.0 y q)) ∙ n))
    go false q = refl

known_behind : (e : ℕ × ℕ) (es : List (ℕ × ℕ)) (y : ℕ) → IsKnown es y → IsKnown (e ∷ es) y
known_behind e es y k h = go (e.0 == y) h
  where
    go : (b : Bool) → (if b then Some e.1 else live_at es y) ≡ None → ⊥
    go true h = absurd (let z : Some e.1 ≡ None = h in cc)
    go false h = k h

known_first : (e : ℕ × ℕ) (es : List (ℕ × ℕ)) → IsKnown (e ∷ es) e.0
known_first e es h = let z : Some e.1 ≡ None = sym (ap (λ b. if b then Some e.1 else live_at es e.0) (eq-eqb e.0 e.0 refl)) ∙ h in cc

module _ (label : ℕ → ℕ) (set : ℕ → ℕ) where
  -- numbered from l on, with the sets of these exits
  abbrev Fits : ℕ → List (ℕ × ℕ) → Type 0
  Fits l es = (y : ℕ) → IsKnown es y → (label y ≡ label_of l es y) × (set y ≡ set_or_none (live_at es y))

  first_fits : (l : ℕ) (e : ℕ × ℕ) (es : List (ℕ × ℕ)) → Fits l (e ∷ es) → (label e.0 ≡ l) × (set e.0 ≡ e.1)
  first_fits l e es f =
      let q = f e.0 (known_first e es) in
      (q.0 ∙ ap (λ b. if b then l else label_of (suc l) es e.0) (eq-eqb e.0 e.0 refl), q.1 ∙ ap (λ b. set_or_none (if b then Some e.1 else live_at es e.0)) (eq-eqb e.0 e.0 refl))

  rest_fits : (l : ℕ) (e : ℕ × ℕ) (es : List (ℕ × ℕ)) → live_at es e.0 ≡ None → Fits l (e ∷ es) → Fits (suc l) es
  rest_fits l e es n f y k =
      let q = f y (known_behind e es y k) in
      let z = behind e es n y k in
      (q.0 ∙ ap (λ b. if b then l else label_of (suc l) es y) z, q.1 ∙ ap (λ b. set_or_none (if b then Some e.1 else live_at es y)) z)

  chain_same : (l : ℕ) (es : List (ℕ × ℕ)) → AreDistinct es → Fits l es → compare_items l es ≡ chain compare label (firsts es)
  chain_same l [] d f = refl
  chain_same l (e ∷ es) d f =
      ap (λ m. item.Inst (compare e.0) ∷ item.Jump (Some 4) (dests.Label m) ∷ compare_items (suc l) es) (sym (first_fits l e es f).0)
      ∙ ap (λ is. item.Inst (compare e.0) ∷ item.Jump (Some 4) (dests.Label (label e.0)) ∷ is) (chain_same (suc l) es d.1 (rest_fits l e es d.0 f))

  tails_same : (c : Choice) (l : ℕ) (es : List (ℕ × ℕ)) → AreDistinct es → Fits l es → tails_items c l es ≡ tails (λ y. tail_items c (set y) y) label (firsts es)
  tails_same c l [] d f = refl
  tails_same c l (e ∷ es) d f =
      ap (λ m. item.Label m ∷ (tail_items c e.1 e.0 ++ tails_items c (suc l) es)) (sym (first_fits l e es f).0)
      ∙ ap (λ s. item.Label (label e.0) ∷ (tail_items c s e.0 ++ tails_items c (suc l) es)) (sym (first_fits l e es f).1)
      ∙ ap (λ is. item.Label (label e.0) ∷ (tail_items c (set e.0) e.0 ++ is)) (tails_same c (suc l) es d.1 (rest_fits l e es d.0 f))

turned : (a b : ℕ) → (a == b) ≡ (b == a)
turned a b = go (b == a) refl
  where
    go : (z : Bool) → (b == a) ≡ z → (a == b) ≡ z
    go true q = eq-eqb a b (sym (eqb-true b a q))
    go false q = ne_eqb a b (λ e. true≢false (sym (eq-eqb b a (sym e)) ∙ q))

abbrev is_some : Option ℕ → Bool
is_some None = false
is_some (Some s) = true

-- an address is among the exits where it has a live set
among_known : (es : List (ℕ × ℕ)) (y : ℕ) → is_among (firsts es) y ≡ is_some (live_at es y)
among_known [] y = refl
among_known (e ∷ es) y = ap (λ b. b || is_among (firsts es) y) (turned y e.0) ∙ go (e.0 == y) (among_known es y)
  where
    go : (b : Bool) → is_among (firsts es) y ≡ is_some (live_at es y) → (b || is_among (firsts es) y) ≡ is_some (if b then Some e.1 else live_at es y)
    go true h = refl
    go false h = h

module _ (exe : Exe) (key : BlockKey) (c : Choice) where
  abbrev es : List (ℕ × ℕ)
  es = key.exits

  abbrev knows : ℕ → Bool
  knows y = is_among (firsts es) y

  -- the pieces by an exit
  abbrev by : Exit → Pieces
  by w = record {
    body = lines_items c c.split.body;
    ask = ask_of c w;
    other = 2;
    tail = λ y. tail_items c (set_of es y) y;
    stub = λ l y. stub_items c l y;
    aim = aim_of c w;
    compare = compare;
    label = label_of 1 es;
    way_stub = way_of c w;
  }

  part_same : (w : Exit) (l y : ℕ) → part_items c l y (live_at es y) ≡ part_of knows (by w) l y
  part_same w l y = go (live_at es y) refl
    where
      go : (o : Option ℕ) → live_at es y ≡ o → part_items c l y o ≡ part_of knows (by w) l y
      go (Some s) q = ap (λ o. tail_items c (set_or_none o) y) (sym q) ∙ ap (λ b. if b then tail_items c (set_of es y) y else stub_items c l y) (sym (among_known es y ∙ ap is_some q))
      go None q = ap (λ b. if b then tail_items c (set_of es y) y else stub_items c l y) (sym (among_known es y ∙ ap is_some q))

  exit_same : AreDistinct es → (v w : Exit) → SameKind v w → make.exit_items exe key c w ≡ exit_items knows (firsts es) (by w) w
  exit_same d v (Jump to) k = part_same (Jump to) 0 to
  exit_same d v (Cond test taken next) k =
      ap (λ is. make.cond_items c test is (part_items c 1 taken (live_at es taken))) (part_same (Cond test taken next) 0 next)
      ∙ ap (λ is. make.cond_items c test (part_of knows (by (Cond test taken next)) 0 next) is) (part_same (Cond test taken next) 1 taken)
  exit_same d v (Way t) k =
      let f : Fits (label_of 1 es) (set_of es) 1 es = λ y k. (refl, refl) in
      ap (λ is. aim_items c t ++ (is ++ (way_stub_items c t ++ tails_items c 1 es))) (chain_same (label_of 1 es) (set_of es) 1 es d f)
      ∙ ap (λ is. aim_items c t ++ (chain compare (label_of 1 es) (firsts es) ++ (way_stub_items c t ++ is))) (tails_same (label_of 1 es) (set_of es) c 1 es d f)
  exit_same d (Jump to) (Island len) k = absurd k
  exit_same d (Cond t a b) (Island len) k = absurd k
  exit_same d (Way v) (Island len) k = absurd k
  exit_same d (Island m) (Island len) k = absurd k

pub items_are_pieces : ItemsArePieces
unfolding items_of
items_are_pieces exe edges key b h kind =
    let c = choice_of exe key in
    ap (λ is. lines_items c c.split.body ++ is) (exit_same exe key c h.distinct b.exit c.block.exit kind)
    ∙ ap (λ ys. lines_items c c.split.body ++ exit_items (λ y. is_among ys y) ys (pieces_of c key.exits) c.block.exit) (sym h.known)

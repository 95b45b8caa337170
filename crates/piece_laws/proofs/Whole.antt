-- All the pieces.
use Rattle.std.proofs.Common.{◌≡◌, ℕ, zero, suc, ◌+◌, ◌-◌, ◌^◌, ◌<◌, Bool, true, false, ◌&&◌, ◌||◌, List, [], ◌∷◌, ◌++◌, length, drop, get_or, Some, refl, sym, ap, ◌∙◌, subst, arith, inl, inr}
use Rattle.std.specs.Prelude.{IsTrue, not, ◌==◌, if◌then◌else◌}
use Rattle.std.proofs.lemmas.Bool.{true≢false, ltb-true, eqb-true}
use Rattle.std.proofs.lemmas.List.Elements.{All-from_get_or}
use Rattle.br_word.specs.Memory.{HoldBytes}
use Rattle.br_word.specs.State.{State, Flag, CF, PF, ZF, SF, OF}
use Rattle.br_word.specs.declared.types.Width.TheVariants.{B32}
use Rattle.elf_read.specs.declared.exe.Exe.{Exe}
use Rattle.ia_inst.specs.declared.inst.Inst.{Inst}
use Rattle.ia_inst.specs.declared.inst.Inst.TheVariants.{Alu}
use Rattle.ia_inst.specs.declared.inst.Src.TheVariants as src
use Rattle.ia_inst.specs.Canonical.{valid_of}
use Rattle.ia_encode.specs.declared.item.Dest.{Dest}
use Rattle.ia_encode.specs.declared.item.Dest.TheVariants as dests
use Rattle.ia_encode.specs.declared.item.Item.TheVariants as item
use Rattle.ia_encode.specs.Items.{size_of_items, Reads}
use Rattle.run_model.specs.Edges.{Edge}
use Rattle.block_cut.specs.Transfers.{is_among}
use Rattle.block_cut.specs.CountedEdges.{counting}
use Rattle.flow_graph.specs.Graph.{known_of}
use Rattle.lift_flow.specs.LiftedBlock.{lift_of}
use Rattle.ssa_form.specs.declared.form.Val.{Val}
use Rattle.ssa_form.specs.declared.form.Val.TheVariants.{Param, Line as Named, Num}
use Rattle.ssa_form.specs.declared.form.Line.{Line}
use Rattle.ssa_form.specs.declared.form.Line.TheVariants.{Bin, One, Select, Load, Store, Gone}
use Rattle.ssa_form.specs.declared.form.Exit.{Exit}
use Rattle.ssa_form.specs.declared.form.Exit.TheVariants.{Jump, Cond, Way, Island}
use Rattle.ssa_form.specs.Agree.{AreBits, number}
use Rattle.ssa_form.specs.Same.{rows}
use Rattle.ssa_form.specs.Value.{Env, AllAllowed, IsAllowed, line_next, outs_of, exit_of}
use Rattle.emit_ops.specs.Sequences.{kept}
use Rattle.emit_ops.specs.Templates.{eax, load_reg}
use Rattle.code_laws.specs.Seen.{Cells}
use Rattle.code_laws.specs.Laws.{IsOperand}
use Rattle.code_laws.specs.Moves.{AreOuts}
use Rattle.block_make.specs.Choices.{Choice}
use Rattle.block_make.specs.FragmentItems.{source_in}
use Rattle.sim_runs.specs.Lines.{NamedIn, IsSunk, AllSunk}
use Rattle.sim_runs.specs.Coding.{out_at, Coding, Exits, SameKind, ExitIn, NamesIt, ExitNames, EndNames, NamedLater}
use Rattle.sim_runs.specs.Recovered.{Coded, knows_of, plan_of}
use Rattle.sim_runs.specs.Relation.{Plan}
use Rattle.sim_runs.specs.Promised.{is_live_at, is_unknown, exits_of, ServesAt, Runs}
use Rattle.sim_runs.specs.Passes.{Gets, StandsFrom, Passes, count_of}
use Rattle.sim_runs.specs.Pieces.{Held, Aimed, is_out, is_way, is_cond, test_of, body_end, whole_end, Returned, PiecesRun}
use Rattle.sim_runs.specs.Given.{Given, CodingGives}
use Rattle.piece_laws.specs.Choices.{coding_of, Suits}
use Rattle.piece_laws.specs.Pieces.{set_of, label_of, ask_of, aim_of, way_of, pieces_of, IsHome, LiveSets, GoesTo}
use Rattle.piece_laws.proofs.Checked.{Checks, ExitChecks, exit_checks, out_checks, are_outs}
use Rattle.piece_laws.proofs.Served.{body_of, sunk_of, Ready, ready}
use Rattle.piece_laws.proofs.Steps.{Below}
use Rattle.piece_laws.proofs.Body.{fold_bytes, fold_params, body_held}
use Rattle.piece_laws.proofs.Stub.{IsEnd, stub_passes, tail_passes}
use Rattle.piece_laws.proofs.Way.{ask_gets, aim_gets, compare_gets, way_stub_passes}

drop_bytes : (n : ℕ) (bs : List ℕ) → ((i : ℕ) → get_or bs i 0 < 256) → (i : ℕ) → get_or (drop n bs) i 0 < 256
drop_bytes zero bs h = h
drop_bytes (suc n) [] h = h
drop_bytes (suc n) (b ∷ bs) h = drop_bytes n bs (λ i. h (suc i))

-- sunk lines touch no memory
sunk_allowed : (on keep sunk : ℕ → Bool) (ps : List (ℕ × Line)) (e : Env) → AllSunk on keep sunk ps → AllAllowed (kept sunk ps) e
sunk_allowed on keep sunk [] e a = tt
sunk_allowed on keep sunk (p ∷ ps) e a = go (sunk p.0) refl (λ f. sunk_allowed on keep sunk ps f a.1)
  where
    allowed : (l : Line) → IsSunk on keep sunk l → IsAllowed l e
    allowed (Bin op x y) h = tt
    allowed (One op x) h = tt
    allowed (Select z x y) h = tt
    allowed (Load w x) h = absurd h
    allowed (Store w x y) h = absurd h
    allowed Gone h = absurd h

    go : (b : Bool) → sunk p.0 ≡ b → ((f : Env) → AllAllowed (kept sunk ps) f) → AllAllowed (if b then p ∷ kept sunk ps else kept sunk ps) e
    go true q rest = (allowed p.1 (a.0 q), rest (line_next p.0 p.1 e))
    go false q rest = rest e

out_unknown : (knows : ℕ → Bool) (w v : Exit) (y : ℕ) → SameKind w v → is_out v y ≡ true → knows y ≡ false → is_unknown knows w ≡ true
out_unknown knows (Jump to) (Jump a) y s o n = ap not (ap knows s ∙ ap knows (sym (eqb-true y a o)) ∙ n)
out_unknown knows (Jump to) (Cond t a b) y s o n = absurd s
out_unknown knows (Jump to) (Way v) y s o n = absurd s
out_unknown knows (Jump to) (Island m) y s o n = absurd s
out_unknown knows (Cond u c d) (Jump a) y s o n = absurd s
out_unknown knows (Cond u c d) (Cond t a b) y s o n = go (y == a) refl o
  where
    second : (f g : Bool) → g ≡ false → not (f && g) ≡ true
    second true g h = ap not h
    second false g h = refl

    go : (z : Bool) → (y == a) ≡ z → (z || (y == b)) ≡ true → not (knows c && knows d) ≡ true
    go true e h = ap (λ z. not (z && knows d)) (ap knows s.0 ∙ ap knows (sym (eqb-true y a e)) ∙ n)
    go false e h = second (knows c) (knows d) (ap knows s.1 ∙ ap knows (sym (eqb-true y b h)) ∙ n)
out_unknown knows (Cond u c d) (Way v) y s o n = absurd s
out_unknown knows (Cond u c d) (Island m) y s o n = absurd s
out_unknown knows (Way u) (Jump a) y s o n = absurd s
out_unknown knows (Way u) (Cond t a b) y s o n = absurd s
out_unknown knows (Way u) (Way v) y s o n = refl
out_unknown knows (Way u) (Island m) y s o n = absurd s
out_unknown knows (Island k) v y s o n = absurd (no_island v s)
  where
    no_island : (v : Exit) → SameKind (Island k) v → ⊥
    no_island (Jump a) s = s
    no_island (Cond t a b) s = s
    no_island (Way v) s = s
    no_island (Island m) s = s

way_unknown : (knows : ℕ → Bool) (w v : Exit) → SameKind w v → is_way v ≡ true → is_unknown knows w ≡ true
way_unknown knows w (Jump a) s e = absurd (true≢false (sym e))
way_unknown knows w (Cond t a b) s e = absurd (true≢false (sym e))
way_unknown knows w (Island m) s e = absurd (true≢false (sym e))
way_unknown knows (Jump to) (Way v) s e = absurd s
way_unknown knows (Cond u c d) (Way v) s e = absurd s
way_unknown knows (Way u) (Way v) s e = refl
way_unknown knows (Island m) (Way v) s e = absurd s

bits_same : (p q : ℕ → ℕ) → ((v : ℕ) → v < 14 → p v ≡ q v) → AreBits q → AreBits p
bits_same p q h b = record { flags = flags; df = subst (λ n. n < 2) (sym (h 13 (omega arith))) b.df }
  where
    flags : (f : Flag) → p (number f) < 2
    flags CF = subst (λ n. n < 2) (sym (h 8 (omega arith))) (b.flags CF)
    flags PF = subst (λ n. n < 2) (sym (h 9 (omega arith))) (b.flags PF)
    flags ZF = subst (λ n. n < 2) (sym (h 10 (omega arith))) (b.flags ZF)
    flags SF = subst (λ n. n < 2) (sym (h 11 (omega arith))) (b.flags SF)
    flags OF = subst (λ n. n < 2) (sym (h 12 (omega arith))) (b.flags OF)

-- what is live at a known exit is live at the exits
live_known : (live : ℕ → ℕ → Bool) (ys : List ℕ) (y v : ℕ) → is_among ys y ≡ true → live y v ≡ true → is_live_at live ys v ≡ true
live_known live [] y v h l = absurd (true≢false (sym h))
live_known live (z ∷ ys) y v h l = go (y == z) refl h (λ k. live_known live ys y v k l)
  where
    later : (a b : Bool) → b ≡ true → (a || b) ≡ true
    later true b e = refl
    later false b e = e

    go : (b : Bool) → (y == z) ≡ b → (b || is_among ys y) ≡ true → (is_among ys y ≡ true → is_live_at live ys v ≡ true) → (live z v || is_live_at live ys v) ≡ true
    go true e k rest = ap (λ b. b || is_live_at live ys v) (ap (λ u. live u v) (sym (eqb-true y z e)) ∙ l)
    go false e k rest = later (live z v) (is_live_at live ys v) (rest k)

module _ (exe : Exe) (edges : List Edge) (c : Coded) (x : ℕ) (choice : Choice) (known : List (ℕ × ℕ)) (dest : Dest → ℕ) (at_home : IsHome c) (below : Below c.code) (gives : CodingGives) (serves : ServesAt exe edges c x (coding_of choice)) (suits : Suits choice) (live : LiveSets (knows_of exe edges x) c.live known) (goes : GoesTo (knows_of exe edges x) c x choice.block.exit dest) (p : ℕ → ℕ) (t : State) (a : Cells) (runs : Runs exe c x p t a) where
  abbrev k : Coding
  k = coding_of choice

  abbrev exits : Exits
  exits = exits_of exe edges c x

  abbrev limit : ℕ
  limit = length choice.block.lines

  abbrev knows : ℕ → Bool
  knows = knows_of exe edges x

  abbrev env : Env
  env = body_end k (λ v. a.cell (c.home v)) a.outer

  abbrev whole : Env
  whole = whole_end k (λ v. a.cell (c.home v)) a.outer

  abbrev plan : Plan
  plan = plan_of exe edges c

  here : Ready choice exits
  here = ready below.homes c.home at_home.home (c.live x) (lift_of exe x) exits choice serves suits

  given : Given (lift_of exe x) exits k p (λ v. a.cell (c.home v)) a.outer
  given = gives c.home (c.live x) (lift_of exe x) exits k serves p (λ v. a.cell (c.home v)) a.outer runs.small runs.bytes runs.allowed runs.homes

  params : (v : ℕ) → env.params v ≡ a.cell (c.home v)
  params v = fold_params (body_of choice) _ v

  bytes : HoldBytes env.mem
  bytes = fold_bytes below.stores (body_of choice) _ given.allowed runs.bytes

  are : AreOuts limit choice.block.outs
  are = are_outs choice.block suits.checked suits.words

  sunk : exits.unknown ≡ true → AllAllowed (sunk_of choice) env
  sunk u = sunk_allowed (c.live x) k.body k.sunk (rows choice.block) env (serves.sunk u)

  bits : exits.unknown ≡ true → AreBits (outs_of choice.block.outs whole)
  bits u = bits_same _ _ (λ v l. given.outs u v l) runs.out_bits

  -- ---- what is named at the end
  end_later : (j : ℕ) (qs : List (ℕ × Line)) → EndNames choice.block j → NamedLater choice.block j qs
  end_later j [] n = n
  end_later j (q ∷ qs) n = inr (end_later j qs n)

  is_end : (v : Val) → Checks choice.block.lines limit v → NamedIn (c.live x) k.body v → ((j : ℕ) → NamesIt j v → EndNames choice.block j) → IsEnd choice v
  is_end (Param v) h n f = h
  is_end (Named j) h n f = (n, end_later j (sunk_of choice) (f j refl))
  is_end (Num n) h m f = tt

  valid_at : (at n : ℕ) (i : Inst) → Reads c.code at i n → IsTrue (valid_of i)
  valid_at at n i r = below.valid (drop (at - c.code.start) c.code.bytes) i n (All-from_get_or (λ b. b < 256) _ 0 (λ j l. drop_bytes (at - c.code.start) c.code.bytes at_home.bytes j)) r.spelled

  -- a number that code loads has 32 bits
  operand : (v : Val) → Checks choice.block.lines limit v → (at n : ℕ) → Reads c.code at (load_reg 0 (source_in choice v)) n → IsOperand (source_in choice v)
  operand (Param v) h at n r = (here.laid.homes v h, here.laid.homes_fit v h)
  operand (Named j) h at n r = (here.laid.places j h.0, here.laid.places_fit j h.0)
  operand (Num m) h at n r = (tt, ltb-true m (2 ^ 32) (valid_at at n (load_reg 0 (source_in choice (Num m))) r))

  -- ---- the pieces
  asked : (w : Exit) → choice.block.exit ≡ w → ExitChecks choice.block suits.checked suits.words w → ExitIn (c.live x) k.body w → is_cond w ≡ true → (at : ℕ) (u : State) (cs : List ℕ) →
      StandsFrom dest c.code at (ask_of choice w ++ (item.Jump (Some 5) (dests.Label 2) ∷ [])) → Held c k env a at u →
      Gets (Held c k env a (if test_of w env then dest (dests.Label 2) else at + size_of_items (ask_of choice w) + 6)) 0 (count_of (ask_of choice w) + 1) u cs
  asked (Jump to) q h i e at u cs s g = absurd (true≢false (sym e))
  asked (Cond v taken next) q h i e at u cs s g =
      let f = is_end v h i (λ j n. inl (subst (ExitNames j) (sym q) n)) in
      ask_gets c below at_home.home exits choice here suits are dest env a params v 2 (goes.label 2) f (operand v h at _ s.0) at u cs s g
  asked (Way v) q h i e at u cs s g = absurd (true≢false (sym e))
  asked (Island m) q h i e at u cs s g = absurd (true≢false (sym e))

  aimed : (w : Exit) → choice.block.exit ≡ w → ExitChecks choice.block suits.checked suits.words w → ExitIn (c.live x) k.body w → is_way w ≡ true → (at : ℕ) (u : State) (cs : List ℕ) →
      StandsFrom dest c.code at (aim_of choice w) → Held c k env a at u → Gets (Aimed c k env a (exit_of w env) (at + size_of_items (aim_of choice w))) 0 (count_of (aim_of choice w)) u cs
  aimed (Jump to) q h i e at u cs s g = absurd (true≢false (sym e))
  aimed (Cond v taken next) q h i e at u cs s g = absurd (true≢false (sym e))
  aimed (Way v) q h i e at u cs s g =
      let f = is_end v h i (λ j n. inl (subst (ExitNames j) (sym q) n)) in
      aim_gets c below at_home.home exits choice here suits are dest env a params v f (operand v h at _ s.0).1 at u cs s g
  aimed (Island m) q h i e at u cs s g = absurd (true≢false (sym e))

  left : (w : Exit) → choice.block.exit ≡ w → ExitChecks choice.block suits.checked suits.words w → ExitIn (c.live x) k.body w → is_way w ≡ true → exits.unknown ≡ true →
      Passes dest c.code (way_of choice w) (Aimed c k env a (exit_of w env)) (Returned plan (exit_of w env) (outs_of choice.block.outs whole) whole.mem a)
  left (Jump to) q h i e un at u cs s g = absurd (true≢false (sym e))
  left (Cond v taken next) q h i e un at u cs s g = absurd (true≢false (sym e))
  left (Way v) q h i e un at u cs s g =
      let f = is_end v h i (λ j n. inl (subst (ExitNames j) (sym q) n)) in
      way_stub_passes c below at_home.home exits choice here suits are dest env a params un bytes (sunk un) (bits un) plan refl v f (operand v h at _ s.0).1 at u cs s g
  left (Island m) q h i e un at u cs s g = absurd (true≢false (sym e))

  out_end : (y : ℕ) → knows y ≡ true → (v : ℕ) → v < 14 → c.live y v ≡ true → IsEnd choice (out_at choice.block v)
  out_end y on v l alive = is_end (out_at choice.block v) (out_checks choice.block suits.checked suits.words v) (serves.outs v l (live_known c.live (known_of exe (counting exe edges) x) y v on alive)) (λ j n. inr (v, l, n))

  pub pieces_run : PiecesRun dest plan c x k (pieces_of choice known) knows a env whole
  pieces_run =
      let h = exit_checks choice.block suits.checked suits.words in
      record {
        body = λ at u cs s sees e. body_held c below at_home.home exits choice here a runs.high runs.bytes given.allowed dest at u cs s sees e;
        tail = λ y on. tail_passes c below at_home.home exits choice here suits are dest env a params y (set_of known y) (live y on) (out_end y on) (goes.block y) (goes.known y on);
        stub = λ l y out off. let u = out_unknown knows (lift_of exe x).exit choice.block.exit y serves.kind out off in stub_passes c below at_home.home exits choice here suits are dest env u bytes (sunk u) (bits u) plan refl a l y (plan.beyond x y) params (goes.original y out off) (goes.out y out off);
        ask = λ e at u cs s g. asked choice.block.exit refl h serves.exit e at u cs s g;
        aim = λ e at u cs s g. aimed choice.block.exit refl h serves.exit e at u cs s g;
        meets = λ e y at u cs s m.
            let v = valid_at at _ (Alu 7 B32 eax (src.Imm y)) s.0 in
            compare_gets c below at_home.home exits choice here suits are dest env a params (exit_of choice.block.exit env) y (label_of 1 known y) at u cs (goes.label (label_of 1 known y)) (ltb-true y (2 ^ 32) v) s m;
        way_stub = λ e off. left choice.block.exit refl h serves.exit e (way_unknown knows (lift_of exe x).exit choice.block.exit serves.kind e);
      }

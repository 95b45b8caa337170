-- A fragment whose pieces do what they have to leads on as the simulation asks.
use Rattle.std.proofs.Common.{◌≡◌, ℕ, ◌+◌, ◌<◌, ◌≤◌, Bool, true, false, cond, ◌||◌, List, [], ◌∷◌, ◌++◌, Some, refl, sym, ap, ◌∙◌, subst, arith, ⊎_elim, ◌⊎◌, inl, inr}
use Rattle.std.specs.Prelude.{◌==◌, nat_eq, not, if◌then◌else◌}
use Rattle.std.proofs.lemmas.Bool.{cases_Bool, eq-eqb}
use Rattle.br_word.specs.Memory.{HoldBytes}
use Rattle.br_word.specs.State.{State, Flag, CF, PF, ZF, SF, OF}
use Rattle.elf_read.specs.declared.exe.Exe.{Exe}
use Rattle.ia_encode.specs.declared.item.Dest.{Dest}
use Rattle.ia_encode.specs.declared.item.Dest.TheVariants as dests
use Rattle.ia_encode.specs.declared.item.Item.{Item}
use Rattle.ia_encode.specs.declared.item.Item.TheVariants as item
use Rattle.ia_encode.specs.Items.{size_of_items}
use Rattle.block_cut.specs.Transfers.{is_among}
use Rattle.block_cut.specs.CountedEdges.{counting}
use Rattle.run_model.specs.Edges.{Edge}
use Rattle.flow_graph.specs.Graph.{known_of}
use Rattle.lift_flow.specs.LiftedBlock.{lift_of}
use Rattle.ssa_form.specs.declared.form.Exit.{Exit}
use Rattle.ssa_form.specs.declared.form.Exit.TheVariants.{Jump, Cond, Way, Island}
use Rattle.ssa_form.specs.Agree.{number, AreBits}
use Rattle.ssa_form.specs.Same.{AreSmall, end_env, IsAllowedAt}
use Rattle.ssa_form.specs.Value.{Env, value, outs_of, exit_of}
use Rattle.code_laws.specs.Seen.{Cells, Sees, private_region}
use Rattle.sim_runs.specs.Relation.{Plan}
use Rattle.sim_runs.specs.Laws.{Arrives, Leaves}
use Rattle.sim_runs.specs.Coding.{SameKind, Coding, Serves}
use Rattle.sim_runs.specs.WholeBlock.{IsWay}
use Rattle.sim_runs.specs.Recovered.{Coded, knows_of, plan_of}
use Rattle.sim_runs.specs.Promised.{exits_of}
use Rattle.sim_runs.specs.Passes.{Gets, StandsFrom, Passes, PassesIn, count_of, is_in}
use Rattle.sim_runs.specs.Pieces.{Pieces, part_of, exit_items, ExitWithin, Held, Tailed, Aimed, is_cond, is_way, is_out, test_of, Returned, PiecesRun}
use Rattle.sim_runs.proofs.Pass.{gets_map, body_then, cond_serves, way_serves}
use Rattle.sim_runs.proofs.Coding.{body_env, body_memory, body_exit, whole_env, whole_memory}
use Rattle.sim_runs.proofs.Ends.{known_outs, all_outs, unknown_taken}

no_island : (w : Exit) (n : ℕ) → SameKind w (Island n) → ⊥
no_island (Jump to) n h = h
no_island (Cond t a b) n h = h
no_island (Way v) n h = h
no_island (Island m) n h = h

kind_way : (w z : Exit) → SameKind w z → IsWay w
kind_way (Jump to) z h = tt
kind_way (Cond t a b) z h = tt
kind_way (Way v) z h = tt
kind_way (Island n) (Jump to) h = h
kind_way (Island n) (Cond t a b) h = h
kind_way (Island n) (Way v) h = h
kind_way (Island n) (Island m) h = h

in_among : (v : ℕ) (ys : List ℕ) → is_in v ys ≡ is_among ys v
in_among v [] = refl
in_among v (y ∷ ys) = go (nat_eq v y) (in_among v ys)
  where
    go : (b : Bool) → is_in v ys ≡ is_among ys v → (if b then true else is_in v ys) ≡ (b || is_among ys v)
    go true h = refl
    go false h = h

module _ (dest : Dest → ℕ) (exe : Exe) (edges : List Edge) (c : Coded) (x : ℕ) (k : Coding) (serves : Serves c.home (c.live x) (lift_of exe x) (exits_of exe edges c x) k) (p : ℕ → ℕ) (a : Cells) (small : AreSmall p) (bytes : HoldBytes a.outer) (allowed : IsAllowedAt (lift_of exe x) p a.outer) (homes : (v : ℕ) → c.live x v ≡ true → a.cell (c.home v) ≡ p v) where
  abbrev env : Env
  env = body_env c.home (c.live x) (lift_of exe x) (exits_of exe edges c x) k serves p (λ v. a.cell (c.home v)) a.outer small bytes allowed homes

  abbrev whole : Env
  whole = whole_env c.home (c.live x) (lift_of exe x) (exits_of exe edges c x) k serves p (λ v. a.cell (c.home v)) a.outer small bytes allowed homes

  abbrev plan : Plan
  plan = plan_of exe edges c

  abbrev knows : ℕ → Bool
  knows = knows_of exe edges x

  abbrev ys : List ℕ
  ys = known_of exe (counting exe edges) x

  abbrev taken : ℕ
  taken = exit_of (lift_of exe x).exit (end_env (lift_of exe x) p a.outer)

  module _ (pieces : Pieces) (run : PiecesRun dest plan c x k pieces knows a env whole) (literal : (y : ℕ) → is_out k.block.exit y ≡ false → c.beyond x y ≡ y) where
    abbrev End : ℕ → State → Type 0
    End y u = ((knows y ≡ true) × Tailed c k env a y u) ⊎ ((knows y ≡ false) × Returned plan (c.beyond x y) (outs_of k.block.outs whole) whole.mem a u)

    part : (l y : ℕ) → is_out k.block.exit y ≡ true → Passes dest c.code (part_of knows pieces l y) (Held c k env a) (End y)
    part l y out = go (knows y) refl
      where
        go : (b : Bool) → knows y ≡ b → Passes dest c.code (if b then pieces.tail y else pieces.stub l y) (Held c k env a) (End y)
        go true h = λ at u cs s q. gets_map (Tailed c k env a y) (End y) 1 1 _ _ u cs (omega arith) (omega arith) (λ w t. inl (h, t)) (run.tail y h at u cs s q)
        go false h = λ at u cs s q. gets_map (Returned plan (c.beyond x y) (outs_of k.block.outs whole) whole.mem a) (End y) 1 1 _ _ u cs (omega arith) (omega arith) (λ w t. inr (h, t)) (run.stub l y out h at u cs s q)

    within : (is : List Item) (n : ℕ) (Q : State → Type 0) → count_of is ≤ n → Passes dest c.code is (Held c k env a) Q → PassesIn dest c.code is n (Held c k env a) Q
    within is n Q few g at u cs s h = gets_map Q Q 1 1 (count_of is) n u cs (omega arith) few (λ w h. h) (g at u cs s h)

    by_exit : (w : Exit) → k.block.exit ≡ w → (n : ℕ) → ExitWithin knows ys pieces w n → PassesIn dest c.code (exit_items knows ys pieces w) n (Held c k env a) (End (exit_of w env))
    by_exit (Jump to) q n few = within (part_of knows pieces 0 to) n (End to) few (part 0 to (ap (λ w. is_out w to) q ∙ eq-eqb to to refl))
    by_exit (Cond t taken next) q n few =
        let ask = subst (λ w. (at : ℕ) (u : State) (cs : List ℕ) → StandsFrom dest c.code at (pieces.ask ++ (item.Jump (Some 5) (dests.Label pieces.other) ∷ [])) → Held c k env a at u → Gets (Held c k env a (if test_of w env then dest (dests.Label pieces.other) else at + size_of_items pieces.ask + 6)) 0 (count_of pieces.ask + 1) u cs) q (run.ask (ap is_cond q)) in
        subst (λ y. PassesIn dest c.code (exit_items knows ys pieces (Cond t taken next)) n (Held c k env a) (End y)) (turned (value env t == 0))
        (cond_serves dest c.code (Held c k env a) (λ at u. Aimed c k env a 0 at u) End pieces.ask (part_of knows pieces 0 next) (part_of knows pieces 1 taken) pieces.other taken next (not (value env t == 0)) ask (part 0 next (ap (λ w. is_out w next) q ∙ later (next == taken) (eq-eqb next next refl))) (part 1 taken (ap (λ w. is_out w taken) q ∙ ap (λ b. b || (taken == next)) (eq-eqb taken taken refl))) n few.0 few.1)
      where
        turned : (b : Bool) → (if not b then taken else next) ≡ cond b next taken
        turned true = refl
        turned false = refl

        later : (b : Bool) → (next == next) ≡ true → (b || (next == next)) ≡ true
        later true h = refl
        later false h = h
    by_exit (Way v) q n few =
        let is : k.block.exit ≡ Way v = q in
        let z : exit_of k.block.exit env ≡ value env v = ap (λ w. exit_of w env) q in
        subst (λ y. PassesIn dest c.code (exit_items knows ys pieces (Way v)) n (Held c k env a) (End y)) z
        (way_serves dest c.code (Held c k env a) (Aimed c k env a (exit_of k.block.exit env)) End pieces.compare pieces.label (exit_of k.block.exit env) (run.meets (ap is_way q)) pieces.aim pieces.way_stub pieces.tail ys (run.aim (ap is_way q))
        (λ n. let h : knows (exit_of k.block.exit env) ≡ false = sym (in_among (exit_of k.block.exit env) ys) ∙ n in λ at u cs s q. gets_map (Returned plan (exit_of k.block.exit env) (outs_of k.block.outs whole) whole.mem a) (End (exit_of k.block.exit env)) 1 1 _ _ u cs (omega arith) (omega arith) (λ w t. inr (h, subst (λ to. Returned plan to (outs_of k.block.outs whole) whole.mem a w) (sym (literal (exit_of k.block.exit env) (ap (λ w. is_out w (exit_of k.block.exit env)) is))) t)) (run.way_stub (ap is_way is) h at u cs s q))
        (λ n. let h : knows (exit_of k.block.exit env) ≡ true = sym (in_among (exit_of k.block.exit env) ys) ∙ n in λ at u cs s q. gets_map (Tailed c k env a (exit_of k.block.exit env)) (End (exit_of k.block.exit env)) 1 1 _ _ u cs (omega arith) (omega arith) (λ w t. inl (h, t)) (run.tail (exit_of k.block.exit env) h at u cs s q)) n few.0 (few.1 (exit_of k.block.exit env)))
    by_exit (Island len) q n few = absurd (no_island (lift_of exe x).exit len (subst (SameKind (lift_of exe x).exit) q serves.kind))

    way : IsWay (lift_of exe x).exit
    way = kind_way (lift_of exe x).exit k.block.exit serves.kind

    -- ---- what is handed on is the block's
    module _ (bits : AreBits (λ v. a.cell (c.home v))) (out_bits : AreBits (outs_of (lift_of exe x).outs (end_env (lift_of exe x) p a.outer))) where
      number_small : (f : Flag) → number f < 14
      number_small CF = omega arith
      number_small PF = omega arith
      number_small ZF = omega arith
      number_small SF = omega arith
      number_small OF = omega arith

      out_known : knows taken ≡ true → (v : ℕ) → v < 14 → c.live taken v ≡ true → outs_of k.block.outs env v ≡ outs_of (lift_of exe x).outs (end_env (lift_of exe x) p a.outer) v
      out_known h v l on = known_outs exe edges c x k serves p (λ v. a.cell (c.home v)) a.outer small bytes allowed homes h v l on

      out_all : knows taken ≡ false → (v : ℕ) → v < 14 → outs_of k.block.outs whole v ≡ outs_of (lift_of exe x).outs (end_env (lift_of exe x) p a.outer) v
      out_all h v l = all_outs exe edges c x k serves p (λ v. a.cell (c.home v)) a.outer small bytes allowed homes way h v l

      arrives : (u : State) → knows taken ≡ true → Tailed c k env a taken u → Arrives plan x p a u
      arrives u h t = record {
        known = h;
        cells = t.cells;
        sees = t.sees;
        there = t.there;
        outer = t.outer ∙ body_memory c.home (c.live x) (lift_of exe x) (exits_of exe edges c x) k serves p (λ v. a.cell (c.home v)) a.outer small bytes allowed homes;
        homes = λ v l on. t.homes v l on ∙ out_known h v l on;
        bits = record { flags = λ f. bit (number f) (number_small f) (bits.flags f) (out_bits.flags f); df = bit 13 (omega arith) bits.df out_bits.df };
        stays = t.stays;
      }
        where
          bit : (v : ℕ) → v < 14 → a.cell (c.home v) < 2 → outs_of (lift_of exe x).outs (end_env (lift_of exe x) p a.outer) v < 2 → t.cells.cell (c.home v) < 2
          bit v l old new = ⊎_elim
              (λ (on : c.live taken v ≡ true). let q = t.homes v l on in let r = out_known h v l on in omega (arith, q, r, new))
              (λ (off : c.live taken v ≡ false). let q = t.others v l off in omega (arith, q, old))
              (cases_Bool (c.live taken v))

      leaves : (u : State) → knows taken ≡ false → Returned plan (c.beyond x taken) (outs_of k.block.outs whole) whole.mem a u → Leaves plan x p a u
      leaves u h z = record {
        unknown = h;
        restored = record {
          own = z.restored.own;
          size = z.restored.size;
          mem = z.restored.mem ∙ ap (λ m. c.code ∷ private_region z.restored.own ∷ m) (whole_memory c.home (c.live x) (lift_of exe x) (exits_of exe edges c x) k serves p (λ v. a.cell (c.home v)) a.outer small bytes allowed homes (unknown_taken knows (lift_of exe x).exit (end_env (lift_of exe x) p a.outer) way h));
          count = z.restored.count;
          regs = λ r l. z.restored.regs r l ∙ out_all h r (omega arith);
          flags = λ f. z.restored.flags f ∙ out_all h (number f) (number_small f);
          df = z.restored.df ∙ out_all h 13 (omega arith);
          eip = z.restored.eip;
          shows = z.restored.shows;
          brk_start = z.restored.brk_start;
          brk = z.restored.brk;
        };
        ready = λ far. z.ready;
      }

      -- the whole fragment
      pub pieces_pass : (n : ℕ) → ExitWithin knows ys pieces k.block.exit n → PassesIn dest c.code (pieces.body ++ exit_items knows ys pieces k.block.exit) (count_of pieces.body + n) (λ at u. Sees c.code u a × (u.eip ≡ at)) (λ u. Arrives plan x p a u ⊎ Leaves plan x p a u)
      pieces_pass n few at u cs s h =
          let to : exit_of k.block.exit env ≡ taken = body_exit c.home (c.live x) (lift_of exe x) (exits_of exe edges c x) k serves p (λ v. a.cell (c.home v)) a.outer small bytes allowed homes in
          let g = body_then dest c.code pieces.body (exit_items knows ys pieces k.block.exit) n (λ at u. Sees c.code u a × (u.eip ≡ at)) (Held c k env a) (End (exit_of k.block.exit env)) (λ at u cs s h. run.body at u cs s h.0 h.1) (by_exit k.block.exit refl n few) at u cs s h in
          gets_map (End (exit_of k.block.exit env)) (λ u. Arrives plan x p a u ⊎ Leaves plan x p a u) 1 1 _ _ u cs (omega arith) (omega arith)
          (λ w d. ⊎_elim (λ (t : (knows taken ≡ true) × Tailed c k env a taken w). inl (arrives w t.0 t.1)) (λ (t : (knows taken ≡ false) × Returned plan (c.beyond x taken) (outs_of k.block.outs whole) whole.mem a w). inr (leaves w t.0 t.1)) (subst (λ y. End y w) to d)) g

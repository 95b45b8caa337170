-- At the exit that a block takes, its coding gives what the fragment has to hand on.
use Rattle.std.proofs.Common.{◌≡◌, ℕ, ◌<◌, Bool, true, false, cond, ◌&&◌, ◌||◌, List, [], ◌∷◌, refl, sym, ap, ◌∙◌}
use Rattle.std.specs.Prelude.{not, ◌==◌}
use Rattle.std.proofs.lemmas.Bool.{eqb-true}
use Rattle.br_word.specs.Memory.{Region, HoldBytes}
use Rattle.elf_read.specs.declared.exe.Exe.{Exe}
use Rattle.block_cut.specs.Transfers.{is_among}
use Rattle.run_model.specs.Edges.{Edge}
use Rattle.block_cut.specs.CountedEdges.{counting}
use Rattle.flow_graph.specs.Graph.{known_of}
use Rattle.ssa_form.specs.Same.{AreSmall, end_env, IsAllowedAt}
use Rattle.ssa_form.specs.Value.{Env, value, outs_of, exit_of}
use Rattle.ssa_form.specs.declared.form.Exit.{Exit}
use Rattle.ssa_form.specs.declared.form.Exit.TheVariants.{Jump, Cond, Way, Island}
use Rattle.lift_flow.specs.LiftedBlock.{lift_of}
use Rattle.sim_runs.specs.Coding.{Coding, Serves}
use Rattle.sim_runs.specs.WholeBlock.{IsWay}
use Rattle.sim_runs.specs.Recovered.{Coded, knows_of}
use Rattle.sim_runs.specs.Promised.{is_live_at, is_unknown, exits_of}
use Rattle.sim_runs.proofs.Coding.{body_env, body_out, whole_env, whole_out}

live_known : (live : ℕ → ℕ → Bool) (ys : List ℕ) (y v : ℕ) → is_among ys y ≡ true → live y v ≡ true → is_live_at live ys v ≡ true
live_known live [] y v h l = cc
live_known live (z ∷ ys) y v h l = go (y == z) refl h (λ k. live_known live ys y v k l)
  where
    later : (a b : Bool) → b ≡ true → (a || b) ≡ true
    later true b e = refl
    later false b e = e

    go : (b : Bool) → (y == z) ≡ b → (b || is_among ys y) ≡ true → (is_among ys y ≡ true → is_live_at live ys v ≡ true) → (live z v || is_live_at live ys v) ≡ true
    go true e k rest = ap (λ b. b || is_live_at live ys v) (ap (λ u. live u v) (sym (eqb-true y z e)) ∙ l)
    go false e k rest = later (live z v) (is_live_at live ys v) (rest k)

pub unknown_taken : (knows : ℕ → Bool) (x : Exit) (e : Env) → IsWay x → knows (exit_of x e) ≡ false → is_unknown knows x ≡ true
unknown_taken knows (Jump to) e w h = ap not h
unknown_taken knows (Cond t taken next) e w h = go (value e t == 0) h
  where
    second : (a b : Bool) → b ≡ false → not (a && b) ≡ true
    second true b h = ap not h
    second false b h = refl

    go : (b : Bool) → knows (cond b next taken) ≡ false → not (knows taken && knows next) ≡ true
    go true h = second (knows taken) (knows next) h
    go false h = ap (λ b. not (b && knows next)) h
unknown_taken knows (Way v) e w h = refl
unknown_taken knows (Island len) e w h = absurd w

module _ (exe : Exe) (edges : List Edge) (c : Coded) (x : ℕ) (k : Coding) (serves : Serves c.home (c.live x) (lift_of exe x) (exits_of exe edges c x) k) (p q : ℕ → ℕ) (m : List Region) (small : AreSmall p) (bytes : HoldBytes m) (allowed : IsAllowedAt (lift_of exe x) p m) (homes : (v : ℕ) → c.live x v ≡ true → q v ≡ p v) where
  abbrev taken : ℕ
  taken = exit_of (lift_of exe x).exit (end_env (lift_of exe x) p m)

  -- at a known exit the body gives what is live there
  pub known_outs : knows_of exe edges x taken ≡ true → (v : ℕ) → v < 14 → c.live taken v ≡ true → outs_of k.block.outs (body_env c.home (c.live x) (lift_of exe x) (exits_of exe edges c x) k serves p q m small bytes allowed homes) v ≡ outs_of (lift_of exe x).outs (end_env (lift_of exe x) p m) v
  known_outs h v l on = body_out c.home (c.live x) (lift_of exe x) (exits_of exe edges c x) k serves p q m small bytes allowed homes v l (live_known c.live (known_of exe (counting exe edges) x) taken v h on)

  -- at another, body and sunk lines give all
  pub all_outs : IsWay (lift_of exe x).exit → knows_of exe edges x taken ≡ false → (v : ℕ) → v < 14 → outs_of k.block.outs (whole_env c.home (c.live x) (lift_of exe x) (exits_of exe edges c x) k serves p q m small bytes allowed homes) v ≡ outs_of (lift_of exe x).outs (end_env (lift_of exe x) p m) v
  all_outs way h v l = whole_out c.home (c.live x) (lift_of exe x) (exits_of exe edges c x) k serves p q m small bytes allowed homes (unknown_taken (knows_of exe edges x) (lift_of exe x).exit (end_env (lift_of exe x) p m) way h) v l

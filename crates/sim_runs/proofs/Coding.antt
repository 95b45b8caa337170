-- A coding that serves gives what its block gives: the body alone at known exits, body and sunk lines everywhere.
use Rattle.std.proofs.Common.{◌≡◌, ℕ, ◌+◌, ◌<◌, Bool, true, List, length, refl, ap, ◌∙◌, subst, arith}
use Rattle.br_word.specs.Memory.{Region, HoldBytes}
use Rattle.ssa_form.specs.Same.{AreSmall, rows, start_env, end_env, IsAllowedAt, GivesSame}
use Rattle.par_moves.specs.declared.locations.Place.{Place}
use Rattle.ssa_form.specs.Value.{Env, fold, AllAllowed, select_value, outs_of, exit_of}
use Rattle.sim_runs.specs.Lines.{Alike, Below}
use Rattle.emit_ops.specs.Sequences.{kept}
use Rattle.ssa_form.specs.declared.form.Exit.{Exit}
use Rattle.ssa_form.specs.declared.form.Exit.TheVariants.{Jump, Cond, Way, Island}
use Rattle.ssa_form.specs.declared.form.Block.{Block}
use Rattle.sim_runs.specs.Coding.{out_at, Coding, Exits, ExitIn, Serves}
use Rattle.sim_runs.proofs.Lines.{same_value, kept_alike, solved, Known, known_value, sunk_known}

exit_alike : (on keep : ℕ → Bool) (e f : Env) (x : Exit) → Alike on keep e f → ExitIn on keep x → exit_of x e ≡ exit_of x f
exit_alike on keep e f (Jump to) h n = refl
exit_alike on keep e f (Cond t taken next) h n = ap (λ k. select_value k taken next) (same_value on keep e f h t n)
exit_alike on keep e f (Way v) h n = same_value on keep e f h v n
exit_alike on keep e f (Island len) h n = refl

module _ (home : ℕ → Place) (on : ℕ → Bool) (b : Block) (exits : Exits) (c : Coding) (serves : Serves home on b exits c) (p q : ℕ → ℕ) (m : List Region) (small : AreSmall p) (bytes : HoldBytes m) (allowed : IsAllowedAt b p m) (homes : (v : ℕ) → on v ≡ true → q v ≡ p v) where
  -- after the body
  abbrev pub body_env : Env
  body_env = fold (kept c.body (rows c.block)) (start_env q m)

  same : GivesSame b c.block p m
  same = serves.same p m small bytes allowed

  alike : Alike on c.body body_env (end_env c.block p m) × AllAllowed (kept c.body (rows c.block)) (start_env q m)
  alike = kept_alike on c.body (rows c.block) (start_env q m) (start_env p m) serves.body (record { params = homes; lines = λ j k. refl; mem = refl }) same.allowed

  pub body_allowed : AllAllowed (kept c.body (rows c.block)) (start_env q m)
  body_allowed = alike.1

  pub body_memory : body_env.mem ≡ (end_env b p m).mem
  body_memory = alike.0.mem ∙ same.memory

  pub body_exit : exit_of c.block.exit body_env ≡ exit_of b.exit (end_env b p m)
  body_exit = exit_alike on c.body body_env (end_env c.block p m) c.block.exit alike.0 serves.exit ∙ same.exit

  pub body_out : (v : ℕ) → v < 14 → exits.live v ≡ true → outs_of c.block.outs body_env v ≡ outs_of b.outs (end_env b p m) v
  body_out v l k = same_value on c.body body_env (end_env c.block p m) alike.0 (out_at c.block v) (serves.outs v l k) ∙ same.outs v l

  -- and after the sunk lines behind it
  abbrev pub whole_env : Env
  whole_env = fold (kept c.sunk (rows c.block)) body_env

  module _ (out : exits.unknown ≡ true) where
    known : Known on c.body c.sunk (end_env c.block p m) (0 + length (rows c.block)) whole_env
    known = sunk_known on c.body c.sunk (end_env c.block p m) 0 (rows c.block) body_env serves.order (serves.sunk out) (solved 0 (rows c.block) (start_env p m) serves.order) (record { params = alike.0.params; body = alike.0.lines; sunk_lines = λ j l k. absurd (omega arith); mem = alike.0.mem })

    pub whole_memory : whole_env.mem ≡ (end_env b p m).mem
    whole_memory = known.mem ∙ same.memory

    pub whole_out : (v : ℕ) → v < 14 → outs_of c.block.outs whole_env v ≡ outs_of b.outs (end_env b p m) v
    whole_out v l =
        let z : length (rows c.block) ≡ 0 + length (rows c.block) = omega arith in
        let n : Below (0 + length (rows c.block)) (out_at c.block v) = subst (λ k. Below k (out_at c.block v)) z (serves.named v l) in
        known_value on c.body c.sunk (end_env c.block p m) (0 + length (rows c.block)) whole_env known (out_at c.block v) n (serves.all_outs out v l) ∙ same.outs v l

-- Runs of n + m steps.
use Rattle.std.proofs.Common.{◌≡◌, ℕ, zero, suc, ◌+◌, List, [], ◌∷◌, ◌++◌, drop, refl, sym, ap, ◌∙◌, subst, append_assoc, arith}
use Rattle.std.specs.Prelude.{◌↔◌}
use Rattle.br_word.specs.State.{State}
use Rattle.ia_inst.specs.Step.{step}
use Rattle.run_model.specs.Edges.{edge_of, edges_from}
use Rattle.run_model.specs.Run.{first_choice, run, WellDefined}

drop_more : (n : ℕ) (cs : List ℕ) → drop n (drop 1 cs) ≡ drop (suc n) cs
drop_more zero [] = refl
drop_more (suc n) [] = refl
drop_more n (c ∷ cs) = refl

pub split_run : (n m : ℕ) (s : State) (cs : List ℕ) → run (n + m) s cs ≡ run m (run n s cs) (drop n cs)
split_run zero m s cs = let z : 0 + m ≡ m = omega arith in ap (λ k. run k s cs) z
split_run (suc n) m s cs =
    let e : suc n + m ≡ suc (n + m) = omega arith in
    ap (λ k. run k s cs) e
    ∙ split_run n m (step s (first_choice cs)) (drop 1 cs)
    ∙ ap (λ ds. run m (run n (step s (first_choice cs)) (drop 1 cs)) ds) (drop_more n cs)

pub split_edges : (n m : ℕ) (s : State) → edges_from (n + m) s ≡ edges_from n s ++ edges_from m (run n s [])
split_edges zero m s = let z : 0 + m ≡ m = omega arith in ap (λ k. edges_from k s) z
split_edges (suc n) m s =
    let e : suc n + m ≡ suc (n + m) = omega arith in
    ap (λ k. edges_from k s) e
    ∙ ap (λ es. edge_of s.stop s 0 ++ es) (split_edges n m (step s 0))
    ∙ sym (append_assoc (edge_of s.stop s 0) (edges_from n (step s 0)) (edges_from m (run n (step s 0) [])))

pub split_defined : (n m : ℕ) (s : State) → WellDefined (n + m) s ↔ (WellDefined n s × WellDefined m (run n s []))
split_defined n m s = (apart n s, together n s)
  where
    none : 0 + m ≡ m
    none = omega arith

    more : (n : ℕ) → suc n + m ≡ suc (n + m)
    more n = omega arith

    apart : (n : ℕ) (s : State) → WellDefined (n + m) s → WellDefined n s × WellDefined m (run n s [])
    apart zero s h = (tt, subst (λ k. WellDefined k s) none h)
    apart (suc n) s h =
        let d : WellDefined (suc (n + m)) s = subst (λ k. WellDefined k s) (more n) h in
        let r = apart n (step s 0) d.1 in
        ((d.0, r.0), r.1)

    together : (n : ℕ) (s : State) → WellDefined n s × WellDefined m (run n s []) → WellDefined (n + m) s
    together zero s h = subst (λ k. WellDefined k s) (sym none) h.1
    together (suc n) s h = subst (λ k. WellDefined k s) (sym (more n)) (h.0.0, together n (step s 0) (h.0.1, h.1))

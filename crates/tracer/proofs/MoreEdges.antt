-- Edges that are put in among others, and those of longer runs.
use Rattle.std.proofs.Common.{◌≡◌, ℕ, zero, suc, ◌+◌, ◌-◌, ◌≤◌, Bool, true, false, if◌then◌else◌, List, [], ◌∷◌, ◌++◌, length, Option, Some, None, refl, sym, ◌∙◌, ap, arith, append_assoc}
use Rattle.br_word.specs.State.{State}
use Rattle.ia_inst.specs.Step.{step}
use Rattle.run_model.specs.Edges.{edge_of, edges_from}
use Rattle.run_model.specs.Run.{run}
use Rattle.guest_run.specs.BoundedRun.{edge_list}
use Rattle.trace_file.specs.Edges as edges
use Rattle.trace_file.specs.Edges.{Edge, before, merge, with_edge, collected}
use Rattle.tracer.specs.TracedRun.{with_step}

pub collected_append : (xs ys es : List Edge) → collected (xs ++ ys) es ≡ collected ys (collected xs es)
collected_append [] ys es = refl
collected_append (x ∷ xs) ys es = collected_append xs ys (with_edge x es)

pub collected_one : (o : Option Edge) (es : List Edge) → collected (edge_list o) es ≡ with_step o es
collected_one None es = refl
collected_one (Some e) es = refl

-- no edge is lost
edge_grows : (e : Edge) (es : List Edge) → length es ≤ length (edges.step e (merge []) es)
edge_grows e [] = omega arith
edge_grows e (b ∷ bs) = go (before e b) (before b e) (edge_grows e bs)
  where
    go : (p q : Bool) → length bs ≤ length (edges.step e (merge []) bs) → length (b ∷ bs) ≤ length (if p then (e ∷ b ∷ bs) else (if q then (b ∷ edges.step e (merge []) bs) else (e ∷ bs)))
    go true q h = omega arith
    go false true h = omega (arith, h)
    go false false h = omega arith

grows : (xs es : List Edge) → length es ≤ length (collected xs es)
grows [] es = omega arith
grows (x ∷ xs) es = omega (arith, edge_grows x es, grows xs (with_edge x es))

edges_add : (m j n : ℕ) (s : State) → n ≡ m + j → edges_from n s ≡ edges_from m s ++ edges_from j (run m s [])
edges_add zero j n s e = let same : n ≡ j = omega (arith, e) in ap (λ k. edges_from k s) same
edges_add (suc m) j zero s e = absurd (omega (arith, e))
edges_add (suc m) j (suc n) s e =
    ap (λ xs. edge_of s.stop s 0 ++ xs) (edges_add m j n (step s 0) (omega (arith, e)))
    ∙ sym (append_assoc (edge_of s.stop s 0) (edges_from m (step s 0)) (edges_from j (run m (step s 0) [])))

-- fewer steps have no more edges
pub fewer_edges : (k n : ℕ) (s : State) (es : List Edge) → k ≤ n → length (collected (edges_from k s) es) ≤ length (collected (edges_from n s) es)
fewer_edges k n s es le =
    let j = n - k in
    let all : n ≡ k + j = omega (arith, le) in
    let rest = edges_from j (run k s []) in
    omega (
      arith,
      grows rest (collected (edges_from k s) es),
      ap length (collected_append (edges_from k s) rest es),
      ap (λ xs. length (collected xs es)) (edges_add k j n s all),
    )

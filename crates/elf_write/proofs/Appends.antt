-- One piece after another.
use Rattle.std.proofs.Common.{◌≡◌, ℕ, List, [], ◌++◌, ◌∙◌, append_assoc, append-nil}

pub eight : (l0 l1 l2 l3 l4 l5 l6 l7 l8 a1 a2 a3 a4 a5 a6 a7 a8 : List ℕ) → l1 ≡ l0 ++ a1 → l2 ≡ l1 ++ a2 → l3 ≡ l2 ++ a3 → l4 ≡ l3 ++ a4 → l5 ≡ l4 ++ a5 → l6 ≡ l5 ++ a6 → l7 ≡ l6 ++ a7 → l8 ≡ l7 ++ a8 → l8 ≡ l0 ++ (a1 ++ (a2 ++ (a3 ++ (a4 ++ (a5 ++ (a6 ++ (a7 ++ (a8 ++ []))))))))
eight l0 l1 l2 l3 l4 l5 l6 l7 l8 a1 a2 a3 a4 a5 a6 a7 a8 e1 e2 e3 e4 e5 e6 e7 e8 =
    let all : l8 ≡ (((((((l0 ++ a1) ++ a2) ++ a3) ++ a4) ++ a5) ++ a6) ++ a7) ++ a8 = cc in
    let flat : (((((((l0 ++ a1) ++ a2) ++ a3) ++ a4) ++ a5) ++ a6) ++ a7) ++ a8 ≡ l0 ++ (a1 ++ (a2 ++ (a3 ++ (a4 ++ (a5 ++ (a6 ++ (a7 ++ (a8 ++ [])))))))) = simp (append_assoc, append-nil) in
    all ∙ flat

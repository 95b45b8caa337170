-- The code of a layout and a tail, put together.
use Rattle.std.proofs.Common.{◌≡◌, ℕ, ◌+◌, List, ◌++◌, append_assoc, sym, ap, ◌∙◌}
use Rattle.ia_encode.specs.declared.item.Dest.{Dest}
use Rattle.ia_encode.specs.Items.{goes_to}
use Rattle.code_layout.specs.declared.place.TheConstants.{CODE_START}
use Rattle.code_layout.specs.Layout.{Added, LayoutView, filled_from, layout_code}
use Rattle.code_layout.specs.Places.{place_in}
use Rattle.cold_copy.specs.declared.behind.Tail.{Tail}
use Rattle.cold_copy.specs.Linking.{stands_by}

-- by where things stand
abbrev pub code_by : LayoutView → List ℕ → Tail → List (ℕ × ℕ) → List (ℕ × ℕ) → List (ℕ × ℕ) → List ℕ
code_by v starts t blocks copies out =
    let to = goes_to (stands_by (CODE_START + t.reentries.len) starts blocks copies) in
    layout_code (place_in out) v
    ++ (filled_from to (CODE_START + t.at) t.copies.pieces.items
    ++ (filled_from to (CODE_START + t.copies.len) t.reentries.pieces.items
    ++ filled_from to (CODE_START + t.reentries.len) t.turn.pieces.items))

module _ (to : Dest → ℕ) where
  part_is : (n m : ℕ) (ps qs : List Added) → n ≡ m → ps ≡ qs → filled_from to (CODE_START + n) ps ≡ filled_from to (CODE_START + m) qs
  part_is n m ps qs e f = ap (λ k. filled_from to (CODE_START + k) ps) e ∙ ap (filled_from to (CODE_START + m)) f

  pub put_together : (f x1 x2 x3 : List ℕ) (n0 n1 n2 m0 m1 m2 : ℕ) (p1 p2 p3 q1 q2 q3 : List Added)
      → x1 ≡ f ++ filled_from to (CODE_START + n0) p1 → x2 ≡ x1 ++ filled_from to (CODE_START + n1) p2 → x3 ≡ x2 ++ filled_from to (CODE_START + n2) p3
      → n0 ≡ m0 → n1 ≡ m1 → n2 ≡ m2 → p1 ≡ q1 → p2 ≡ q2 → p3 ≡ q3
      → x3 ≡ f ++ (filled_from to (CODE_START + m0) q1 ++ (filled_from to (CODE_START + m1) q2 ++ filled_from to (CODE_START + m2) q3))
  put_together f x1 x2 x3 n0 n1 n2 m0 m1 m2 p1 p2 p3 q1 q2 q3 e1 e2 e3 k0 k1 k2 r1 r2 r3 =
      let a = filled_from to (CODE_START + m0) q1 in
      let b = filled_from to (CODE_START + m1) q2 in
      let c = filled_from to (CODE_START + m2) q3 in
      let one = e1 ∙ ap (λ z. f ++ z) (part_is n0 m0 p1 q1 k0 r1) in
      let two = e2 ∙ ap (λ z. z ++ filled_from to (CODE_START + n1) p2) one ∙ ap (λ z. (f ++ a) ++ z) (part_is n1 m1 p2 q2 k1 r2) in
      e3 ∙ ap (λ z. z ++ filled_from to (CODE_START + n2) p3) two ∙ ap (λ z. ((f ++ a) ++ b) ++ z) (part_is n2 m2 p3 q3 k2 r3)
      ∙ append_assoc (f ++ a) b c
      ∙ append_assoc f a (b ++ c)

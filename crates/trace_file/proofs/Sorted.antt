-- The order of edges.
use Rattle.std.proofs.Common.{◌≡◌, ℕ, zero, suc, ◌<◌, Bool, true, false, ◌&&◌, List, [], ◌∷◌, length, get_or, refl, ap, ◌∙◌, arith}
use Rattle.std.proofs.lemmas.Bool.Decides.{nat_tests}
use Rattle.trace_file.specs.Edges.{Edge, before, ascends_after, ascends}

pub and_inv : (a b : Bool) → (a && b) ≡ true → (a ≡ true) × (b ≡ true)
and_inv true b e = (refl, e)
and_inv false b e = cc

pub and_both : (a b : Bool) → a ≡ true → b ≡ true → (a && b) ≡ true
and_both a b e f = ap (λ a. a && b) e ∙ f

abbrev pub edge : ℕ → ℕ → Edge
edge site target = (site, target)

pub same_edge : (a b : Edge) → (b.0 ≡ a.0) × (b.1 ≡ a.1) → b ≡ a
same_edge a b p = ap (λ s. edge s b.1) p.0 ∙ ap (λ t. edge a.0 t) p.1

tied_parts : (a b c d : ℕ) → before (edge a b) (edge c d) ≡ false → before (edge c d) (edge a b) ≡ false → (a ≡ c) × (b ≡ d)
tied_parts a b c d h k = (grind (arith, nat_tests), grind (arith, nat_tests))

-- of two edges one is before the other, or they are one
pub tied : (a b : Edge) → before a b ≡ false → before b a ≡ false → a ≡ b
tied a b h k = same_edge b a (tied_parts a.0 a.1 b.0 b.1 h k)

pub not_before_itself : (a : Edge) → before a a ≡ false
not_before_itself a = grind (arith, nat_tests)

pub before_after : (a b c : Edge) → before a b ≡ true → before b c ≡ true → before a c ≡ true
before_after a b c h k = grind (arith, nat_tests)

-- what ascends from an edge ascends from one before it
pub ascends_earlier : (a b : Edge) (es : List Edge) → before a b ≡ true → ascends_after b es ≡ true → ascends_after a es ≡ true
ascends_earlier a b [] h k = refl
ascends_earlier a b (c ∷ es) h k =
    let p = and_inv (before b c) (ascends_after c es) k in
    and_both (before a c) (ascends_after c es) (before_after a b c h p.0) p.1

pub after_at : (a : Edge) (es : List Edge) (i : ℕ) (d : Edge) → ascends_after a es ≡ true → i < length es → before a (get_or es i d) ≡ true
after_at a [] i d h l = absurd (omega arith)
after_at a (b ∷ es) zero d h l = (and_inv (before a b) (ascends_after b es) h).0
after_at a (b ∷ es) (suc i) d h l =
    let p = and_inv (before a b) (ascends_after b es) h in
    before_after a b (get_or es i d) p.0 (after_at b es i d p.1 (omega arith))

pub ascends_later : (a : Edge) (es : List Edge) → ascends_after a es ≡ true → ascends es ≡ true
ascends_later a [] h = refl
ascends_later a (b ∷ es) h = (and_inv (before a b) (ascends_after b es) h).1

-- each edge is before those at higher places
pub in_order : (es : List Edge) (i j : ℕ) (d : Edge) → ascends es ≡ true → i < j → j < length es → before (get_or es i d) (get_or es j d) ≡ true
in_order [] i j d h l m = absurd (omega arith)
in_order (a ∷ es) i zero d h l m = absurd (omega arith)
in_order (a ∷ es) zero (suc j) d h l m = after_at a es j d h (omega arith)
in_order (a ∷ es) (suc i) (suc j) d h l m = in_order es i j d (ascends_later a es h) (omega arith) (omega arith)

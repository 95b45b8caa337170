-- What came and what went between two sets of edges.
use Rattle.std.proofs.Common.{◌≡◌, ◌+◌, ◌≤◌, Bool, true, false, not, List, [], ◌∷◌, length, inl, inr, refl, sym, ap, ◌∙◌, arith}
use Rattle.std.specs.Prelude.{Contains, filter}
use Rattle.std.proofs.lemmas.Bool.{cases_Bool}
use Rattle.trace_file.specs.Edges.{Edge, has, merge, without, IsInOrder}
use Rattle.trace_file.proofs.Union.{here, there, from_merge, to_merge, ascends_merge}
use Rattle.trace_file.proofs.Unique.{unique}
use Rattle.trace_file.proofs.Without.{has_from, has_to, from_without, to_without, ascends_without}

-- ---- in one of two lists

has_not : (e : Edge) (es : List Edge) → has e es ≡ false → Contains es e → ⊥
has_not e es h c = let n : false ≡ true = sym h ∙ has_from e es c in cc

is_not : (e : Edge) (es : List Edge) → (Contains es e → ⊥) → has e es ≡ false
is_not e es n = elim (cases_Bool (has e es)) [
  | inl t ↦ absurd (n (has_to e es t))
  | inr f ↦ f
]

-- ---- how many

-- each edge of a list is left by one of two that have it in turn
parts : (g h xs : List Edge) → ((e : Edge) → Contains xs e → has e h ≡ not (has e g)) → length (without g xs) + length (without h xs) ≡ length xs
parts g h [] turn = refl
parts g h (x ∷ xs) turn =
    let n : length (without g xs) + length (without h xs) ≡ length xs = parts g h xs (λ e c. turn e (there x e xs c)) in
    let t : has x h ≡ not (has x g) = turn x (here x xs) in
    elim (cases_Bool (has x g)) [
      | inl y ↦ let m : has x h ≡ false = t ∙ ap not y in rw (y, m) (omega (arith, n))
      | inr y ↦ let m : has x h ≡ true = t ∙ ap not y in rw (y, m) (omega (arith, n))
    ]

-- a part of a list leaves no more
fewer : (p : Edge → Bool) (g xs : List Edge) → length (without g (filter p xs)) ≤ length (without g xs)
fewer p g [] = omega arith
fewer p g (x ∷ xs) =
    let n : length (without g (filter p xs)) ≤ length (without g xs) = fewer p g xs in
    elim (cases_Bool (p x)) [
      | inl t ↦ elim (cases_Bool (has x g)) [
        | inl y ↦ rw (t, y) n
        | inr y ↦ rw (t, y) (omega (arith, n))
      ]
      | inr f ↦ elim (cases_Bool (has x g)) [
        | inl y ↦ rw (f, y) n
        | inr y ↦ rw (f, y) (omega (arith, n))
      ]
    ]

-- ---- between two sets

module _ (now last : List Edge) (now_order : IsInOrder now) (last_order : IsInOrder last) where
  forth : (e : Edge) → Contains (merge (without last now) (without (without now last) last)) e → Contains now e
  forth e c = elim (from_merge e (without last now) (without (without now last) last) c) [
    | inl h ↦ (from_without last now e h).0
    | inr h ↦ let q = from_without (without now last) last e h in elim (cases_Bool (has e now)) [
      | inl t ↦ has_to e now t
      | inr f ↦ absurd (q.1 (to_without now last e q.0 (has_not e now f)))
    ]
  ]

  back : (e : Edge) → Contains now e → Contains (merge (without last now) (without (without now last) last)) e
  back e c = to_merge e (without last now) (without (without now last) last) (elim (cases_Bool (has e last)) [
    | inl t ↦ inr (to_without (without now last) last e (has_to e last t) (λ w. (from_without now last e w).1 c))
    | inr f ↦ inl (to_without last now e c (has_not e last f))
  ])

  -- without what went and with what came, the earlier set becomes the later one
  pub changed : merge (without last now) (without (without now last) last) ≡ now
  changed =
      unique (merge (without last now) (without (without now last) last)) now
      (ascends_merge (without last now) (without (without now last) last) (ascends_without last now now_order) (ascends_without (without now last) last last_order))
      now_order forth back

  -- what stayed, by the one set and by the other
  stayed : without (without now last) last ≡ without (without last now) now
  stayed =
      unique (without (without now last) last) (without (without last now) now)
      (ascends_without (without now last) last last_order) (ascends_without (without last now) now now_order)
      (λ e c. to_without (without last now) now e (forth e (to_merge e (without last now) (without (without now last) last) (inr c)))
      (λ w. (from_without last now e w).1 (from_without (without now last) last e c).0))
      (λ e c. let q = from_without (without last now) now e c in elim (cases_Bool (has e last)) [
        | inl t ↦ to_without (without now last) last e (has_to e last t) (λ w. (from_without now last e w).1 q.0)
        | inr f ↦ absurd (q.1 (to_without last now e q.0 (has_not e last f)))
      ])

  in_turn : (e : Edge) → Contains now e → has e (without last now) ≡ not (has e last)
  in_turn e c = elim (cases_Bool (has e last)) [
    | inl t ↦ is_not e (without last now) (λ w. (from_without last now e w).1 (has_to e last t)) ∙ ap not (sym t)
    | inr f ↦ has_from e (without last now) (to_without last now e c (has_not e last f)) ∙ ap not (sym f)
  ]

  -- what came and what stayed of a part of the earlier set are no more than the later one has
  pub room : (p : Edge → Bool) → length (without last now) + length (without (without now last) (filter p last)) ≤ length now
  room p = omega (arith, fewer p (without now last) last, ap length stayed, parts last (without last now) now in_turn)

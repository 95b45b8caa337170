-- The ends of fragments lead where they should.
use Rattle.std.proofs.Common.{◌≡◌, ℕ, ◌+◌, ◌-◌, ◌*◌, ◌<◌, ◌≤◌, Bool, true, false, List, [], ◌∷◌, ◌++◌, length, Some, refl, sym, ap, ◌∙◌, subst, arith, ⊎_elim, ◌⊎◌, inl, inr}
use Rattle.std.specs.Prelude.{nat_eq, if◌then◌else◌}
use Rattle.std.proofs.lemmas.Bool.{cases_lt, true≢false, eqb-true}
use Rattle.br_word.specs.Memory.{Region}
use Rattle.br_word.specs.State.{State}
use Rattle.ia_inst.specs.declared.inst.Inst.{Inst}
use Rattle.ia_inst.specs.Canonical.{canonical}
use Rattle.run_model.specs.Run.{observed, run}
use Rattle.ia_encode.specs.declared.item.Dest.{Dest}
use Rattle.ia_encode.specs.declared.item.Dest.TheVariants.{Label as ToLabel}
use Rattle.ia_encode.specs.declared.item.Item.{Item}
use Rattle.ia_encode.specs.declared.item.Item.TheVariants.{Inst as Put, Byte, Jump, Label}
use Rattle.ia_encode.specs.Items.{size_of_items, size_of_jump, Stands}
use Rattle.sim_runs.specs.Forward.{after}
use Rattle.sim_runs.specs.Laws.{Leads}
use Rattle.sim_runs.specs.Passes.{Gets, StandsFrom, Passes, PassesIn, count_of, cond_items, chain, tails, is_in}
use Rattle.sim_runs.proofs.Runs.{run_on}

pub gets_then : (P Q : State → Type 0) (j k m n : ℕ) (t : State) (cs : List ℕ) → Gets P j m t cs → ((u : State) (ds : List ℕ) → P u → Gets Q k n u ds) → Gets Q (j + k) (m + n) t cs
gets_then P Q j k m n t cs a next =
    let b = next (run a.steps t cs) (after a.steps cs) a.there in
    let later : (i : ℕ) → a.steps ≤ i → run i t cs ≡ run (i - a.steps) (run a.steps t cs) (after a.steps cs) = λ i l. (let z : i ≡ a.steps + (i - a.steps) = omega arith in ap (λ i. run i t cs) z ∙ run_on a.steps (i - a.steps) t cs) in
    record {
      steps = a.steps + b.steps;
      enough = omega (arith, a.enough, b.enough);
      bound = omega (arith, a.bound, b.bound);
      shows = λ i k. ⊎_elim
          (λ (c : i < a.steps). a.shows i (omega arith))
          (λ (c : a.steps ≤ i). ap observed (later i c) ∙ b.shows (i - a.steps) (omega arith) ∙ a.shows a.steps (omega arith))
          (cases_lt i a.steps);
      inside = λ i k. ⊎_elim
          (λ (c : i < a.steps). a.inside i c)
          (λ (c : a.steps ≤ i). subst (λ (u : State). u.eip < 0x07000000) (sym (later i c)) (b.inside (i - a.steps) (omega arith)))
          (cases_lt i a.steps);
      there = subst Q (sym (run_on a.steps b.steps t cs)) b.there;
    }

pub gets_map : (P Q : State → Type 0) (j k m n : ℕ) (t : State) (cs : List ℕ) → k ≤ j → m ≤ n → ((u : State) → P u → Q u) → Gets P j m t cs → Gets Q k n t cs
gets_map P Q j k m n t cs h l f g = record { steps = g.steps; enough = omega (arith, g.enough); bound = omega (arith, g.bound); shows = g.shows; inside = g.inside; there = f _ g.there }

pub gets_none : (P : State → Type 0) (n : ℕ) (t : State) (cs : List ℕ) → P t → Gets P 0 n t cs
gets_none P n t cs p = record {
  steps = 0;
  enough = omega arith;
  bound = omega arith;
  shows = λ i l. (let z : i ≡ 0 = omega arith in ap (λ i. observed (run i t cs)) z);
  inside = λ i l. absurd (omega arith);
  there = p;
}

pub gets_leads : (P : State → Type 0) (n : ℕ) (t : State) (cs : List ℕ) → Gets P 1 n t cs → Leads P n t cs
gets_leads P n t cs g = record { steps = g.steps; going = omega (arith, g.enough); bound = g.bound; shows = g.shows; inside = g.inside; there = g.there }

module _ (dest : Dest → ℕ) (code : Region) where
  -- items that stand one behind the other
  pub cut : (is js : List Item) (at to : ℕ) → Stands dest code at (is ++ js) to → StandsFrom dest code at is × Stands dest code (at + size_of_items is) js to
  cut [] js at to s = (omega arith, let z : at ≡ at + 0 = omega arith in subst (λ a. Stands dest code a js to) z s)
  cut (Put i ∷ is) js at to s =
      let r = cut is js (at + length (canonical i)) to s.1 in
      let z : at + length (canonical i) + size_of_items is ≡ at + (length (canonical i) + size_of_items is) = omega arith in
      ((s.0, subst (λ b. Stands dest code (at + length (canonical i)) is b) z r.0), subst (λ a. Stands dest code a js to) z r.1)
  cut (Byte b ∷ is) js at to s =
      let r = cut is js (at + 1) to s.1 in
      let z : at + 1 + size_of_items is ≡ at + (1 + size_of_items is) = omega arith in
      ((s.0, subst (λ b. Stands dest code (at + 1) is b) z r.0), subst (λ a. Stands dest code a js to) z r.1)
  cut (Jump c d ∷ is) js at to s =
      let r = cut is js (at + size_of_jump c) to s.1 in
      let z : at + size_of_jump c + size_of_items is ≡ at + (size_of_jump c + size_of_items is) = omega arith in
      ((s.0, subst (λ b. Stands dest code (at + size_of_jump c) is b) z r.0), subst (λ a. Stands dest code a js to) z r.1)
  cut (Label l ∷ is) js at to s =
      let r = cut is js at to s.1 in
      let z : at + size_of_items is ≡ at + (0 + size_of_items is) = omega arith in
      ((s.0, subst (λ b. Stands dest code at is b) z r.0), subst (λ a. Stands dest code a js to) z r.1)

  pub size_cut : (is js : List Item) → size_of_items (is ++ js) ≡ size_of_items is + size_of_items js
  size_cut [] js = omega arith
  size_cut (Put i ∷ is) js = let q = size_cut is js in omega (arith, q)
  size_cut (Byte b ∷ is) js = let q = size_cut is js in omega (arith, q)
  size_cut (Jump c d ∷ is) js = let q = size_cut is js in omega (arith, q)
  size_cut (Label l ∷ is) js = let q = size_cut is js in omega (arith, q)

  pub stands_cut : (is js : List Item) (at : ℕ) → StandsFrom dest code at (is ++ js) → StandsFrom dest code at is × StandsFrom dest code (at + size_of_items is) js
  stands_cut is js at s =
      let n = size_cut is js in
      let z : at + size_of_items (is ++ js) ≡ at + size_of_items is + size_of_items js = omega (arith, n) in
      cut is js at (at + size_of_items is + size_of_items js) (subst (λ b. Stands dest code at (is ++ js) b) z s)

  join : (is js : List Item) (at mid to : ℕ) → Stands dest code at is mid → Stands dest code mid js to → Stands dest code at (is ++ js) to
  join [] js at mid to s j = subst (λ a. Stands dest code a js to) (sym s) j
  join (Put i ∷ is) js at mid to s j = (s.0, join is js (at + length (canonical i)) mid to s.1 j)
  join (Byte b ∷ is) js at mid to s j = (s.0, join is js (at + 1) mid to s.1 j)
  join (Jump c d ∷ is) js at mid to s j = (s.0, join is js (at + size_of_jump c) mid to s.1 j)
  join (Label l ∷ is) js at mid to s j = (s.0, join is js at mid to s.1 j)

  pub stands_join : (is js : List Item) (at : ℕ) → StandsFrom dest code at is → StandsFrom dest code (at + size_of_items is) js → StandsFrom dest code at (is ++ js)
  stands_join is js at s j =
      let n = size_cut is js in
      let z : at + size_of_items is + size_of_items js ≡ at + size_of_items (is ++ js) = omega (arith, n) in
      subst (λ b. Stands dest code at (is ++ js) b) z (join is js at (at + size_of_items is) (at + size_of_items is + size_of_items js) s j)

  -- what stands behind a label stands at it
  label_cut : (l : ℕ) (is : List Item) (at : ℕ) → StandsFrom dest code at (Label l ∷ is) → (at ≡ dest (ToLabel l)) × StandsFrom dest code at is
  label_cut l is at s = let z : at + (0 + size_of_items is) ≡ at + size_of_items is = omega arith in (s.0, subst (λ b. Stands dest code at is b) z s.1)

  pub count_cut : (is js : List Item) → count_of (is ++ js) ≡ count_of is + count_of js
  count_cut [] js = omega arith
  count_cut (Put i ∷ is) js = let q = count_cut is js in omega arith
  count_cut (Byte b ∷ is) js = let q = count_cut is js in omega arith
  count_cut (Jump c d ∷ is) js = let q = count_cut is js in omega arith
  count_cut (Label l ∷ is) js = count_cut is js

  -- the body, and then the exit
  pub body_then : (is js : List Item) (n : ℕ) (P B : ℕ → State → Type 0) (Q : State → Type 0) → ((at : ℕ) (u : State) (cs : List ℕ) → StandsFrom dest code at is → P at u → Gets (B (at + size_of_items is)) 0 (count_of is) u cs) → PassesIn dest code js n B Q → PassesIn dest code (is ++ js) (count_of is + n) P Q
  body_then is js n P B Q body exit at u cs s p =
      let c = stands_cut is js at s in
      gets_then (B (at + size_of_items is)) Q 0 1 (count_of is) n u cs (body at u cs c.0 p) (λ v ds b. exit (at + size_of_items is) v ds c.1 b)

  module _ (Body Aim : ℕ → State → Type 0) (End : ℕ → State → Type 0) where
    -- an exit by a condition
    pub cond_serves : (asks next taken : List Item) (l y z : ℕ) (t : Bool) →
        ((at : ℕ) (u : State) (cs : List ℕ) → StandsFrom dest code at (asks ++ (Jump (Some 5) (ToLabel l) ∷ [])) → Body at u → Gets (Body (if t then dest (ToLabel l) else at + size_of_items asks + 6)) 0 (count_of asks + 1) u cs) →
        Passes dest code next Body (End z) → Passes dest code taken Body (End y) → (n : ℕ) → count_of asks + 1 + count_of next ≤ n → count_of asks + 1 + count_of taken ≤ n →
        PassesIn dest code (cond_items asks l next taken) n Body (End (if t then y else z))
    cond_serves asks next taken l y z t test on off n few many at u cs s b =
        let c = stands_cut asks (Jump (Some 5) (ToLabel l) ∷ (next ++ (Label l ∷ taken))) at s in
        let j = stands_cut (Jump (Some 5) (ToLabel l) ∷ []) (next ++ (Label l ∷ taken)) (at + size_of_items asks) c.1 in
        let d = stands_cut next (Label l ∷ taken) (at + size_of_items asks + 6) j.1 in
        let f = label_cut l taken (at + size_of_items asks + 6 + size_of_items next) d.1 in
        let st = stands_join asks (Jump (Some 5) (ToLabel l) ∷ []) at c.0 j.0 in
        go t (test at u cs st b) d.0 f.0 f.1
      where
        go : (t : Bool) → Gets (Body (if t then dest (ToLabel l) else at + size_of_items asks + 6)) 0 (count_of asks + 1) u cs → StandsFrom dest code (at + size_of_items asks + 6) next → at + size_of_items asks + 6 + size_of_items next ≡ dest (ToLabel l) → StandsFrom dest code (at + size_of_items asks + 6 + size_of_items next) taken → Gets (End (if t then y else z)) 1 n u cs
        go true g sn at_l sy = gets_map (End y) (End y) 1 1 (count_of asks + 1 + count_of taken) n u cs (omega arith) many (λ u h. h) (gets_then _ (End y) 0 1 _ _ u cs g (λ v ds q. off (dest (ToLabel l)) v ds (subst (λ a. StandsFrom dest code a taken) at_l sy) q))
        go false g sn at_l sy = gets_map (End z) (End z) 1 1 (count_of asks + 1 + count_of next) n u cs (omega arith) few (λ u h. h) (gets_then _ (End z) 0 1 _ _ u cs g (λ v ds q. on (at + size_of_items asks + 6) v ds sn q))

    -- the tail of a known target stands at its label
    tail_stands : (tail : ℕ → List Item) (label : ℕ → ℕ) (ys : List ℕ) (at v : ℕ) → is_in v ys ≡ true → StandsFrom dest code at (tails tail label ys) → StandsFrom dest code (dest (ToLabel (label v))) (tail v)
    tail_stands tail label [] at v i s = absurd (true≢false (sym i))
    tail_stands tail label (y ∷ ys) at v i s =
        let f = label_cut (label y) (tail y ++ tails tail label ys) at s in
        let c = stands_cut (tail y) (tails tail label ys) at f.1 in
        go (nat_eq v y) refl i (subst (λ a. StandsFrom dest code a (tail y)) f.0 c.0) (λ i. tail_stands tail label ys (at + size_of_items (tail y)) v i c.1)
      where
        go : (b : Bool) → nat_eq v y ≡ b → (if b then true else is_in v ys) ≡ true → StandsFrom dest code (dest (ToLabel (label y))) (tail y) → (is_in v ys ≡ true → StandsFrom dest code (dest (ToLabel (label v))) (tail v)) → StandsFrom dest code (dest (ToLabel (label v))) (tail v)
        go true q i s r = let z = sym (eqb-true v y q) in subst (λ v. StandsFrom dest code (dest (ToLabel (label v))) (tail v)) z s
        go false q i s r = r i

    -- the target is this one, or it is not
    abbrev Met : Bool → (ℕ → State → Type 0) → ℕ → ℕ → State → Type 0
    Met b P at to w = ((b ≡ true) × P at w) ⊎ ((b ≡ false) × Aim to w)

    module _ (compare : ℕ → Inst) (label : ℕ → ℕ) (v : ℕ)
        (meets : (y at : ℕ) (u : State) (cs : List ℕ) → StandsFrom dest code at (Put (compare y) ∷ Jump (Some 4) (ToLabel (label y)) ∷ []) → Aim at u → Gets (Met (nat_eq v y) Body (dest (ToLabel (label y))) (at + length (canonical (compare y)) + 6)) 0 2 u cs) where
      -- the comparisons lead to the tail of the target, or past them
      pub chain_leads : (ys : List ℕ) (at : ℕ) (u : State) (cs : List ℕ) → StandsFrom dest code at (chain compare label ys) → Aim at u → Gets (Met (is_in v ys) Body (dest (ToLabel (label v))) (at + size_of_items (chain compare label ys))) 0 (count_of (chain compare label ys)) u cs
      chain_leads [] at u cs s a = gets_none _ _ u cs (inr (refl, let z : at ≡ at + 0 = omega arith in subst (λ a. Aim a u) z a))
      chain_leads (y ∷ ys) at u cs s a =
          let next : ℕ = at + length (canonical (compare y)) + 6 in
          let k = stands_cut (Put (compare y) ∷ Jump (Some 4) (ToLabel (label y)) ∷ []) (chain compare label ys) at s in
          let first = meets y at u cs k.0 a in
          let z : at + (length (canonical (compare y)) + 6) ≡ at + length (canonical (compare y)) + 6 = omega arith in
          let behind : StandsFrom dest code next (chain compare label ys) = subst (λ a. StandsFrom dest code a (chain compare label ys)) z k.1 in
          let rest = λ (w : State) (ds : List ℕ) (b : Aim next w). chain_leads ys next w ds behind b in
          gets_map (Met (is_in v (y ∷ ys)) Body (dest (ToLabel (label v))) (at + size_of_items (chain compare label (y ∷ ys)))) _ 0 0 (2 + count_of (chain compare label ys)) _ u cs (omega arith) (omega arith) (λ w h. h)
          (gets_then (Met (nat_eq v y) Body (dest (ToLabel (label y))) next) (Met (is_in v (y ∷ ys)) Body (dest (ToLabel (label v))) (at + size_of_items (chain compare label (y ∷ ys)))) 0 0 2 (count_of (chain compare label ys)) u cs first (λ w ds m. ⊎_elim
          (λ (h : (nat_eq v y ≡ true) × Body (dest (ToLabel (label y))) w). gets_none _ _ w ds (inl (rw (h.0) refl, subst (λ y. Body (dest (ToLabel (label y))) w) (sym (eqb-true v y h.0)) h.1)))
          (λ (h : (nat_eq v y ≡ false) × Aim next w). gets_map (Met (is_in v ys) Body (dest (ToLabel (label v))) (next + size_of_items (chain compare label ys))) _ 0 0 _ _ w ds (omega arith) (omega arith) (λ x k. moved x h.0 k) (rest w ds h.1))
          m))
        where
          moved : (x : State) → nat_eq v y ≡ false → Met (is_in v ys) Body (dest (ToLabel (label v))) (at + length (canonical (compare y)) + 6 + size_of_items (chain compare label ys)) x → Met (is_in v (y ∷ ys)) Body (dest (ToLabel (label v))) (at + size_of_items (chain compare label (y ∷ ys))) x
          moved x n (inl k) = inl (rw n (k.0), k.1)
          moved x n (inr k) = inr (rw n (k.0), let z : at + length (canonical (compare y)) + 6 + size_of_items (chain compare label ys) ≡ at + (length (canonical (compare y)) + (6 + size_of_items (chain compare label ys))) = omega arith in subst (λ a. Aim a x) z k.1)

      chain_count : (ys : List ℕ) → count_of (chain compare label ys) ≡ 2 * length ys
      chain_count [] = refl
      chain_count (y ∷ ys) = let q = chain_count ys in omega (arith, q)

      -- an exit by a way: aim, compare, stub, tails
      pub way_serves : (aim stub : List Item) (tail : ℕ → List Item) (ys : List ℕ) →
          ((at : ℕ) (u : State) (cs : List ℕ) → StandsFrom dest code at aim → Body at u → Gets (Aim (at + size_of_items aim)) 0 (count_of aim) u cs) →
          (is_in v ys ≡ false → Passes dest code stub Aim (End v)) →
          (is_in v ys ≡ true → Passes dest code (tail v) Body (End v)) →
          (n : ℕ) → count_of aim + 2 * length ys + count_of stub ≤ n → (is_in v ys ≡ true → count_of aim + 2 * length ys + count_of (tail v) ≤ n) →
          PassesIn dest code (aim ++ (chain compare label ys ++ (stub ++ tails tail label ys))) n Body (End v)
      way_serves aim stub tail ys aims off on n few many at u cs s b =
          let c = stands_cut aim (chain compare label ys ++ (stub ++ tails tail label ys)) at s in
          let d = stands_cut (chain compare label ys) (stub ++ tails tail label ys) (at + size_of_items aim) c.1 in
          let f = stands_cut stub (tails tail label ys) (at + size_of_items aim + size_of_items (chain compare label ys)) d.1 in
          let m = chain_count ys in
          let front : ℕ = count_of aim + count_of (chain compare label ys) in
          let behind : ℕ = at + size_of_items aim + size_of_items (chain compare label ys) in
          gets_map (End v) (End v) 1 1 (front + (n - front)) n u cs (omega arith) (omega (arith, few, m)) (λ w h. h)
          (gets_then (Met (is_in v ys) Body (dest (ToLabel (label v))) behind) (End v) 0 1 front (n - front) u cs
          (gets_then (Aim (at + size_of_items aim)) (Met (is_in v ys) Body (dest (ToLabel (label v))) behind) 0 0 (count_of aim) (count_of (chain compare label ys)) u cs (aims at u cs c.0 b) (λ w ds a. chain_leads ys (at + size_of_items aim) w ds d.0 a))
          (λ x fs k. ⊎_elim
          (λ (h : (is_in v ys ≡ true) × Body (dest (ToLabel (label v))) x). gets_map (End v) (End v) 1 1 (count_of (tail v)) (n - front) x fs (omega arith) (let q = many h.0 in omega (arith, q, m)) (λ w h. h) (on h.0 (dest (ToLabel (label v))) x fs (tail_stands tail label ys _ v h.0 f.1) h.1))
          (λ (h : (is_in v ys ≡ false) × Aim behind x). gets_map (End v) (End v) 1 1 (count_of stub) (n - front) x fs (omega arith) (omega (arith, few, m)) (λ w h. h) (off h.0 behind x fs f.0 h.1))
          k))

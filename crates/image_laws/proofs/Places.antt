-- Fragments one behind another: where each stands.
use Rattle.std.proofs.Common.{◌≡◌, ℕ, ◌+◌, ◌≤◌, true, false, if◌then◌else◌, List, [], ◌∷◌, ◌++◌, length, map, Option, Some, None, refl, sym, ap, ◌∙◌, subst, arith, length-append, append_assoc, ⊎_elim}
use Rattle.std.specs.Prelude.{◌==◌, Bool, ◌||◌, ◌≢◌}
use Rattle.std.proofs.lemmas.Bool.Decides.{eqb_tells}
use Rattle.ia_inst.specs.declared.inst.Inst.TheVariants.{Jcc, Jmp}
use Rattle.ia_inst.specs.Canonical.{canonical}
use Rattle.ia_encode.specs.declared.item.Dest.{Dest}
use Rattle.ia_encode.specs.declared.item.Item.{Item}
use Rattle.ia_encode.specs.declared.item.Item.TheVariants.{Inst as Put, Byte, Jump, Label}
use Rattle.ia_encode.specs.Items.{size_of_items, size_of_jump, jump_inst, distance, bytes_of_items, with_labels}
use Rattle.block_cut.specs.Transfers.{is_among}
use Rattle.code_layout.specs.Linked.{Fragment, address_in, bytes_at, bytes_from}

-- the lengths of jumps
pub record JumpLengths : Type 0 where
  pub jcc : (c d : ℕ) → length (canonical (Jcc c d)) ≡ 6
  pub jmp : (d : ℕ) → length (canonical (Jmp d)) ≡ 5

-- the bytes of the fragment of a start among those of others
pub record IsAmong (goes : Dest → ℕ) (all : List ℕ) (from at : ℕ) (is : List Item) : Type 0 where
  pub front : List ℕ
  pub behind : List ℕ
  pub bytes : all ≡ front ++ (bytes_at goes at is ++ behind)
  pub place : at ≡ from + length front

abbrev pub fragment_at : (ℕ → List Item) → ℕ → Fragment
fragment_at items s = record { start = s; items = items s }

module _ (laws : JumpLengths) where
  jump_long : (c : Option ℕ) (d : ℕ) → length (canonical (jump_inst c d)) ≡ size_of_jump c
  jump_long None d = laws.jmp d
  jump_long (Some c) d = laws.jcc c d

  pub bytes_long : (dest : Dest → ℕ) (is : List Item) (at : ℕ) → length (bytes_of_items dest at is) ≡ size_of_items is
  bytes_long dest [] at = refl
  bytes_long dest (Put i ∷ is) at = length-append (canonical i) (bytes_of_items dest (at + length (canonical i)) is) ∙ ap (λ n. length (canonical i) + n) (bytes_long dest is (at + length (canonical i)))
  bytes_long dest (Byte b ∷ is) at = let q = bytes_long dest is (at + 1) in omega (arith, q)
  bytes_long dest (Jump c to ∷ is) at =
      let bs = canonical (jump_inst c (distance (at + size_of_jump c) (dest to))) in
      let q = bytes_long dest is (at + size_of_jump c) in
      let l = jump_long c (distance (at + size_of_jump c) (dest to)) in
      let a = length-append bs (bytes_of_items dest (at + size_of_jump c) is) in
      omega (arith, a, q, l)
  bytes_long dest (Label l ∷ is) at = let q = bytes_long dest is (at + 0) in omega (arith, q)

  module _ (goes : Dest → ℕ) (items : ℕ → List Item) where
    abbrev Placed_at : ℕ → List ℕ → ℕ → ℕ → Type 0
    Placed_at at xs x to = IsAmong goes (bytes_from goes at (map (fragment_at items) xs)) at to (items x)

    pub among : (xs : List ℕ) (at x : ℕ) → is_among xs x ≡ true → Placed_at at xs x (address_in at (map (fragment_at items) xs) x)
    among [] at x h = absurd (let e : false ≡ true = h in cc)
    among (y ∷ ys) at x h = ⊎_elim
        (λ (q : ((y == x) ≡ true) × (y ≡ x)).
        subst (Placed_at at (y ∷ ys) x) (sym (ap (λ b. if b then at else address_in (at + size_of_items (items y)) (map (fragment_at items) ys) x) q.0)) (record {
          front = [];
          behind = bytes_from goes (at + size_of_items (items y)) (map (fragment_at items) ys);
          bytes = ap (λ z. bytes_at goes at (items z) ++ bytes_from goes (at + size_of_items (items y)) (map (fragment_at items) ys)) q.1;
          place = omega arith;
        }))
        (λ (q : ((y == x) ≡ false) × (y ≢ x)).
        let r = among ys (at + size_of_items (items y)) x (later y x (is_among ys x) q.1 h) in
        let long = bytes_long (with_labels goes at (items y)) (items y) at in
        let both = length-append (bytes_at goes at (items y)) r.front in
        subst (Placed_at at (y ∷ ys) x) (sym (ap (λ b. if b then at else address_in (at + size_of_items (items y)) (map (fragment_at items) ys) x) q.0)) (record {
          front = bytes_at goes at (items y) ++ r.front;
          behind = r.behind;
          bytes = ap (λ bs. bytes_at goes at (items y) ++ bs) r.bytes ∙ sym (append_assoc (bytes_at goes at (items y)) r.front (bytes_at goes (address_in (at + size_of_items (items y)) (map (fragment_at items) ys) x) (items x) ++ r.behind));
          place = omega (arith, r.place, long, both);
        }))
        (eqb_tells y x)
      where
        later : (y x : ℕ) (b : Bool) → y ≢ x → ((x == y) || b) ≡ true → b ≡ true
        later y x b n h = ⊎_elim
            (λ (q : ((x == y) ≡ true) × (x ≡ y)). absurd (n (sym q.1)))
            (λ (q : ((x == y) ≡ false) × (x ≢ y)). sym (ap (λ c. c || b) q.0) ∙ h)
            (eqb_tells x y)

  -- no fragment begins behind them all
  pub address_low : (goes : Dest → ℕ) (fs : List Fragment) (at y : ℕ) → address_in at fs y ≤ at + length (bytes_from goes at fs)
  address_low goes [] at y = omega arith
  address_low goes (f ∷ fs) at y = decide (f.start == y) (address_low goes fs (at + size_of_items f.items) y)
    where
      decide : (b : Bool) → address_in (at + size_of_items f.items) fs y ≤ at + size_of_items f.items + length (bytes_from goes (at + size_of_items f.items) fs) → (if b then at else address_in (at + size_of_items f.items) fs y) ≤ at + length (bytes_at goes at f.items ++ bytes_from goes (at + size_of_items f.items) fs)
      decide true q = omega arith
      decide false q =
          let long = bytes_long (with_labels goes at f.items) f.items at in
          let both = length-append (bytes_at goes at f.items) (bytes_from goes (at + size_of_items f.items) fs) in
          omega (arith, q, long, both)

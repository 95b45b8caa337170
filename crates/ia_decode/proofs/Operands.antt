-- An operand that is read is spelled so, and one that is spelled is read again, whatever follows.
use Rattle.std.proofs.Common.{◌≡◌, ℕ, zero, suc, ◌/◌, ◌%◌, ◌<◌, true, false, ◌==◌, ◌&&◌, List, [], ◌∷◌, ◌++◌, Option, Some, None, refl, sym, ap, subst, ◌∙◌, arith, inl, inr, lit<}
use Rattle.std.proofs.lemmas.Bool.Decides.{nat_tests}
use Rattle.ia_inst.specs.declared.inst.Addr.{Addr}
use Rattle.ia_inst.specs.declared.inst.Rm.{Rm}
use Rattle.ia_inst.specs.declared.inst.Rm.TheVariants.{Reg, Mem}
use Rattle.ia_inst.specs.Operands.{four, extended, fields, address, scaled, Displacement, nothing, byte, word, Based, base, no_base, Memory, sib, plain, Operand, register, memory}
use Rattle.ia_inst.specs.Reading.{◌>>=◌, byte_at, four_at, displacement_at, based_at, memory_at, fields_at, operand_at, Read}
use Rattle.ia_decode.proofs.Readers.{IsBytes, bind_some, some, some_is, chosen, Takes, byte_found, four_found, four_again}

-- ---- what is spelled is read again

displacement_again : {m d : ℕ} {bytes : List ℕ} → Displacement m bytes d → (rest : List ℕ) → displacement_at m (bytes ++ rest) ≡ Some (d, rest)
unfolding displacement_at byte_at
displacement_again nothing rest = refl
displacement_again (byte d lt) rest = refl
displacement_again (word d lt) rest = four_again d rest lt

not_both : (m r : ℕ) → (m ≡ 0 → r ≡ 5 → ⊥) → ((m == 0) && (r == 5)) ≡ false
not_both m r h = grind (arith, nat_tests)

based_again : {m r : ℕ} {index : Option (ℕ × ℕ)} {bytes : List ℕ} {a : Addr} → Based m r index bytes a → (rest : List ℕ) → based_at m r index (bytes ++ rest) ≡ Some (a, rest)
unfolding based_at
based_again (base m r index bytes d r8 apart disp) rest = rw (not_both m r apart, displacement_again disp rest) refl
based_again (no_base index d lt) rest = rw (four_again d rest lt) refl

displacement_low : {m d : ℕ} {bytes : List ℕ} → Displacement m bytes d → m < 3
displacement_low nothing = lit< tt
displacement_low (byte d lt) = lit< tt
displacement_low (word d lt) = lit< tt

based_low : {m r : ℕ} {index : Option (ℕ × ℕ)} {bytes : List ℕ} {a : Addr} → Based m r index bytes a → (m < 3) × (r < 8)
based_low (base m r index bytes d r8 apart disp) = (displacement_low disp, r8)
based_low (no_base index d lt) = (lit< tt, lit< tt)

high : (m g r : ℕ) → g < 8 → r < 8 → fields m g r / 64 ≡ m
high m g r p q = omega arith

middle : (m g r : ℕ) → g < 8 → r < 8 → (fields m g r / 8) % 8 ≡ g
middle m g r p q = omega arith

low : (m g r : ℕ) → g < 8 → r < 8 → fields m g r % 8 ≡ r
low m g r p q = omega arith

not_three : (m : ℕ) → m < 3 → (m == 3) ≡ false
not_three m h = grind (arith, nat_tests)

not_four : (r : ℕ) → (r ≡ 4 → ⊥) → (r == 4) ≡ false
not_four r h = grind (arith, nat_tests)

memory_low : {m r : ℕ} {bytes : List ℕ} {a : Addr} → Memory m r bytes a → (m < 3) × (r < 8)
memory_low (sib m s x r bytes a p q based) = ((based_low based).0, lit< tt)
memory_low (plain m r bytes a h based) = based_low based

memory_again : {m r : ℕ} {bytes : List ℕ} {a : Addr} → Memory m r bytes a → (rest : List ℕ) → memory_at m r (bytes ++ rest) ≡ Some (a, rest)
unfolding memory_at byte_at
memory_again (sib m s x r bytes a p q based) rest =
    let l = based_low based in
    rw (high s x r q l.1, middle s x r q l.1, low s x r q l.1, based_again based rest) refl
memory_again (plain m r bytes a h based) rest = rw (not_four r h, based_again based rest) refl

pub operand_again : {bytes : List ℕ} {g : ℕ} {a : Rm} → Operand bytes g a → (rest : List ℕ) → operand_at (bytes ++ rest) ≡ Some (g, a, rest)
unfolding operand_at fields_at byte_at
operand_again (register g r p q) rest = rw (high 3 g r p q, middle 3 g r p q, low 3 g r p q) refl
operand_again (memory m g r bytes a p there) rest =
    let l = memory_low there in
    rw (high m g r p l.1, middle m g r p l.1, low m g r p l.1, not_three m l.0, memory_again there rest) refl

-- ---- what is read is spelled so

displacement_found : (m : ℕ) (bytes : List ℕ) (x : ℕ × List ℕ) → m < 3 → IsBytes bytes → displacement_at m bytes ≡ Some x → Takes (λ f. Displacement m f x.0) bytes x.1
unfolding displacement_at
displacement_found zero bytes x lt fits e = subst (λ (y : ℕ × List ℕ). Takes (λ f. Displacement 0 f y.0) bytes y.1) (some_is (0, bytes) x e) (record { front = []; spelled = nothing; parts = refl; fits = fits })
displacement_found (suc zero) bytes x lt fits e =
    let b = bind_some (byte_at bytes) (λ d. some (extended d.0, d.1)) x e in
    let f = byte_found bytes b.0 fits b.1 in
    subst (λ (y : ℕ × List ℕ). Takes (λ f. Displacement 1 f y.0) bytes y.1) (some_is (extended b.0.0, b.0.1) x b.2) (record { front = b.0.0 ∷ []; spelled = byte b.0.0 f.1; parts = f.0; fits = f.2 })
displacement_found (suc (suc zero)) bytes x lt fits e =
    let f = four_found bytes x fits e in
    record { front = four x.0; spelled = word x.0 f.1; parts = f.0; fits = f.2 }
displacement_found (suc (suc (suc m))) bytes x lt fits e = absurd (omega arith)

both : (m r : ℕ) → ((m == 0) && (r == 5)) ≡ true → (m ≡ 0) × (r ≡ 5)
both m r h = grind (arith, nat_tests)

apart : (m r : ℕ) → ((m == 0) && (r == 5)) ≡ false → m ≡ 0 → r ≡ 5 → ⊥
apart m r h e f = grind (arith, nat_tests)

based_found : (m r : ℕ) (index : Option (ℕ × ℕ)) (bytes : List ℕ) (x : Addr × List ℕ) → m < 3 → r < 8 → IsBytes bytes → based_at m r index bytes ≡ Some x → Takes (λ f. Based m r index f x.0) bytes x.1
unfolding based_at
based_found m r index bytes x lt r8 fits e =
    elim (chosen ((m == 0) && (r == 5)) (four_at bytes >>= λ d. Some (address None index d.0, d.1)) (displacement_at m bytes >>= λ d. Some (address (Some r) index d.0, d.1)) x e) [
      | inl t ↦
          let b = bind_some (four_at bytes) (λ d. some (address None index d.0, d.1)) x t.1 in
          let f = four_found bytes b.0 fits b.1 in
          let z = both m r t.0 in
          let made : Takes (λ f. Based 0 5 index f (address None index b.0.0)) bytes b.0.1 = record { front = four b.0.0; spelled = no_base index b.0.0 f.1; parts = f.0; fits = f.2 } in
          let there : Takes (λ f. Based m r index f (address None index b.0.0)) bytes b.0.1 = rw (z.0, z.1) made in
          subst (λ (y : Addr × List ℕ). Takes (λ f. Based m r index f y.0) bytes y.1) (some_is (address None index b.0.0, b.0.1) x b.2) there
      | inr t ↦
          let b = bind_some (displacement_at m bytes) (λ d. some (address (Some r) index d.0, d.1)) x t.1 in
          let f = displacement_found m bytes b.0 lt fits b.1 in
          subst (λ (y : Addr × List ℕ). Takes (λ f. Based m r index f y.0) bytes y.1) (some_is (address (Some r) index b.0.0, b.0.1) x b.2)
          (record { front = f.front; spelled = base m r index f.front b.0.0 r8 (apart m r t.0) f.spelled; parts = f.parts; fits = f.fits })
    ]

-- a byte is its fields
split : (b : ℕ) → fields (b / 64) ((b / 8) % 8) (b % 8) ≡ b
split b = omega arith

is_three : (m : ℕ) → (m == 3) ≡ true → m ≡ 3
is_three m h = grind (arith, nat_tests)

below_three : (b : ℕ) → b < 256 → ((b / 64) == 3) ≡ false → b / 64 < 3
below_three b lt h = let k : (b / 64 ≡ 3 → ⊥) = apart_three (b / 64) h in omega arith
  where
    apart_three : (m : ℕ) → (m == 3) ≡ false → m ≡ 3 → ⊥
    apart_three m h e = grind (arith, nat_tests)

is_four : (m : ℕ) → (m == 4) ≡ true → m ≡ 4
is_four m h = grind (arith, nat_tests)

isnt_four : (m : ℕ) → (m == 4) ≡ false → m ≡ 4 → ⊥
isnt_four m h e = grind (arith, nat_tests)

memory_found : (m r : ℕ) (bytes : List ℕ) (x : Addr × List ℕ) → m < 3 → r < 8 → IsBytes bytes → memory_at m r bytes ≡ Some x → Takes (λ f. Memory m r f x.0) bytes x.1
unfolding memory_at
memory_found m r bytes x lt r8 fits e =
    elim (chosen (r == 4) (byte_at bytes >>= λ s. based_at m (s.0 % 8) (scaled ((s.0 / 8) % 8) (s.0 / 64)) s.1) (based_at m r None bytes) x e) [
      | inl t ↦
          let step = bind_some (byte_at bytes) (λ s. based_at m (s.0 % 8) (scaled ((s.0 / 8) % 8) (s.0 / 64)) s.1) x t.1 in
          rw (is_four r t.0) (behind step.0.0 step.0.1 (byte_found bytes step.0 fits step.1) step.2)
      | inr t ↦
          let f = based_found m r None bytes x lt r8 fits t.1 in
          record { front = f.front; spelled = plain m r f.front x.0 (isnt_four r t.0) f.spelled; parts = f.parts; fits = f.fits }
    ]
  where
    behind : (s : ℕ) (rest : List ℕ) → (bytes ≡ s ∷ rest) × (s < 256) × IsBytes rest → based_at m (s % 8) (scaled ((s / 8) % 8) (s / 64)) rest ≡ Some x → Takes (λ f. Memory m 4 f x.0) bytes x.1
    behind s rest first u =
        let f = based_found m (s % 8) (scaled ((s / 8) % 8) (s / 64)) rest x lt (omega arith) first.2 u in
        record {
          front = fields (s / 64) ((s / 8) % 8) (s % 8) ∷ f.front;
          spelled = sib m (s / 64) ((s / 8) % 8) (s % 8) f.front x.0 (omega (arith, first.1)) (omega arith) f.spelled;
          parts = first.0 ∙ subst (λ (k : ℕ). s ∷ rest ≡ k ∷ (f.front ++ x.1)) (sym (split s)) (ap (λ (w : List ℕ). s ∷ w) f.parts);
          fits = f.fits;
        }

abbrev Found : List ℕ → Read → Type 0
Found bytes y = Takes (λ f. Operand f y.0 y.1) bytes y.2

fields_found : (b : ℕ) (rest : List ℕ) (x : Read) → b < 256 → IsBytes rest → fields_at b rest ≡ Some x → Found (b ∷ rest) x
unfolding fields_at
fields_found b rest x lt fits e =
    elim (chosen ((b / 64) == 3) (some ((b / 8) % 8, Reg (b % 8), rest)) (memory_at (b / 64) (b % 8) rest >>= λ a. Some ((b / 8) % 8, Mem a.0, a.1)) x e) [
      | inl t ↦
          let h : b / 64 ≡ 3 = is_three (b / 64) t.0 in
          let same : b ≡ fields 3 ((b / 8) % 8) (b % 8) = omega arith in
          subst (λ (y : Read). Found (b ∷ rest) y) (some_is ((b / 8) % 8, Reg (b % 8), rest) x t.1)
          (record { front = fields 3 ((b / 8) % 8) (b % 8) ∷ []; spelled = register ((b / 8) % 8) (b % 8) (omega arith) (omega arith); parts = ap (λ (k : ℕ). k ∷ rest) same; fits = fits })
      | inr t ↦
          let a = bind_some (memory_at (b / 64) (b % 8) rest) (λ a. some ((b / 8) % 8, Mem a.0, a.1)) x t.1 in
          let f = memory_found (b / 64) (b % 8) rest a.0 (below_three b lt t.0) (omega arith) fits a.1 in
          subst (λ (y : Read). Found (b ∷ rest) y) (some_is ((b / 8) % 8, Mem a.0.0, a.0.1) x a.2)
          (record {
            front = fields (b / 64) ((b / 8) % 8) (b % 8) ∷ f.front;
            spelled = memory (b / 64) ((b / 8) % 8) (b % 8) f.front a.0.0 (omega arith) f.spelled;
            parts = subst (λ (k : ℕ). b ∷ rest ≡ k ∷ (f.front ++ a.0.1)) (sym (split b)) (ap (λ (w : List ℕ). b ∷ w) f.parts);
            fits = f.fits;
          })
    ]

pub operand_found : (bytes : List ℕ) (x : Read) → IsBytes bytes → operand_at bytes ≡ Some x → Takes (λ f. Operand f x.0 x.1) bytes x.2
unfolding operand_at
operand_found bytes x fits e =
    let step = bind_some (byte_at bytes) (λ b. fields_at b.0 b.1) x e in
    let first = byte_found bytes step.0 fits step.1 in
    rw first.0 (fields_found step.0.0 step.0.1 x first.1 first.2 step.2)

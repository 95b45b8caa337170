-- What stands before the operands is read again.
use Rattle.std.proofs.Common.{◌≡◌, ℕ, zero, suc, ◌+◌, ◌^◌, ◌<◌, Bool, true, false, ◌==◌, ◌||◌, List, ◌∷◌, ◌++◌, Some, None, refl, ap, subst, arith}
use Rattle.std.proofs.lemmas.Bool.Decides.{nat_tests}
use Rattle.std.proofs.lemmas.Nat.{from_le_bytes-to_le_bytes_2}
use Rattle.br_word.specs.declared.types.Width.{Width}
use Rattle.br_word.specs.declared.types.Width.TheVariants.{B8, B16, B32}
use Rattle.ia_inst.specs.Operands.{two}
use Rattle.ia_inst.specs.Spells as spells
use Rattle.ia_inst.specs.Spells.{size, pair, of_width, IsLong, imm, limit}
use Rattle.ia_inst.specs.declared.prefixes.Prefix.TheVariants as one
use Rattle.ia_inst.specs.declared.prefixes.Prefixes.{Prefixes}
use Rattle.ia_inst.specs.declared.prefixes.Prefixes.TheVariants.{Bare, Size, Repeat, SizeRepeat, Branch, Padding, Other}
use Rattle.ia_inst.specs.declared.opcode.Opcode.{Opcode}
use Rattle.ia_inst.specs.Reading.{byte_at}
use Rattle.ia_inst.specs.Prefixes.{prefix_of, with, padding_of, width_of, prefixes_at}
use Rattle.ia_inst.specs.Opcodes.{opcode_of}
use Rattle.ia_inst.specs.Instructions.{two_at, imm_at, opcode_at, behind_at, inst_at}
use Rattle.ia_decode.proofs.Readers.{some, none_is, four_again}

pub each_8 : (P : ℕ → Type 0) → P 0 → P 1 → P 2 → P 3 → P 4 → P 5 → P 6 → P 7 → (r : ℕ) → r < 8 → P r
each_8 P a b c d e f g h zero lt = a
each_8 P a b c d e f g h (suc zero) lt = b
each_8 P a b c d e f g h (suc (suc zero)) lt = c
each_8 P a b c d e f g h (suc (suc (suc zero))) lt = d
each_8 P a b c d e f g h (suc (suc (suc (suc zero)))) lt = e
each_8 P a b c d e f g h (suc (suc (suc (suc (suc zero))))) lt = f
each_8 P a b c d e f g h (suc (suc (suc (suc (suc (suc zero)))))) lt = g
each_8 P a b c d e f g h (suc (suc (suc (suc (suc (suc (suc zero))))))) lt = h
each_8 P a b c d e f g h (suc (suc (suc (suc (suc (suc (suc (suc r)))))))) lt = absurd (omega arith)

pub each_16 : (P : ℕ → Type 0) → P 0 → P 1 → P 2 → P 3 → P 4 → P 5 → P 6 → P 7 → P 8 → P 9 → P 10 → P 11 → P 12 → P 13 → P 14 → P 15 → (r : ℕ) → r < 16 → P r
each_16 P a b c d e f g h a' b' c' d' e' f' g' h' (suc (suc (suc (suc (suc (suc (suc (suc r)))))))) lt =
    each_8 (λ r. P (suc (suc (suc (suc (suc (suc (suc (suc r))))))))) a' b' c' d' e' f' g' h' r (omega arith)
each_16 P a b c d e f g h a' b' c' d' e' f' g' h' zero lt = a
each_16 P a b c d e f g h a' b' c' d' e' f' g' h' (suc zero) lt = b
each_16 P a b c d e f g h a' b' c' d' e' f' g' h' (suc (suc zero)) lt = c
each_16 P a b c d e f g h a' b' c' d' e' f' g' h' (suc (suc (suc zero))) lt = d
each_16 P a b c d e f g h a' b' c' d' e' f' g' h' (suc (suc (suc (suc zero)))) lt = e
each_16 P a b c d e f g h a' b' c' d' e' f' g' h' (suc (suc (suc (suc (suc zero))))) lt = f
each_16 P a b c d e f g h a' b' c' d' e' f' g' h' (suc (suc (suc (suc (suc (suc zero)))))) lt = g
each_16 P a b c d e f g h a' b' c' d' e' f' g' h' (suc (suc (suc (suc (suc (suc (suc zero))))))) lt = h

pub is : (a b : ℕ) → (a == b) ≡ true → a ≡ b
is a b h = grind (arith, nat_tests)

-- ---- prefixes

-- a prefix is no opcode
pub no_prefix : (b : ℕ) (x : Opcode) → opcode_of b ≡ Some x → prefix_of b ≡ None
no_prefix b x e = by_test (b == 0x66) refl (b == 0xF3) refl (b == 0x2E) refl (b == 0x3E) refl
  where
    by_test : (p : Bool) → (b == 0x66) ≡ p → (q : Bool) → (b == 0xF3) ≡ q → (r : Bool) → (b == 0x2E) ≡ r → (s : Bool) → (b == 0x3E) ≡ s → prefix_of b ≡ None
    by_test true h q i r j s k = absurd (none_is x (subst (λ (n : ℕ). opcode_of n ≡ Some x) (is b 0x66 h) e))
    by_test false h true i r j s k = absurd (none_is x (subst (λ (n : ℕ). opcode_of n ≡ Some x) (is b 0xF3 i) e))
    by_test false h false i true j s k = absurd (none_is x (subst (λ (n : ℕ). opcode_of n ≡ Some x) (is b 0x2E j) e))
    by_test false h false i false j true k = absurd (none_is x (subst (λ (n : ℕ). opcode_of n ≡ Some x) (is b 0x3E k) e))
    by_test false h false i false j false k = rw (h, i, j, k) refl

pub behind_again : (c : Prefixes) (b : ℕ) (t : List ℕ) (x : Opcode) → opcode_of b ≡ Some x → behind_at (prefixes_at c (b ∷ t)) ≡ opcode_at c x t
unfolding behind_at prefixes_at byte_at
behind_again c b t x e = rw (no_prefix b x e, e) refl

pub bare_again : (b : ℕ) (t : List ℕ) (x : Opcode) → opcode_of b ≡ Some x → inst_at (b ∷ t) ≡ opcode_at Bare x t
unfolding inst_at
bare_again b t x e = behind_again Bare b t x e

pub size_again : (b : ℕ) (t : List ℕ) (x : Opcode) → opcode_of b ≡ Some x → inst_at (0x66 ∷ b ∷ t) ≡ opcode_at Size x t
unfolding inst_at prefixes_at
size_again b t x e = behind_again Size b t x e

-- ---- widths

abbrev pub class : Width → Prefixes
class B8 = Bare
class B16 = Size
class B32 = Bare

abbrev pub is_byte : Width → Bool
is_byte B8 = true
is_byte B16 = false
is_byte B32 = false

pub width_again : (w : Width) → width_of (class w) (is_byte w) ≡ Some w
width_again B8 = refl
width_again B16 = refl
width_again B32 = refl

pub long_width : (w : Width) → IsLong w → width_of (class w) false ≡ Some w
long_width B8 h = absurd h
long_width B16 h = refl
long_width B32 h = refl

pub pair_again : (w : Width) (o : ℕ) (t : List ℕ) (x : Opcode) → opcode_of (of_width w o) ≡ Some x → inst_at (pair w o ++ t) ≡ opcode_at (class w) x t
pair_again B8 o t x e = bare_again o t x e
pair_again B16 o t x e = size_again (o + 1) t x e
pair_again B32 o t x e = bare_again (o + 1) t x e

pub long_again : (w : Width) (o : ℕ) (t : List ℕ) (x : Opcode) → IsLong w → opcode_of o ≡ Some x → inst_at (size w ++ o ∷ t) ≡ opcode_at (class w) x t
long_again B8 o t x h e = absurd h
long_again B16 o t x h e = size_again o t x e
long_again B32 o t x h e = bare_again o t x e

pub two_again : (n : ℕ) (rest : List ℕ) → n < 2 ^ 16 → two_at (two n ++ rest) ≡ Some (n, rest)
unfolding two_at
two_again n rest lt = ap (λ (k : ℕ). some (k, rest)) (from_le_bytes-to_le_bytes_2 n lt)

pub imm_again : (w : Width) (n : ℕ) (rest : List ℕ) → n < limit w → imm_at w (imm w n ++ rest) ≡ Some (n, rest)
unfolding imm_at byte_at
imm_again B8 n rest lt = refl
imm_again B16 n rest lt = two_again n rest lt
imm_again B32 n rest lt = four_again n rest lt

-- ---- padding

or_false : (b : Bool) → (b || false) ≡ b
or_false true = refl
or_false false = refl

or_true : (b : Bool) → (b || true) ≡ true
or_true true = refl
or_true false = refl

with_size : (c : Prefixes) (w : Bool) → padding_of c ≡ Some w → padding_of (with c one.Size) ≡ Some true
with_size Bare w e = refl
with_size Size w e = refl
with_size Repeat w e = absurd cc
with_size SizeRepeat w e = absurd cc
with_size Branch w e = absurd cc
with_size (Padding v) w e = refl
with_size Other w e = absurd cc

with_code : (c : Prefixes) (w : Bool) → padding_of c ≡ Some w → padding_of (with c one.Code) ≡ Some w
with_code Bare w e = e
with_code Size w e = e
with_code Repeat w e = absurd cc
with_code SizeRepeat w e = absurd cc
with_code Branch w e = absurd cc
with_code (Padding v) w e = e
with_code Other w e = absurd cc

pub padding_again : {p : List ℕ} {wide : Bool} → spells.Padding p wide → (c : Prefixes) (w : Bool) → padding_of c ≡ Some w → (b : ℕ) (t : List ℕ) (x : Opcode) → opcode_of b ≡ Some x → (d : Prefixes) × (behind_at (prefixes_at c (p ++ b ∷ t)) ≡ opcode_at d x t) × (padding_of d ≡ Some (w || wide))
unfolding prefixes_at
padding_again spells.end c w h b t x e = (c, behind_again c b t x e, rw (or_false w) h)
padding_again (spells.with_66 p wide more) c w h b t x e =
    let r = padding_again more (with c one.Size) true (with_size c w h) b t x e in
    (r.0, r.1, rw (or_true w) r.2)
padding_again (spells.with_2E p wide more) c w h b t x e = padding_again more (with c one.Code) w (with_code c w h) b t x e

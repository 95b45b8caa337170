-- What is known of an instruction that is read, for the crates above.
use Rattle.std.proofs.Common.{◌≡◌, ℕ, zero, suc, ◌+◌, ◌-◌, ◌<◌, ◌≤◌, List, [], ◌∷◌, ◌++◌, length, take, drop, Option, Some, None, refl, sym, ap, ◌∙◌, append_assoc, arith, lit<}
use Rattle.std.specs.Prelude.{IsTrue, IfSome, All}
use Rattle.std.proofs.Math.Seq.{take-append-add}
use Rattle.std.proofs.lemmas.List.{take-append-drop, take_at, length-append}
use Rattle.ia_inst.specs.declared.inst.Inst.{Inst}
use Rattle.ia_inst.specs.Canonical.{valid_of}
use Rattle.ia_inst.specs.Reading.{Gives, byte_at}
use Rattle.ia_inst.specs.Prefixes.{prefixes_at}
use Rattle.ia_inst.specs.Instructions.{behind_at, inst_at, decode_of}
use Rattle.ia_inst.proofs.Spelled.{row_valid}
use Rattle.ia_decode.proofs.Readers.{IsBytes, none_is}
use Rattle.ia_decode.proofs.PrefixFree.{decode_found}
use Rattle.ia_decode.proofs.EncodingDecides.{decode_alone}

-- its bytes are read again, whatever follows
pub decode_front : (bytes : List ℕ) (x : Inst × ℕ) → decode_of bytes ≡ Some x → (rest : List ℕ) → decode_of (take x.1 bytes ++ rest) ≡ Some x
decode_front bytes x e rest =
    let a = decode_alone bytes x e in
    let front : take x.1 bytes ≡ a.front = ap (λ (w : List ℕ). take x.1 w) a.parts ∙ take_at a.front a.rest x.1 a.long in
    ap (λ (w : List ℕ). decode_of (w ++ rest)) front ∙ a.again rest

nothing_empty : decode_of [] ≡ None
unfolding decode_of inst_at prefixes_at behind_at byte_at
nothing_empty = refl

-- it takes 1 to 15 bytes
pub decode_length : (bytes : List ℕ) (x : Inst × ℕ) → decode_of bytes ≡ Some x → (1 ≤ x.1) × (x.1 ≤ 15) × (x.1 ≤ length bytes)
decode_length bytes x e =
    let a = decode_alone bytes x e in
    let low : 1 ≤ length a.front = not_empty a.front (a.again []) in
    (omega arith, a.short, omega (arith, a.long, ap (λ (w : List ℕ). length w) a.parts, length-append a.front a.rest))
  where
    not_empty : (front : List ℕ) → decode_of (front ++ []) ≡ Some x → 1 ≤ length front
    not_empty [] e = absurd (none_is x (sym nothing_empty ∙ e))
    not_empty (b ∷ bs) e = omega arith

-- it is valid, where it is read from bytes
pub decode_valid : (bytes : List ℕ) (x : Inst × ℕ) → IsBytes bytes → decode_of bytes ≡ Some x → IsTrue (valid_of x.0)
decode_valid bytes x fits e = row_valid (decode_found bytes x fits e).1.row

longer : (bytes : List ℕ) (x : Inst × ℕ) → decode_of (take 15 bytes) ≡ Some x → decode_of bytes ≡ Some x
longer bytes x e =
    let a = decode_alone (take 15 bytes) x e in
    let whole : bytes ≡ a.front ++ (a.rest ++ drop 15 bytes) = sym (take-append-drop 15 bytes) ∙ ap (λ (w : List ℕ). w ++ drop 15 bytes) a.parts ∙ append_assoc a.front a.rest (drop 15 bytes) in
    ap decode_of whole ∙ a.again (a.rest ++ drop 15 bytes)

shorter : (bytes : List ℕ) (x : Inst × ℕ) → decode_of bytes ≡ Some x → decode_of (take 15 bytes) ≡ Some x
shorter bytes x e =
    let a = decode_alone bytes x e in
    let n : 15 ≡ length a.front + (15 - length a.front) = omega (arith, a.long, a.short) in
    let front : take 15 bytes ≡ a.front ++ take (15 - length a.front) a.rest = ap (λ (w : List ℕ). take 15 w) a.parts ∙ ap (λ (k : ℕ). take k (a.front ++ a.rest)) n ∙ take-append-add a.front a.rest (15 - length a.front) in
    ap decode_of front ∙ a.again (take (15 - length a.front) a.rest)

-- a front of 15 bytes is enough
pub decode_take : (bytes : List ℕ) → decode_of (take 15 bytes) ≡ decode_of bytes
decode_take bytes = by_answer (decode_of bytes) refl (decode_of (take 15 bytes)) refl
  where
    by_answer : (x : Option (Inst × ℕ)) → decode_of bytes ≡ x → (y : Option (Inst × ℕ)) → decode_of (take 15 bytes) ≡ y → y ≡ x
    by_answer None e None f = refl
    by_answer None e (Some y) f = sym (longer bytes y f) ∙ e
    by_answer (Some x) e y f = sym f ∙ shorter bytes x e

-- ---- what is answered

pub bytes_each : (bytes : List ℕ) → All (λ b. b < 256) bytes → IsBytes bytes
bytes_each [] h i = lit< tt
bytes_each (b ∷ bs) h zero = h 0 0 (omega arith)
bytes_each (b ∷ bs) h (suc i) = bytes_each bs (λ k d l. h (suc k) d (omega (arith, l))) i

pub is_valid : (bytes : List ℕ) (r : Option (Inst × ℕ)) → IsBytes bytes → Gives (λ x. (x.0, x.1)) r (decode_of bytes) → IfSome r (λ x. IsTrue (valid_of x.0))
is_valid bytes None fits h = tt
is_valid bytes (Some x) fits h = decode_valid bytes x fits h

pub is_short : (bytes : List ℕ) (r : Option (Inst × ℕ)) → Gives (λ x. (x.0, x.1)) r (decode_of bytes) → IfSome r (λ x. (1 ≤ x.1) × (x.1 ≤ 15))
is_short bytes None h = tt
is_short bytes (Some x) h = let l = decode_length bytes x h in (l.0, l.1)

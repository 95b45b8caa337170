-- The laws of the whole decoder.
use Rattle.std.proofs.Common.{◌≡◌, ℕ, ◌-◌, ◌≤◌, Bool, true, false, cond, List, [], ◌∷◌, ◌++◌, length, take, Option, Some, None, refl, sym, ap, subst, ◌∙◌, arith}
use Rattle.std.specs.Prelude.{nat_lt, IfSome}
use Rattle.std.proofs.lemmas.Bool.Decides.{nat_tests}
use Rattle.std.proofs.lemmas.List.{length-append, take_at, append-nil}
use Rattle.ia_inst.specs.declared.inst.Inst.{Inst}
use Rattle.ia_inst.specs.Spells.{Row, Spells}
use Rattle.ia_inst.specs.Reading.{Gives}
use Rattle.ia_inst.specs.Instructions.{Done, inst_at, decode_of}
use Rattle.ia_decode.proofs.Readers.{IsBytes, bind_some, some, some_is, none_is}
use Rattle.ia_decode.proofs.RowsReadAgain.{row_again}
use Rattle.ia_decode.proofs.RowsFound.{inst_found}

pub taken : (m rest : List ℕ) → length (m ++ rest) - length rest ≡ length m
taken m rest = omega (arith, length-append m rest)

pub not_long : (n : ℕ) → n ≤ 15 → nat_lt 15 n ≡ false
not_long n h = grind (arith, nat_tests)

pub long_not : (n : ℕ) → nat_lt 15 n ≡ false → n ≤ 15
long_not n h = grind (arith, nat_tests)

pub decode_again : (bytes rest : List ℕ) (i : Inst) → Spells bytes i → decode_of (bytes ++ rest) ≡ Some (i, length bytes)
unfolding decode_of
decode_again bytes rest i h = rw (row_again h.row rest, taken bytes rest, not_long (length bytes) h.short) refl

pub decode_found : (bytes : List ℕ) (x : Inst × ℕ) → IsBytes bytes → decode_of bytes ≡ Some x → (x.1 ≤ length bytes) × Spells (take x.1 bytes) x.0
unfolding decode_of
decode_found bytes x fits e =
    let s = bind_some (inst_at bytes) _ x e in
    let f = inst_found bytes s.0 fits s.1 in
    let n : length bytes - length s.0.1 ≡ length f.front = ap (λ (w : List ℕ). length w - length s.0.1) f.parts ∙ taken f.front s.0.1 in
    let t = after (nat_lt 15 (length bytes - length s.0.1)) s.0.0 (length bytes - length s.0.1) x s.2 in
    let front : take (length bytes - length s.0.1) bytes ≡ f.front = rw n (ap (λ (w : List ℕ). take (length f.front) w) f.parts ∙ take_at f.front s.0.1 (length f.front) refl) in
    let made : Spells (take (length bytes - length s.0.1) bytes) s.0.0 = record { row = subst (λ (w : List ℕ). Row w s.0.0) (sym front) f.spelled; short = rw (front, ← n) (long_not _ t.0) } in
    subst (λ (y : Inst × ℕ). (y.1 ≤ length bytes) × Spells (take y.1 bytes) y.0) t.1 (omega arith, made)
  where
    after : (b : Bool) (i : Inst) (n : ℕ) (x : Inst × ℕ) → cond b None (some (i, n)) ≡ Some x → (b ≡ false) × ((i, n) ≡ x)
    after true i n x e = absurd (none_is x e)
    after false i n x e = (refl, some_is (i, n) x e)

-- the rest is no longer than the whole
pub rest_within : (bytes : List ℕ) (x : Done) → IsBytes bytes → inst_at bytes ≡ Some x → length x.1 ≤ length bytes
rest_within bytes x fits e =
    let f = inst_found bytes x fits e in
    omega (arith, ap (λ (w : List ℕ). length w) f.parts, length-append f.front x.1)

pub no_other : (a b x y : List ℕ) (i j : Inst) → Spells a i → Spells b j → a ++ x ≡ b ++ y → (a ≡ b) × (i ≡ j)
no_other a b x y i j p q e =
    let same : some (i, length a) ≡ some (j, length b) = sym (decode_again a x i p) ∙ ap decode_of e ∙ decode_again b y j q in
    let pair : (i, length a) ≡ (j, length b) = some_is _ _ same in
    let len : length a ≡ length b = ap (λ (z : Inst × ℕ). z.1) pair in
    (sym (take_at a x (length a) refl) ∙ ap (λ (w : List ℕ). take (length a) w) e ∙ take_at b y (length a) (sym len), ap (λ (z : Inst × ℕ). z.0) pair)

pub is_found : (bytes : List ℕ) (r : Option (Inst × ℕ)) → IsBytes bytes → Gives (λ x. (x.0, x.1)) r (decode_of bytes) → IfSome r (λ x. (x.1 ≤ length bytes) × Spells (take x.1 bytes) x.0)
is_found bytes None fits h = tt
is_found bytes (Some x) fits h = decode_found bytes x fits h

pub is_only : (bytes : List ℕ) (r : Option (Inst × ℕ)) → Gives (λ x. (x.0, x.1)) r (decode_of bytes) → (front rest : List ℕ) (i : Inst) → Spells front i → bytes ≡ front ++ rest → r ≡ Some (i, length front)
is_only bytes None h front rest i s e = sym h ∙ ap decode_of e ∙ decode_again front rest i s
is_only bytes (Some x) h front rest i s e = sym h ∙ ap decode_of e ∙ decode_again front rest i s

pub is_listed : (bytes : List ℕ) (r : Option (Inst × ℕ)) → Gives (λ x. (x.0, x.1)) r (decode_of bytes) → r ≡ decode_of bytes
is_listed bytes None h = sym h
is_listed bytes (Some x) h = sym h

empty : (xs : List ℕ) → length xs ≡ 0 → xs ≡ []
empty [] h = refl
empty (x ∷ xs) h = absurd (omega arith)

pub same_instruction : (bytes : List ℕ) (i j : Inst) → Spells bytes i → Spells bytes j → i ≡ j
same_instruction bytes i j p q = (no_other bytes bytes [] [] i j p q refl).1

pub nothing_more : (front rest : List ℕ) (i j : Inst) → Spells front i → Spells (front ++ rest) j → rest ≡ []
nothing_more front rest i j p q =
    let e : front ++ rest ≡ (front ++ rest) ++ [] = sym (append-nil (front ++ rest)) in
    let f : front ≡ front ++ rest = (no_other front (front ++ rest) rest [] i j p q e).0 in
    empty rest (omega (arith, ap (λ (w : List ℕ). length w) f, length-append front rest))

-- What is read is spelled so: the prefixes.
use Rattle.std.proofs.Common.{◌≡◌, ℕ, zero, suc, ◌^◌, ◌<◌, ◌≤◌, Bool, true, false, cond, not, ◌==◌, ◌&&◌, List, [], ◌∷◌, ◌++◌, Option, Some, None, refl, sym, ap, subst, ◌∙◌, append_assoc, arith, lit<}
use Rattle.std.specs.Prelude.{nat_lt}
use Rattle.std.specs.Int.{w16, from_le_bytes}
use Rattle.std.proofs.lemmas.Bool.Decides.{nat_tests}
use Rattle.std.proofs.lemmas.Nat.{le_bytes_2}
use Rattle.std.proofs.lemmas.List.{append-nil}
use Rattle.br_word.specs.declared.types.Width.{Width}
use Rattle.br_word.specs.declared.types.Width.TheVariants.{B8, B16, B32}
use Rattle.ia_inst.specs.Operands.{two}
use Rattle.ia_inst.specs.Spells as spells
use Rattle.ia_inst.specs.Spells.{size, pair, of_width, IsLong, imm, limit, Row, StringPrefix, AtMost}
use Rattle.ia_inst.specs.declared.prefixes.Prefix.{Prefix}
use Rattle.ia_inst.specs.declared.prefixes.Prefix.TheVariants as one
use Rattle.ia_inst.specs.declared.prefixes.Prefixes.{Prefixes}
use Rattle.ia_inst.specs.declared.prefixes.Prefixes.TheVariants.{Bare, Size, Repeat, SizeRepeat, Branch, Padding, Other}
use Rattle.ia_inst.specs.Prefixes.{prefix_of, with, more, is_bare, is_near, is_return, padding_of, width_of, string_of, prefixes_at}
use Rattle.ia_inst.specs.Instructions.{two_at, imm_at}
use Rattle.ia_decode.proofs.Readers.{IsBytes, some, some_is, none_is, byte_found, four_found}
use Rattle.ia_decode.proofs.PrefixesReadAgain.{is}
use Rattle.ia_decode.proofs.OpcodeBytes.{of_byte}

pub both_true : (a b : Bool) → (a && b) ≡ true → (a ≡ true) × (b ≡ true)
both_true true true e = (refl, refl)
both_true true false e = absurd cc
both_true false b e = absurd cc

pub not_true : (b : Bool) → not b ≡ true → b ≡ false
not_true true e = absurd cc
not_true false e = refl

pub less : (a b : ℕ) → nat_lt a b ≡ true → a < b
less a b h = grind (arith, nat_tests)

pub not_less : (a b : ℕ) → nat_lt a b ≡ false → b ≤ a
not_less a b h = grind (arith, nat_tests)

pub guarded : {A : Type 0} (b : Bool) (y : Option A) (z : A) → cond b y None ≡ Some z → (b ≡ true) × (y ≡ Some z)
guarded true y z e = (refl, e)
guarded false y z e = absurd (none_is z e)

-- ---- prefixes

-- which lists have a class
pub data Means : Prefixes → List ℕ → Type 0 where
  bare : Means Bare []
  size_only : Means Size (0x66 ∷ [])
  repeat : Means Repeat (0xF3 ∷ [])
  size_repeat : Means SizeRepeat (0x66 ∷ 0xF3 ∷ [])
  repeat_size : Means SizeRepeat (0xF3 ∷ 0x66 ∷ [])
  branch : Means Branch (0x3E ∷ [])
  padding : (p : List ℕ) (wide : Bool) → spells.Padding p wide → Means (Padding wide) p
  other : (p : List ℕ) → Means Other p

abbrev byte_of : Prefix → ℕ
byte_of one.Size = 0x66
byte_of one.Repeat = 0xF3
byte_of one.Code = 0x2E
byte_of one.Branch = 0x3E

prefix_is : (b : ℕ) (x : Prefix) → prefix_of b ≡ Some x → b ≡ byte_of x
prefix_is b x e = by_test (b == 0x66) refl (b == 0xF3) refl (b == 0x2E) refl (b == 0x3E) refl
  where
    by_test : (p : Bool) → (b == 0x66) ≡ p → (q : Bool) → (b == 0xF3) ≡ q → (r : Bool) → (b == 0x2E) ≡ r → (s : Bool) → (b == 0x3E) ≡ s → b ≡ byte_of x
    by_test true h q i r j s k = is b 0x66 h ∙ ap byte_of (some_is one.Size x (rw h at e))
    by_test false h true i r j s k = is b 0xF3 i ∙ ap byte_of (some_is one.Repeat x (rw (h, i) at e))
    by_test false h false i true j s k = is b 0x2E j ∙ ap byte_of (some_is one.Code x (rw (h, i, j) at e))
    by_test false h false i false j true k = is b 0x3E k ∙ ap byte_of (some_is one.Branch x (rw (h, i, j, k) at e))
    by_test false h false i false j false k = absurd (none_is x (rw (h, i, j, k) at e))

wider : {p : List ℕ} {wide : Bool} → spells.Padding p wide → spells.Padding (p ++ 0x66 ∷ []) true
wider spells.end = spells.with_66 [] false spells.end
wider (spells.with_66 p wide h) = spells.with_66 (p ++ 0x66 ∷ []) true (wider h)
wider (spells.with_2E p wide h) = spells.with_2E (p ++ 0x66 ∷ []) true (wider h)

longer : {p : List ℕ} {wide : Bool} → spells.Padding p wide → spells.Padding (p ++ 0x2E ∷ []) wide
longer spells.end = spells.with_2E [] false spells.end
longer (spells.with_66 p wide h) = spells.with_66 (p ++ 0x2E ∷ []) wide (longer h)
longer (spells.with_2E p wide h) = spells.with_2E (p ++ 0x2E ∷ []) wide (longer h)

one_more : {c : Prefixes} {p : List ℕ} → Means c p → (x : Prefix) → Means (with c x) (p ++ byte_of x ∷ [])
one_more bare one.Size = size_only
one_more bare one.Repeat = repeat
one_more bare one.Code = padding (0x2E ∷ []) false (spells.with_2E [] false spells.end)
one_more bare one.Branch = branch
one_more size_only one.Size = padding (0x66 ∷ 0x66 ∷ []) true (spells.with_66 _ true (spells.with_66 [] false spells.end))
one_more size_only one.Repeat = size_repeat
one_more size_only one.Code = padding (0x66 ∷ 0x2E ∷ []) true (spells.with_66 _ false (spells.with_2E [] false spells.end))
one_more size_only one.Branch = other _
one_more repeat one.Size = repeat_size
one_more repeat one.Repeat = other _
one_more repeat one.Code = other _
one_more repeat one.Branch = other _
one_more (padding p wide h) one.Size = padding (p ++ 0x66 ∷ []) true (wider h)
one_more (padding p wide h) one.Repeat = other _
one_more (padding p wide h) one.Code = padding (p ++ 0x2E ∷ []) wide (longer h)
one_more (padding p wide h) one.Branch = other _
one_more size_repeat x = other _
one_more repeat_size x = other _
one_more branch x = other _
one_more (other p) x = other _

-- what was read of prefixes, and the rest
pub record Front (p bytes : List ℕ) (y : Prefixes × List ℕ) : Type 0 where
  pub front : List ℕ
  pub parts : bytes ≡ front ++ y.1
  pub means : Means y.0 (p ++ front)
  pub fits : IsBytes y.1

joined : (c : Prefixes) (p : List ℕ) (b : ℕ) (rest : List ℕ) → Means c p → IsBytes (b ∷ rest) → ((x : Prefix) → Front (p ++ byte_of x ∷ []) rest (prefixes_at (with c x) rest)) → (x : Option Prefix) → prefix_of b ≡ x → Front p (b ∷ rest) (more c x (λ next. prefixes_at next rest) (c, b ∷ rest))
joined c p b rest h fits go None e = record { front = []; parts = refl; means = subst (λ (q : List ℕ). Means c q) (sym (append-nil p)) h; fits = fits }
joined c p b rest h fits go (Some x) e =
    let f = go x in
    let same : (p ++ byte_of x ∷ []) ++ f.front ≡ p ++ b ∷ f.front = append_assoc p (byte_of x ∷ []) f.front ∙ ap (λ (k : ℕ). p ++ k ∷ f.front) (sym (prefix_is b x e)) in
    record { front = b ∷ f.front; parts = ap (λ (w : List ℕ). b ∷ w) f.parts; means = subst (λ (q : List ℕ). Means (prefixes_at (with c x) rest).0 q) same f.means; fits = f.fits }

pub prefixes_found : (c : Prefixes) (p bytes : List ℕ) → Means c p → IsBytes bytes → Front p bytes (prefixes_at c bytes)
unfolding prefixes_at
prefixes_found c p [] h fits = record { front = []; parts = refl; means = subst (λ (q : List ℕ). Means c q) (sym (append-nil p)) h; fits = fits }
prefixes_found c p (b ∷ rest) h fits = joined c p b rest h fits (λ x. prefixes_found (with c x) (p ++ byte_of x ∷ []) rest (one_more h x) (λ i. fits (suc i))) (prefix_of b) refl

-- ---- what a class says of the list

pub bare_is : {c : Prefixes} {p : List ℕ} → Means c p → is_bare c ≡ true → p ≡ []
bare_is bare e = refl
bare_is size_only e = absurd cc
bare_is repeat e = absurd cc
bare_is size_repeat e = absurd cc
bare_is repeat_size e = absurd cc
bare_is branch e = absurd cc
bare_is (padding p wide h) e = absurd cc
bare_is (other p) e = absurd cc

pub near_is : {c : Prefixes} {p : List ℕ} → Means c p → is_near c ≡ true → AtMost 0x3E p
near_is bare e = spells.absent
near_is size_only e = absurd cc
near_is repeat e = absurd cc
near_is size_repeat e = absurd cc
near_is repeat_size e = absurd cc
near_is branch e = spells.present
near_is (padding p wide h) e = absurd cc
near_is (other p) e = absurd cc

pub return_is : {c : Prefixes} {p : List ℕ} → Means c p → is_return c ≡ true → AtMost 0xF3 p
return_is bare e = spells.absent
return_is size_only e = absurd cc
return_is repeat e = spells.present
return_is size_repeat e = absurd cc
return_is repeat_size e = absurd cc
return_is branch e = absurd cc
return_is (padding p wide h) e = absurd cc
return_is (other p) e = absurd cc

pub padding_is : {c : Prefixes} {p : List ℕ} → Means c p → (wide : Bool) → padding_of c ≡ Some wide → spells.Padding p wide
padding_is bare wide e = subst (λ (w : Bool). spells.Padding [] w) (some_is false wide e) spells.end
padding_is size_only wide e = subst (λ (w : Bool). spells.Padding (0x66 ∷ []) w) (some_is true wide e) (spells.with_66 [] false spells.end)
padding_is repeat wide e = absurd (none_is wide e)
padding_is size_repeat wide e = absurd (none_is wide e)
padding_is repeat_size wide e = absurd (none_is wide e)
padding_is branch wide e = absurd (none_is wide e)
padding_is (padding p v h) wide e = subst (λ (w : Bool). spells.Padding p w) (some_is v wide e) h
padding_is (other p) wide e = absurd (none_is wide e)

-- the prefixes before a byte of a pair
pub data IsWidth : Bool → Width → List ℕ → Type 0 where
  narrow : IsWidth true B8 []
  short : IsWidth false B16 (0x66 ∷ [])
  full : IsWidth false B32 []

pub width_is : {c : Prefixes} {p : List ℕ} → Means c p → (byte : Bool) (w : Width) → width_of c byte ≡ Some w → IsWidth byte w p
width_is bare true w e = subst (λ (v : Width). IsWidth true v []) (some_is B8 w e) narrow
width_is bare false w e = subst (λ (v : Width). IsWidth false v []) (some_is B32 w e) full
width_is size_only true w e = absurd (none_is w e)
width_is size_only false w e = subst (λ (v : Width). IsWidth false v (0x66 ∷ [])) (some_is B16 w e) short
width_is repeat byte w e = absurd (none_is w e)
width_is size_repeat byte w e = absurd (none_is w e)
width_is repeat_size byte w e = absurd (none_is w e)
width_is branch byte w e = absurd (none_is w e)
width_is (padding p v h) byte w e = absurd (none_is w e)
width_is (other p) byte w e = absurd (none_is w e)

pub pair_front : {byte : Bool} {w : Width} {p : List ℕ} → IsWidth byte w p → (o : ℕ) (t : List ℕ) → p ++ of_byte byte o ∷ t ≡ pair w o ++ t
pair_front narrow o t = refl
pair_front short o t = refl
pair_front full o t = refl

pub size_front : {w : Width} {p : List ℕ} → IsWidth false w p → IsLong w × (p ≡ size w)
size_front short = (tt, refl)
size_front full = (tt, refl)

string_with : (x : Width × Bool) (byte : Bool) (p : List ℕ) (y : Width × Bool) → some y ≡ some x → StringPrefix y.0 y.1 p → ((o : ℕ) → of_byte byte o ≡ of_width y.0 o) → StringPrefix x.0 x.1 p × ((o : ℕ) → of_byte byte o ≡ of_width x.0 o)
string_with x byte p y e h same = subst (λ (z : Width × Bool). StringPrefix z.0 z.1 p × ((o : ℕ) → of_byte byte o ≡ of_width z.0 o)) (some_is y x e) (h, same)

pub string_is : {c : Prefixes} {p : List ℕ} → Means c p → (byte : Bool) (x : Width × Bool) → string_of c byte ≡ Some x → StringPrefix x.0 x.1 p × ((o : ℕ) → of_byte byte o ≡ of_width x.0 o)
string_is bare true x e = string_with x true [] (B8, false) e (spells.once B8) (λ o. refl)
string_is bare false x e = string_with x false [] (B32, false) e (spells.once B32) (λ o. refl)
string_is size_only true x e = absurd (none_is x e)
string_is size_only false x e = string_with x false (0x66 ∷ []) (B16, false) e (spells.once B16) (λ o. refl)
string_is repeat true x e = string_with x true (0xF3 ∷ []) (B8, true) e (spells.repeated B8) (λ o. refl)
string_is repeat false x e = string_with x false (0xF3 ∷ []) (B32, true) e (spells.repeated B32) (λ o. refl)
string_is size_repeat true x e = absurd (none_is x e)
string_is size_repeat false x e = string_with x false (0x66 ∷ 0xF3 ∷ []) (B16, true) e spells.turned (λ o. refl)
string_is repeat_size true x e = absurd (none_is x e)
string_is repeat_size false x e = string_with x false (0xF3 ∷ 0x66 ∷ []) (B16, true) e (spells.repeated B16) (λ o. refl)
string_is branch byte x e = absurd (none_is x e)
string_is (padding p v h) byte x e = absurd (none_is x e)
string_is (other p) byte x e = absurd (none_is x e)

-- ---- immediates

pub two_found : (bytes : List ℕ) (x : ℕ × List ℕ) → IsBytes bytes → two_at bytes ≡ Some x → (bytes ≡ two x.0 ++ x.1) × (x.0 < 2 ^ 16) × IsBytes x.1
unfolding two_at
two_found (a ∷ b ∷ rest) x fits e =
    let n = from_le_bytes w16 (a ∷ b ∷ []) in
    let back : two n ≡ a ∷ b ∷ [] = le_bytes_2 (a ∷ b ∷ []) n refl (two_bytes a b (fits 0) (fits 1)) refl in
    subst (λ (y : ℕ × List ℕ). (a ∷ b ∷ rest ≡ two y.0 ++ y.1) × (y.0 < 2 ^ 16) × IsBytes y.1) (some_is (n, rest) x e)
    (sym (ap (λ (w : List ℕ). w ++ rest) back), omega (arith, fits 0, fits 1), λ i. fits (suc (suc i)))
  where
    two_bytes : (a b : ℕ) → a < 256 → b < 256 → IsBytes (a ∷ b ∷ [])
    two_bytes a b p q zero = p
    two_bytes a b p q (suc zero) = q
    two_bytes a b p q (suc (suc i)) = lit< tt
two_found [] x fits e = absurd (none_is x e)
two_found (a ∷ []) x fits e = absurd (none_is x e)

pub imm_found : (w : Width) (bytes : List ℕ) (x : ℕ × List ℕ) → IsBytes bytes → imm_at w bytes ≡ Some x → (bytes ≡ imm w x.0 ++ x.1) × (x.0 < limit w) × IsBytes x.1
unfolding imm_at
imm_found B8 bytes x fits e = byte_found bytes x fits e
imm_found B16 bytes x fits e = two_found bytes x fits e
imm_found B32 bytes x fits e = four_found bytes x fits e

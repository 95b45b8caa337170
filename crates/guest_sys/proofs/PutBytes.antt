-- Bytes put into memory, and read from it.
use Rattle.std.proofs.Common.{◌≡◌, ◌≢◌, ℕ, ◌+◌, ◌<◌, ◌≤◌, true, false, nat_eq, List, length, take, Option, Some, None, option_map, is_some, refl, subst, ◌==◌, arith}
use Rattle.std.proofs.lemmas.Bool.Decides.{nat_tests}
use Rattle.br_word.specs.Memory.{Region, Reads, Writes, bytes_at, written}
use Rattle.ia_inst.specs.System.{buffer, filled}
use Rattle.guest_mem.specs.View.{MemoryView}
use Rattle.guest_sys.specs.Parts.{IsWanted, Puts}
use Rattle.guest_sys.proofs.BufferAccess.{denied_more, written_none}

pub none_is : {A : Type 0} (o : Option A) → is_some o ≡ false → o ≡ None
none_is None h = refl
none_is (Some x) h = absurd (cc)

pub not_zero : (n : ℕ) → 0 < n → nat_eq n 0 ≡ false
not_zero n h = grind (arith, nat_tests)

pub filled_some : (at : ℕ) (bytes : List ℕ) (rs : List Region) → 0 < length bytes → filled at bytes rs ≡ written at bytes rs
filled_some at bytes rs h = rw (not_zero (length bytes) h) refl

pub put_no : (at : ℕ) (bytes : List ℕ) (m : MemoryView) → 0 < length bytes → is_some (bytes_at Writes at (length bytes) m.regions) ≡ false → Puts (filled at bytes m.regions) false m m
put_no at bytes m pos h = rw (filled_some at bytes m.regions pos, written_none at bytes m.regions (none_is _ h)) (refl, refl)

pub put_yes : (at : ℕ) (bytes : List ℕ) (m n : MemoryView) → 0 < length bytes → written at bytes m.regions ≡ Some n.regions → n ≡ record m { regions = n.regions } → Puts (filled at bytes m.regions) true m n
put_yes at bytes m n pos w rest = rw (filled_some at bytes m.regions pos, w) (refl, rest)

none_not : {A : Type 0} (o : Option A) → is_some o ≡ true → o ≡ None → ⊥
none_not None h e = cc
none_not (Some x) h e = cc

-- as many bytes as can be written, and one more where that is not all
pub wanted_all : (at len : ℕ) (rs : List Region) → (0 < len → bytes_at Writes at len rs ≢ None) → IsWanted at len rs len
wanted_all at len rs fits = record {
  within = omega arith;
  fits = λ k lt pos e. fits (omega arith) (denied_more Writes at k len rs (omega arith) e);
  stops = λ lt. absurd (omega arith);
}

pub wanted_more : (at len front : ℕ) (rs : List Region) → front < len → (0 < front → bytes_at Writes at front rs ≢ None) → bytes_at Writes at (front + 1) rs ≡ None → IsWanted at len rs (front + 1)
wanted_more at len front rs lt fits stops = record {
  within = omega arith;
  fits = λ k below pos e. fits (omega arith) (denied_more Writes at k front rs (omega arith) e);
  stops = λ _. (omega arith, stops);
}

pub not_empty : (n : ℕ) → false ≡ (n == 0) → 0 < n
not_empty n h = grind (arith, nat_tests)

pub wanted_whole : (at len front : ℕ) (rs : List Region) → front ≤ len → len ≤ front → (0 < front → bytes_at Writes at front rs ≢ None) → IsWanted at len rs len
wanted_whole at len front rs le ge fits =
    let e : front ≡ len = omega arith in
    let P : ℕ → Type 0 = λ k. 0 < k → bytes_at Writes at k rs ≢ None in
    wanted_all at len rs (subst P e fits)

pub buffer_some : (at len : ℕ) (rs : List Region) (new : List ℕ) → 0 < len → option_map (λ bs. take len bs) (bytes_at Reads at len rs) ≡ Some new → buffer at len rs ≡ Some new
buffer_some at len rs new pos h = rw (not_zero len pos) h

pub buffer_none : (at len : ℕ) (rs : List Region) → 0 < len → is_some (bytes_at Reads at len rs) ≡ false → buffer at len rs ≡ None
buffer_none at len rs pos h = rw (not_zero len pos, none_is (bytes_at Reads at len rs) h) refl

pub put_false : (o : Option (List Region)) (m n : MemoryView) → Puts o false m n → (o ≡ None) × (n ≡ m)
put_false None m n h = (refl, h.1)
put_false (Some rs) m n h = absurd (let e : false ≡ true = h.0 in cc)

pub put_true : (o : Option (List Region)) (m n : MemoryView) → Puts o true m n → (rs : List Region) × (o ≡ Some rs) × (n ≡ record m { regions = rs })
put_true None m n h = absurd (let e : true ≡ false = h.0 in cc)
put_true (Some rs) m n h = (rs, refl, h.1)

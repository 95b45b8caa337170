-- A walk over the program headers of a file.
use Rattle.std.proofs.Common.{◌≡◌, ℕ, suc, ◌+◌, ◌-◌, ◌*◌, ◌<◌, ◌≤◌, Bool, true, false, ◌&&◌, ◌||◌, List, [], ◌∷◌, length, take, drop, Option, Some, ◌⊎◌, inl, inr, refl, sym, ap, ◌∙◌, arith}
use Rattle.std.specs.Prelude.{filter, nat_eq, nat_lt, nat_le, if◌then◌else◌}
use Rattle.std.proofs.lemmas.Bool.{le-ltb, lt-ltb, ne_eqb, eq-eqb}
use Rattle.std.proofs.lemmas.List.{drop-drop}
use Rattle.br_word.specs.Memory.{number_of}
use Rattle.elf_read.specs.declared.header.Header.{Header}
use Rattle.elf_read.specs.declared.header.Table.{Table}
use Rattle.elf_read.specs.declared.check.Check.{Check}
use Rattle.elf_read.specs.declared.check.Check.TheVariants.{OtherKind, WritesCode, IsOutside, HasMoreBytes}
use Rattle.elf_read.specs.Elf.{field, perms_of, header_at, headers, table_of, is_loaded, loaded, first_where, first_below, first_past, holds_entry, writes_code, is_outside}
use Rattle.elf_read.specs.Reads.{IsTable, fails, failed_at}
use Rattle.elf_read.proofs.Refusals.{or_none}

unfoldable pub make : ℕ → ℕ → ℕ → ℕ → ℕ → ℕ → ℕ → Header
make place kind offset vaddr filesz memsz flags = record { place = place; kind = kind; offset = offset; vaddr = vaddr; filesz = filesz; memsz = memsz; flags = flags }

pub same_make : (place k k' o o' v v' f f' m m' g g' : ℕ) → k ≡ k' → o ≡ o' → v ≡ v' → f ≡ f' → m ≡ m' → g ≡ g' → make place k o v f m g ≡ make place k' o' v' f' m' g'
same_make place k k' o o' v v' f f' m m' g g' a b c d e h = cc

pub field-drop : (n k at : ℕ) (bytes : List ℕ) → field n (at + k) bytes ≡ field n k (drop at bytes)
field-drop n k at bytes = ap (λ x. number_of (take n x)) (sym (drop-drop k at bytes))

-- the headers from the one of a number on
abbrev pub left_of : List ℕ → Table → ℕ → List Header
left_of bytes t i = headers (t.count - i) (t.start + 32 * i) (drop (t.start + 32 * i) bytes)

same_headers : (n n' p p' : ℕ) (bytes : List ℕ) → n ≡ n' → p ≡ p' → headers n p (drop p bytes) ≡ headers n' p' (drop p' bytes)
same_headers n n' p p' bytes a b = ap (λ n. headers n p (drop p bytes)) a ∙ ap (λ p. headers n' p (drop p bytes)) b

pub left_first : (bytes : List ℕ) (t : Table) → IsTable bytes t → left_of bytes t 0 ≡ table_of bytes
left_first bytes t h = let a = h.start in let b = h.count in same_headers _ _ _ _ bytes (omega arith) (omega arith)

pub left_next : (bytes : List ℕ) (t : Table) (i : ℕ) (h : Header) → i < t.count → h ≡ header_at (t.start + 32 * i) (drop (t.start + 32 * i) bytes) → left_of bytes t i ≡ h ∷ left_of bytes t (i + 1)
left_next bytes t i h l e =
    let p = t.start + 32 * i in
    let n : t.count - i ≡ suc (t.count - (i + 1)) = omega arith in
    ap (λ n. headers n p (drop p bytes)) n
    ∙ ap (λ x. x ∷ headers (t.count - (i + 1)) (p + 32) (drop 32 (drop p bytes))) (sym e)
    ∙ ap (λ x. h ∷ headers (t.count - (i + 1)) (p + 32) x) (drop-drop 32 p bytes)
    ∙ ap (λ x. h ∷ x) (same_headers _ _ (p + 32) (t.start + 32 * (i + 1)) bytes refl (omega arith))

pub left_last : (bytes : List ℕ) (t : Table) (i : ℕ) → t.count ≤ i → left_of bytes t i ≡ []
left_last bytes t i l = let n : t.count - i ≡ 0 = omega arith in ap (λ n. headers n (t.start + 32 * i) (drop (t.start + 32 * i) bytes)) n

-- the loaded ones among the headers from the one of a number on
abbrev pub loaded_left : List ℕ → Table → ℕ → List Header
loaded_left bytes t i = filter is_loaded (left_of bytes t i)

pub loaded_first : (bytes : List ℕ) (t : Table) → IsTable bytes t → loaded_left bytes t 0 ≡ loaded bytes
loaded_first bytes t h = ap (filter is_loaded) (left_first bytes t h)

pub loaded_next : (bytes : List ℕ) (t : Table) (i : ℕ) (h : Header) → i < t.count → h ≡ header_at (t.start + 32 * i) (drop (t.start + 32 * i) bytes) → is_loaded h ≡ true → loaded_left bytes t i ≡ h ∷ loaded_left bytes t (i + 1)
loaded_next bytes t i h l e y =
    ap (filter is_loaded) (left_next bytes t i h l e)
    ∙ ap (λ b. if b then h ∷ loaded_left bytes t (i + 1) else loaded_left bytes t (i + 1)) y

pub loaded_over : (bytes : List ℕ) (t : Table) (i : ℕ) (h : Header) → i < t.count → h ≡ header_at (t.start + 32 * i) (drop (t.start + 32 * i) bytes) → is_loaded h ≡ false → loaded_left bytes t i ≡ loaded_left bytes t (i + 1)
loaded_over bytes t i h l e y =
    ap (filter is_loaded) (left_next bytes t i h l e)
    ∙ ap (λ b. if b then h ∷ loaded_left bytes t (i + 1) else loaded_left bytes t (i + 1)) y

pub loaded_last : (bytes : List ℕ) (t : Table) (i : ℕ) → t.count ≤ i → loaded_left bytes t i ≡ []
loaded_last bytes t i l = ap (filter is_loaded) (left_last bytes t i l)

-- a test of the loaded headers is one of all headers
where_loaded : (p : Header → Bool) (hs : List Header) → first_where (λ h. is_loaded h && p h) hs ≡ first_where p (filter is_loaded hs)
where_loaded p [] = refl
where_loaded p (h ∷ hs) = go (is_loaded h) (where_loaded p hs)
  where
    go : (b : Bool) → first_where (λ h. is_loaded h && p h) hs ≡ first_where p (filter is_loaded hs) → (if b && p h then Some h.place else first_where (λ h. is_loaded h && p h) hs) ≡ first_where p (if b then h ∷ filter is_loaded hs else filter is_loaded hs)
    go true rest = ap (λ x. if p h then Some h.place else x) rest
    go false rest = rest

pub check_is : (check : Check) (bytes : List ℕ) → first_where (fails check (length bytes)) (table_of bytes) ≡ failed_at check bytes
check_is OtherKind bytes = refl
check_is WritesCode bytes = where_loaded writes_code (table_of bytes)
check_is (IsOutside reach) bytes = where_loaded (is_outside reach (length bytes)) (table_of bytes)
check_is HasMoreBytes bytes = refl

-- ---- steps of the walks, for the header of a number

module _ (bytes : List ℕ) (t : Table) (i : ℕ) (h : Header) (l : i < t.count) (e : h ≡ header_at (t.start + 32 * i) (drop (t.start + 32 * i) bytes)) where
  pub where_here : (p : Header → Bool) (all : Option ℕ) → first_where p (left_of bytes t i) ≡ all → p h ≡ true → Some h.place ≡ all
  where_here p all inv y =
      sym (ap (first_where p) (left_next bytes t i h l e) ∙ ap (λ b. if b then Some h.place else first_where p (left_of bytes t (i + 1))) y) ∙ inv

  pub where_on : (p : Header → Bool) (all : Option ℕ) → first_where p (left_of bytes t i) ≡ all → p h ≡ false → first_where p (left_of bytes t (i + 1)) ≡ all
  where_on p all inv n =
      sym (ap (first_where p) (left_next bytes t i h l e) ∙ ap (λ b. if b then Some h.place else first_where p (left_of bytes t (i + 1))) n) ∙ inv

  pub loaded_on : {Y : Type 0} (f : List Header → Y) (all : Y) → f (loaded_left bytes t i) ≡ all → is_loaded h ≡ true → f (h ∷ loaded_left bytes t (i + 1)) ≡ all
  loaded_on f all inv y = sym (ap f (loaded_next bytes t i h l e y)) ∙ inv

  pub passed_over : {Y : Type 0} (f : List Header → Y) (all : Y) → f (loaded_left bytes t i) ≡ all → is_loaded h ≡ false → f (loaded_left bytes t (i + 1)) ≡ all
  passed_over f all inv n = sym (ap f (loaded_over bytes t i h l e n)) ∙ inv

pub below_here : (end : ℕ) (h : Header) (hs : List Header) → h.vaddr < end → Some h.place ≡ first_below end (h ∷ hs)
below_here end h hs y = sym (ap (λ b. if b then Some h.place else first_below (h.vaddr + h.memsz) hs) (lt-ltb h.vaddr end y))

pub below_on : (end : ℕ) (h : Header) (hs : List Header) → end ≤ h.vaddr → first_below (h.vaddr + h.memsz) hs ≡ first_below end (h ∷ hs)
below_on end h hs n = sym (ap (λ b. if b then Some h.place else first_below (h.vaddr + h.memsz) hs) (le-ltb h.vaddr end n))

pub past_here : (count room : ℕ) (h : Header) (hs : List Header) → (count ≡ 0) ⊎ (room < h.memsz) → Some h.place ≡ first_past count room (h ∷ hs)
past_here count room h hs (inl z) = sym (ap (λ b. if b || nat_lt room h.memsz then Some h.place else first_past (count - 1) (room - h.memsz) hs) (eq-eqb count 0 z))
past_here count room h hs (inr y) = sym (ap (λ b. if nat_eq count 0 || b then Some h.place else first_past (count - 1) (room - h.memsz) hs) (lt-ltb room h.memsz y) ∙ ap (λ b. if b then Some h.place else first_past (count - 1) (room - h.memsz) hs) (or_true (nat_eq count 0)))
  where
    or_true : (b : Bool) → (b || true) ≡ true
    or_true true = refl
    or_true false = refl

pub past_on : (count room : ℕ) (h : Header) (hs : List Header) → (count ≡ 0 → ⊥) → h.memsz ≤ room → first_past (count - 1) (room - h.memsz) hs ≡ first_past count room (h ∷ hs)
past_on count room h hs n y = sym (ap (λ b. if b then Some h.place else first_past (count - 1) (room - h.memsz) hs) (or_none _ _ (ne_eqb count 0 n) (le-ltb room h.memsz y)))

pub held_here : (entry : ℕ) (h : Header) (hs : List Header) → holds_entry entry (h ∷ []) ≡ true → true ≡ holds_entry entry (h ∷ hs)
held_here entry h hs y = go ((perms_of h.flags).exec && (nat_le h.vaddr entry && nat_lt entry (h.vaddr + h.memsz))) y
  where
    go : (b : Bool) → (b || false) ≡ true → true ≡ (b || holds_entry entry hs)
    go true y = refl
    go false y = cc

pub held_on : (entry : ℕ) (h : Header) (hs : List Header) → holds_entry entry (h ∷ []) ≡ false → holds_entry entry hs ≡ holds_entry entry (h ∷ hs)
held_on entry h hs n = go ((perms_of h.flags).exec && (nat_le h.vaddr entry && nat_lt entry (h.vaddr + h.memsz))) n
  where
    go : (b : Bool) → (b || false) ≡ false → holds_entry entry hs ≡ (b || holds_entry entry hs)
    go true n = cc
    go false n = refl

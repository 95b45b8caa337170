-- What a file says that was accepted.
use Rattle.std.proofs.Common.{◌≡◌, ℕ, zero, suc, ◌+◌, ◌-◌, ◌^◌, ◌<◌, ◌≤◌, Bool, true, false, ◌&&◌, ◌||◌, List, [], ◌∷◌, length, take, drop, map, Option, Some, None, ⊎_elim, refl, sym, ap, ◌∙◌, subst, arith, lit≤}
use Rattle.std.specs.Prelude.{Ok, filter, nat_eq, nat_lt, nat_le, if◌then◌else◌}
use Rattle.std.proofs.lemmas.Bool.{le-ltb, ltb-false, ltb-true, ne_eqb}
use Rattle.std.proofs.lemmas.List.{length-map}
use Rattle.elf_read.specs.declared.exe.Segment.{Segment}
use Rattle.elf_read.specs.declared.exe.Exe.{Exe}
use Rattle.elf_read.specs.declared.exe.Reach.{Reach}
use Rattle.elf_read.specs.declared.exe.Reach.TheVariants.{Original, Guest}
use Rattle.elf_read.specs.declared.header.Header.{Header}
use Rattle.elf_read.specs.Elf.{lowest, most_segments, most_memory, AreSegments, Ascend, is_exec, in_segment, sizes, IsExe, IsOriginal, IsGuest, field, table_of, perms_of, is_loaded, loaded, first_where, is_outside, writes_code, first_below, holds_entry, has_more_bytes, first_past, refusals, Refused, first_refused, segment_of, end_of_last, exe_of, unless_refused, elf}
use Rattle.elf_read.proofs.Refusals.{or_none, or_inv, and_inv, not_inv, either, AllNone, none_all, all_none, place_inv, where_inv, where_filter}

abbrev AllLoaded : List Header → Type 0
AllLoaded [] = Unit {0}
AllLoaded (h ∷ hs) = (is_loaded h ≡ true) × AllLoaded hs

loaded_all : (hs : List Header) → AllLoaded (filter is_loaded hs)
loaded_all [] = tt
loaded_all (h ∷ hs) = go (is_loaded h) refl (loaded_all hs)
  where
    go : (b : Bool) → is_loaded h ≡ b → AllLoaded (filter is_loaded hs) → AllLoaded (if b then h ∷ filter is_loaded hs else filter is_loaded hs)
    go true e r = (e, r)
    go false e r = r

abbrev memory_of : List Header → ℕ
memory_of [] = 0
memory_of (h ∷ hs) = h.memsz + memory_of hs

past_inv : (count room : ℕ) (hs : List Header) → first_past count room hs ≡ None → (length hs ≤ count) × (memory_of hs ≤ room)
past_inv count room [] e = (omega arith, omega arith)
past_inv count room (h ∷ hs) e =
    let i = place_inv (nat_eq count 0 || nat_lt room h.memsz) h.place (first_past (count - 1) (room - h.memsz) hs) e in
    let o = or_inv (nat_eq count 0) (nat_lt room h.memsz) i.0 in
    let r = past_inv (count - 1) (room - h.memsz) hs i.1 in
    let l = ltb-false room h.memsz o.1 in
    let z = not_zero count o.0 in
    (omega (arith, r.0), omega (arith, r.1))
  where
    not_zero : (n : ℕ) → nat_eq n 0 ≡ false → 0 < n
    not_zero zero e = cc
    not_zero (suc n) e = omega arith

past_none : (count room : ℕ) (hs : List Header) → length hs ≤ count → memory_of hs ≤ room → first_past count room hs ≡ None
past_none count room [] h k = refl
past_none count room (x ∷ hs) h k =
    ap (λ b. if b then Some x.place else first_past (count - 1) (room - x.memsz) hs)
    (or_none _ _ (ne_eqb count 0 (omega arith)) (le-ltb room x.memsz (omega arith)))
    ∙ past_none (count - 1) (room - x.memsz) hs (omega arith) (omega arith)

guest_inside : (total : ℕ) (hs : List Header) → first_where (is_outside Original total) hs ≡ None → first_where (is_outside Guest total) hs ≡ None
guest_inside total [] e = refl
guest_inside total (h ∷ hs) e =
    let i = where_inv (is_outside Original total) h hs e in
    let o = or_inv (nat_lt h.vaddr 0x08000000) _ i.0 in
    let l = ltb-false h.vaddr 0x08000000 o.0 in
    ap (λ b. if b then Some h.place else first_where (is_outside Guest total) hs) (or_none (nat_lt h.vaddr 0x01000000) _ (le-ltb h.vaddr 0x01000000 (omega arith)) o.1)
    ∙ guest_inside total hs i.1

taken_length : (n : ℕ) (xs : List ℕ) → length (take n xs) ≤ n
taken_length zero xs = omega arith
taken_length (suc n) [] = omega arith
taken_length (suc n) (x ∷ xs) = let r = taken_length n xs in omega arith

segments_fit : (reach : Reach) (bytes : List ℕ) (total : ℕ) (hs : List Header) → AllLoaded hs → first_where writes_code hs ≡ None → first_where (is_outside reach total) hs ≡ None → first_where has_more_bytes hs ≡ None → AreSegments (lowest reach) (map (segment_of bytes) hs)
segments_fit reach bytes total [] l a b c = tt
segments_fit reach bytes total (h ∷ hs) l a b c =
    let i = where_inv writes_code h hs a in
    let j = where_inv (is_outside reach total) h hs b in
    let k = where_inv has_more_bytes h hs c in
    let o = or_inv (nat_lt h.vaddr (lowest reach)) _ j.0 in
    let p = or_inv (nat_lt 0xA0000000 (h.vaddr + h.memsz)) _ o.1 in
    let q = and_inv (nat_eq h.kind 1) (nat_lt 0 h.memsz) l.0 in
    let m : nat_lt h.memsz h.filesz ≡ false = sym (ap (λ b. b && nat_lt h.memsz h.filesz) q.0) ∙ k.0 in
    let n = ltb-false h.memsz h.filesz m in
    let t = taken_length h.filesz (drop h.offset bytes) in (
      record {
        low = ltb-false h.vaddr (lowest reach) o.0;
        high = ltb-false 0xA0000000 (h.vaddr + h.memsz) p.0;
        some = ltb-true 0 h.memsz q.1;
        bytes = omega arith;
        perms = i.0;
      },
      segments_fit reach bytes total hs l.1 i.1 j.1 k.1,
    )

ascend_fit : (bytes : List ℕ) (end : ℕ) (hs : List Header) → first_below end hs ≡ None → Ascend end (map (segment_of bytes) hs)
ascend_fit bytes end [] e = tt
ascend_fit bytes end (h ∷ hs) e =
    let i = place_inv (nat_lt h.vaddr end) h.place (first_below (h.vaddr + h.memsz) hs) e in
    (ltb-false h.vaddr end i.0, ascend_fit bytes (h.vaddr + h.memsz) hs i.1)

entry_fit : (bytes : List ℕ) (entry : ℕ) (hs : List Header) → holds_entry entry hs ≡ is_exec entry (map (segment_of bytes) hs)
entry_fit bytes entry [] = refl
entry_fit bytes entry (h ∷ hs) = ap (λ b. ((perms_of h.flags).exec && (nat_le h.vaddr entry && nat_lt entry (h.vaddr + h.memsz))) || b) (entry_fit bytes entry hs)

sizes_fit : (bytes : List ℕ) (hs : List Header) → sizes (map (segment_of bytes) hs) ≡ memory_of hs
sizes_fit bytes [] = refl
sizes_fit bytes (h ∷ hs) = ap (λ n. h.memsz + n) (sizes_fit bytes hs)

result_inv : (r : Option Refused) (exe got : Exe) → unless_refused r exe ≡ Ok got → (r ≡ None) × (exe ≡ got)
result_inv None exe got e = (refl, cc)
result_inv (Some r) exe got e = cc

pub last_high : (low end : ℕ) (s : Segment) (ss : List Segment) → AreSegments low (s ∷ ss) → low ≤ end_of_last (s ∷ ss)
last_high low end s [] h = let l = h.0.low in omega arith
last_high low end s (t ∷ ss) h = last_high low end t ss h.1

pub lower : (low high : ℕ) (ss : List Segment) → low ≤ high → AreSegments high ss → AreSegments low ss
lower low high [] le h = tt
lower low high (s ∷ ss) le h =
    let l = h.0.low in
    (record { low = omega arith; high = h.0.high; some = h.0.some; bytes = h.0.bytes; perms = h.0.perms }, lower low high ss le h.1)

pub ascend_from : (end low : ℕ) (ss : List Segment) → end ≤ low → AreSegments low ss → Ascend 0 ss → Ascend end ss
ascend_from end low [] l h a = tt
ascend_from end low (s ∷ ss) l h a = let k = h.0.low in (omega arith, a.1)

pub entry_bound : (low entry : ℕ) (ss : List Segment) → AreSegments low ss → is_exec entry ss ≡ true → entry < 2 ^ 32
entry_bound low entry [] h e = cc
entry_bound low entry (s ∷ ss) h e =
    ⊎_elim (λ t.
    let m = and_inv s.perms.exec (in_segment entry s) t in
    let n = and_inv (nat_le s.start entry) (nat_lt entry (s.start + s.size)) m.1 in
    let k = ltb-true entry (s.start + s.size) n.1 in
    let l = h.0.high in
    omega arith)
    (entry_bound low entry ss h.1)
    (either (s.perms.exec && in_segment entry s) (is_exec entry ss) e)

le_more : (a b c : ℕ) → a ≤ b → b ≤ c → a ≤ c
le_more a b c h k = omega arith

-- the fields of a file that is accepted
pub accepted_exe : (reach : Reach) (bytes : List ℕ) (exe : Exe) → elf reach bytes ≡ Ok exe → IsExe reach exe
unfolding elf
accepted_exe reach bytes exe e =
    let r = result_inv (first_refused 1 (refusals reach bytes)) (exe_of (field 4 24 bytes) (map (segment_of bytes) (loaded bytes))) exe e in
    let h = none_all 1 (refusals reach bytes) r.0 in
    let from_7 = h.1.1.1.1.1.1 in
    let past = past_inv (most_segments reach) (most_memory reach) (loaded bytes) from_7.1.1.1.1.1.1.0 in
    let made : IsExe reach (exe_of (field 4 24 bytes) (map (segment_of bytes) (loaded bytes))) = record {
      segments = segments_fit reach bytes (length bytes) (loaded bytes) (loaded_all (table_of bytes)) from_7.1.0 from_7.1.1.0 (where_filter has_more_bytes is_loaded (table_of bytes) from_7.1.1.1.1.1.0);
      order = ascend_fit bytes 0 (loaded bytes) from_7.1.1.1.0;
      entry = sym (entry_fit bytes (field 4 24 bytes) (loaded bytes)) ∙ not_inv _ (place_inv _ 24 None from_7.1.1.1.1.0).0;
      count = rw (length-map (loaded bytes) (segment_of bytes)) past.0;
      memory = rw (sizes_fit bytes (loaded bytes)) past.1;
      brk = refl;
    } in
    subst (IsExe reach) r.1 made

-- a file that is accepted as an original is the same file as a guest
pub original_as_guest : (bytes : List ℕ) (exe : Exe) → elf Original bytes ≡ Ok exe → elf Guest bytes ≡ Ok exe
unfolding elf
original_as_guest bytes exe e =
    let r = result_inv (first_refused 1 (refusals Original bytes)) (exe_of (field 4 24 bytes) (map (segment_of bytes) (loaded bytes))) exe e in
    let h = none_all 1 (refusals Original bytes) r.0 in
    let from_7 = h.1.1.1.1.1.1 in
    let from_10 = from_7.1.1.1 in
    let past = past_inv 64 67108864 (loaded bytes) from_10.1.1.1.0 in
    let guest_past = past_none 66 268435456 (loaded bytes) (le_more (length (loaded bytes)) 64 66 past.0 (lit≤ tt)) (le_more (memory_of (loaded bytes)) 67108864 268435456 past.1 (lit≤ tt)) in
    let guest_7 : AllNone (drop 6 (refusals Guest bytes)) = (from_7.0, (from_7.1.0, (guest_inside (length bytes) (loaded bytes) from_7.1.1.0, (from_10.0, (from_10.1.0, (from_10.1.1.0, (guest_past, tt))))))) in
    let guest = all_none 1 (refusals Guest bytes) (h.0, (h.1.0, (h.1.1.0, (h.1.1.1.0, (h.1.1.1.1.0, (h.1.1.1.1.1.0, guest_7)))))) in
    ap (λ r. unless_refused r (exe_of (field 4 24 bytes) (map (segment_of bytes) (loaded bytes)))) guest ∙ ap Ok r.1

-- each executable of an original is one of a guest
pub original_is_guest : (exe : Exe) → IsOriginal exe → IsGuest exe
original_is_guest exe h = record {
  segments = lower 0x01000000 0x08000000 exe.segments (lit≤ tt) h.segments;
  order = h.order;
  entry = h.entry;
  count = le_more (length exe.segments) 64 66 h.count (lit≤ tt);
  memory = le_more (sizes exe.segments) 67108864 268435456 h.memory (lit≤ tt);
  brk = h.brk;
}

-- what is known of an original that was accepted
pub record IsAccepted (bytes : List ℕ) (exe : Exe) : Type 0 where
  pub fields : IsOriginal exe
  pub as_guest : elf Guest bytes ≡ Ok exe

pub accepted : (bytes : List ℕ) (exe : Exe) → elf Original bytes ≡ Ok exe → IsAccepted bytes exe
accepted bytes exe e = record { fields = accepted_exe Original bytes exe e; as_guest = original_as_guest bytes exe e }

-- Pieces of memory that are filled from a source.
use Rattle.std.proofs.Common.{◌≡◌, ℕ, ◌+◌, ◌<◌, ◌≤◌, true, nat_lt, List, [], ◌∷◌, ◌++◌, length, take, drop, map, Option, Some, None, option_map, is_some, IfSome, Ok, Err, refl, sym, ◌∙◌, ap, subst, arith, inl, append-nil, length-append, length-take}
use Rattle.std.proofs.lemmas.List.{take_all, take_at}
use Rattle.br_word.specs.Memory.{Region, Writes, bytes_at}
use Rattle.br_outside.specs.Outside.{StreamView, Took}
use Rattle.br_outside.specs.declared.errors.Failed.{Failed}
use Rattle.guest_mem.specs.View.{MemoryView}
use Rattle.guest_mem.specs.Layout.{LieApart, range}
use Rattle.guest_mem.specs.Pieces.{piece_size, with_piece}
use Rattle.guest_sys.specs.declared.answers.SysError.{SysError}
use Rattle.guest_sys.specs.declared.answers.SysError.TheVariants.{Input, Out, Report, Memory}
use Rattle.guest_sys.specs.Parts.{TakesPiece, AddsPiece, HasFilled, FillsPiece, Fills}
use Rattle.guest_sys.proofs.TakenBytes.{HasTaken, fails_then, told_or, tells_or, same_left, piece_added, takes_end, takes_all}
use Rattle.guest_sys.proofs.Pieces.{some-of, rest-of, piece-written, filled-more}

none-not-some : (o : Option (List ℕ)) (size : ℕ) (x : List ℕ) → option_map (take size) o ≡ Some x → is_some o ≡ true
none-not-some None size x e = cc
none-not-some (Some y) size x e = refl

some-same : (x y : List ℕ) → Some x ≡ Some y → x ≡ y
some-same x y e = cc

-- what was lent, as its bytes and their number
record WasLent (at len : ℕ) (m : MemoryView) (before : List ℕ) : Type 0 where
  bytes : List ℕ
  held : bytes_at Writes at len m.regions ≡ Some bytes
  is : before ≡ take (length before) bytes
  size : length before ≡ piece_size at len
  some : 0 < length before
  few : length before ≤ len

lent : (at len : ℕ) (m : MemoryView) (before : List ℕ) → LieApart (map range m.regions) → 0 < len → option_map (take (piece_size at len)) (bytes_at Writes at len m.regions) ≡ Some before → WasLent at len m before
lent at len m before a pos e =
    let s = some-of (bytes_at Writes at len m.regions) (none-not-some _ _ before e) in
    let same : before ≡ take (piece_size at len) s.0 = some-same _ _ (sym e ∙ ap (option_map (take (piece_size at len))) s.1) in
    let long : len ≤ length s.0 = (rest-of Writes at len 0 s.0 m.regions a pos s.1).long in
    let size : length before ≡ piece_size at len = omega (arith, ap (λ x. length x) same, length-take (piece_size at len) s.0, long) in
    record {
      bytes = s.0;
      held = s.1;
      is = same ∙ ap (λ j. take j s.0) (sym size);
      size = size;
      some = omega (arith, size, pos);
      few = omega (arith, size);
    }

-- memory after a piece was given back whose first n bytes are new
given-back : (at len n : ℕ) (m k : MemoryView) (before after : List ℕ) → LieApart (map range m.regions) → 0 < len → WasLent at len m before → length after ≡ length before → n ≤ length before → drop n after ≡ drop n before
    → k ≡ with_piece at len m after → HasFilled at (take n after) m k
given-back at len n m k before after a pos w same few rest is =
    let size : length after ≡ piece_size at len = omega (arith, same, w.size) in
    let old : drop n after ≡ drop n (take (length after) w.bytes) = rest ∙ ap (drop n) (w.is ∙ ap (λ j. take j w.bytes) (sym same)) in
    record {
      regions = piece-written at len n after w.bytes m.regions a w.held size (omega (arith, same, few)) old ∙ ap (λ (x : MemoryView). Some x.regions) (sym is);
      rest = is ∙ ap (λ rs. let x : MemoryView = record m { regions = rs } in x) (ap (λ (x : MemoryView). x.regions) (sym is));
    }

pub fill-done : (at len n count : ℕ) (m k : MemoryView) (before after : List ℕ) (x y : StreamView) → LieApart (map range m.regions) → 0 < len
    → option_map (take (piece_size at len)) (bytes_at Writes at len m.regions) ≡ Some before → length after ≡ length before → Took before after (Ok n) x y → k ≡ with_piece at len m after → count ≡ n
    → FillsPiece at len (Ok count) m k x y
fill-done at len n count m k before after x y a pos e same t is c =
    let w = lent at len m before a pos e in
    let few : n ≤ length before = t.gives.0 in
    let piece : AddsPiece (length before) (Ok (nat_lt 0 n)) [] ([] ++ take n (after ++ [])) x y = piece_added [] before after [] _ n (length before) x y refl same w.some t refl in
    let first : take n after ≡ piece.0 = ap (take n) (sym (append-nil after)) ∙ piece.1 in
    let P : List ℕ → Type 0 = λ t. TakesPiece t x y in (
      take n after,
      omega (arith, c, same, few, length-take n after),
      omega (arith, c, few, w.few),
      given-back at len n m k before after a pos w same few t.gives.1 is,
      subst P (sym first) piece.5,
      piece.6,
    )

pub fill-failed : (at len : ℕ) (f : Failed) (m k : MemoryView) (before after : List ℕ) (x y : StreamView) → LieApart (map range m.regions) → 0 < len
    → option_map (take (piece_size at len)) (bytes_at Writes at len m.regions) ≡ Some before → Took before after (Err f) x y → k ≡ with_piece at len m after
    → FillsPiece at len (Err Input) m k x y
fill-failed at len f m k before after x y a pos e t is =
    let w = lent at len m before a pos e in
    let back : HasFilled at [] m k = given-back at len 0 m k before after a pos w (ap (λ b. length b) t.gives.0) (omega arith) t.gives.0 is in
    let none : m.regions ≡ k.regions = same-regions _ _ back.regions in
    (back.rest ∙ ap (λ rs. let j : MemoryView = record m { regions = rs } in j) (sym none), t.gives.1, record { calm = t.calm; later = t.later; rose = t.gives.2; uncalm = t.gives.3 })
  where
    same-regions : (p q : List Region) → Some p ≡ Some q → p ≡ q
    same-regions p q e = cc

-- ---- all pieces

front : (o : Option (List ℕ)) (bytes : List ℕ) (v : StreamView) → IfSome o (λ left. (left ≡ bytes ++ drop (length bytes) left) × (v.bytes ≡ Some (drop (length bytes) left))) → take (length bytes) (told_or o bytes) ≡ bytes
front None bytes v h = take_all (length bytes) bytes (omega arith)
front (Some left) bytes v h = ap (take (length bytes)) h.0 ∙ take_at bytes _ (length bytes) refl

pub fills-failed : (at most room from : ℕ) (e : SysError) (bytes : List ℕ) (m j k : MemoryView) (a b c : StreamView) → length bytes < most → HasFilled at bytes m j → HasTaken bytes a b → FillsPiece from room (Err e) j k b c
    → Fills at most (Err e) m k a c
fills-failed at most room from Input bytes m j k a b c less f h p =
    let P : MemoryView → Type 0 = λ k. HasFilled at bytes m k in
    let Q : List ℕ → Type 0 = λ x. HasFilled at x m k in (
      record {
        left = told_or a.bytes bytes;
        told = tells_or a.bytes bytes;
        gives = (record { taken = length bytes; few = less; rest = same_left a.bytes bytes b c h.told p.1 }, fails_then a b c h.steady p.2);
      },
      subst Q (sym (front a.bytes bytes b h.told)) (subst P (sym p.0) f),
    )
fills-failed at most room from Out bytes m j k a b c less f h p = absurd p
fills-failed at most room from Report bytes m j k a b c less f h p = absurd p
fills-failed at most room from Memory bytes m j k a b c less f h p = absurd p

no-bytes : (x : List ℕ) → length x ≡ 0 → x ≡ []
no-bytes [] h = refl
no-bytes (y ∷ x) h = absurd (omega (arith, h))

-- the source has no more
pub fills-end : (at most room from done count : ℕ) (bytes : List ℕ) (m j k : MemoryView) (a b c : StreamView) → length bytes ≡ done → length bytes < most → LieApart (map range m.regions) → is_some (bytes_at Writes at most m.regions) ≡ true
    → from ≡ at + length bytes → HasFilled at bytes m j → HasTaken bytes a b → FillsPiece from room (Ok count) j k b c → count ≡ 0 → Fills at most (Ok done) m k a c
fills-end at most room from done count bytes m j k a b c is less apart able place f h p zero =
    let none : p.0 ≡ [] = no-bytes p.0 (p.1 ∙ zero) in (
      bytes ++ p.0,
      omega (arith, is, p.1, zero, length-append bytes p.0),
      filled-more at most from bytes p.0 m j k apart able (omega (arith, less, p.1, zero)) place f p.3,
      takes_end most room bytes (bytes ++ p.0) a b c (omega (arith, less)) h (p.0, refl, omega (arith, p.1, zero), λ z. cc, λ z. none, p.4, p.5) (λ z. absurd (omega (arith, less, z))),
    )

-- as many bytes as are wanted
pub fills-all : (at most done : ℕ) (bytes : List ℕ) (m k : MemoryView) (a b : StreamView) → length bytes ≡ done → done ≡ most → HasFilled at bytes m k → HasTaken bytes a b → (most ≡ 0 → b ≡ a) → Fills at most (Ok done) m k a b
fills-all at most done bytes m k a b is all f h idle = (bytes, is, f, takes_all most bytes a b (omega (arith, is, all)) h idle (inl (omega (arith, is, all))))

-- Bytes taken of a source, a piece after another.
use Rattle.std.proofs.Common.{◌≡◌, ℕ, ◌+◌, ◌<◌, ◌≤◌, false, nat_lt, List, [], ◌++◌, length, take, drop, Option, Some, None, IfSome, Ok, Err, refl, sym, ◌∙◌, ap, subst, arith, IsTrue, append_assoc, length-append, ◌⊎◌, inl, inr}
use Rattle.std.proofs.lemmas.List.{drop-drop, take_all, take_at, length-take-le, take-append-le, append-nil}
use Rattle.std.proofs.lemmas.Bool.Decides.{nat_tests}
use Rattle.br_outside.specs.Outside.{StreamView, Took}
use Rattle.guest_sys.specs.declared.answers.SysError.{SysError}
use Rattle.guest_sys.specs.declared.answers.SysError.TheVariants.{Input, Out, Report, Memory}
use Rattle.br_outside.specs.Streams.{Steady, Fails}
use Rattle.guest_sys.specs.Parts.{TakesPiece, HasTakenMore, AddsPiece, Takes}

-- these bytes were taken
pub record HasTaken (bytes : List ℕ) (old new : StreamView) : Type 0 where
  pub told : IfSome old.bytes (λ left. (left ≡ bytes ++ drop (length bytes) left) × (new.bytes ≡ Some (drop (length bytes) left)))
  pub steady : Steady old new

pub steady_same : (v : StreamView) → Steady v v
steady_same v = record { calm = refl; same = refl }

pub steady_then : (a b c : StreamView) → Steady a b → Steady b c → Steady a c
steady_then a b c x y = record {
  calm = y.calm ∙ x.calm;
  same = y.same ∙ x.same;
}

pub fails_then : (a b c : StreamView) → Steady a b → Fails b c → Fails a c
fails_then a b c x y = record {
  calm = y.calm ∙ x.calm;
  later = omega arith;
  rose = omega arith;
  uncalm = λ h. y.uncalm (subst IsTrue (sym x.calm) h);
}

none_taken : (o : Option (List ℕ)) → IfSome o (λ left. (left ≡ [] ++ drop 0 left) × (o ≡ Some (drop 0 left)))
none_taken None = tt
none_taken (Some left) = (refl, refl)

pub taken_none : (v : StreamView) → HasTaken [] v v
taken_none v = record { told = none_taken v.bytes; steady = steady_same v }

both_taken : (left bytes piece : List ℕ) → left ≡ bytes ++ drop (length bytes) left → drop (length bytes) left ≡ piece ++ drop (length piece) (drop (length bytes) left) → (left ≡ (bytes ++ piece) ++ drop (length (bytes ++ piece)) left) × (drop (length (bytes ++ piece)) left ≡ drop (length piece) (drop (length bytes) left))
both_taken left bytes piece a b =
    let d : drop (length (bytes ++ piece)) left ≡ drop (length piece) (drop (length bytes) left) = ap (λ n. drop n left) (length-append bytes piece) ∙ sym (drop-drop (length piece) (length bytes) left) in
    (a ∙ (ap (λ t. bytes ++ t) b ∙ (sym (append_assoc bytes piece _) ∙ ap (λ t. (bytes ++ piece) ++ t) (sym d))), d)

more_taken : (o : Option (List ℕ)) (bytes piece : List ℕ) (b c : StreamView)
    → IfSome o (λ left. (left ≡ bytes ++ drop (length bytes) left) × (b.bytes ≡ Some (drop (length bytes) left)))
    → TakesPiece piece b c
    → IfSome o (λ left. (left ≡ (bytes ++ piece) ++ drop (length (bytes ++ piece)) left) × (c.bytes ≡ Some (drop (length (bytes ++ piece)) left)))
more_taken None bytes piece b c h p = tt
more_taken (Some left) bytes piece b c h p =
    let P : Option (List ℕ) → Type 0 = λ o. IfSome o (λ left. (left ≡ piece ++ drop (length piece) left) × (c.bytes ≡ Some (drop (length piece) left)) × (piece ≡ [] → left ≡ [])) in
    let q = subst P h.1 p in
    let both = both_taken left bytes piece h.0 q.0 in
    (both.0, q.1 ∙ ap Some (sym both.1))

pub taken_more : (bytes piece : List ℕ) (a b c : StreamView) → HasTaken bytes a b → TakesPiece piece b c → Steady b c → HasTaken (bytes ++ piece) a c
taken_more bytes piece a b c h p s = record { told = more_taken a.bytes bytes piece b c h.told p; steady = steady_then a b c h.steady s }

-- ---- a piece

full_piece : (o : Option (List ℕ)) (piece : List ℕ) (room : ℕ) (y : StreamView) → 0 < room
    → IfSome o (λ left. (left ≡ piece ++ drop (length piece) left) × (y.bytes ≡ Some (drop (length piece) left)) × (length piece ≡ 0 → 0 < room → left ≡ []))
    → IfSome o (λ left. (left ≡ piece ++ drop (length piece) left) × (y.bytes ≡ Some (drop (length piece) left)) × (piece ≡ [] → left ≡ []))
full_piece None piece room y pos h = tt
full_piece (Some left) piece room y pos h = (h.0, h.1, λ e. h.2 (ap length e) pos)

empty_take : (after : List ℕ) (n : ℕ) → n ≡ 0 → take n after ≡ []
empty_take after n e = ap (λ k. take k after) e

-- a take whose bytes are put behind those of a list
pub piece_added : (old zs after rest all : List ℕ) (n room : ℕ) (x y : StreamView) → length zs ≡ room → length after ≡ length zs → 0 < room → Took zs after (Ok n) x y → all ≡ old ++ take n (after ++ rest) → AddsPiece room (Ok (nat_lt 0 n)) old all x y
piece_added old zs after rest all n room x y same keeps pos t e =
    let le : n ≤ length zs = t.gives.0 in
    let len : length (take n after) ≡ n = length-take-le n after (omega arith) in
    let P : ℕ → Type 0 = λ k. IfSome x.bytes (λ left. (left ≡ take n after ++ drop k left) × (y.bytes ≡ Some (drop k left)) × (k ≡ 0 → 0 < length zs → left ≡ [])) in (
      take n after,
      e ∙ ap (λ t. old ++ t) (take-append-le n after rest (omega arith)),
      omega arith,
      λ more. rw len (grind (arith, nat_tests)),
      λ more. empty_take after n (grind (arith, nat_tests)),
      full_piece x.bytes (take n after) (length zs) y (omega arith) (subst P (sym len) t.gives.2),
      record { calm = t.calm; same = t.gives.3 },
    )

lost_some : (o : Option (List ℕ)) (after : List ℕ) (n room : ℕ) (y : StreamView)
    → IfSome o (λ left. (left ≡ take n after ++ drop n left) × (y.bytes ≡ Some (drop n left)) × (n ≡ 0 → 0 < room → left ≡ []))
    → IfSome o (λ left. y.bytes ≡ Some (drop n left))
lost_some None after n room y h = tt
lost_some (Some left) after n room y h = h.1

pub piece_lost : (old zs after all : List ℕ) (n room : ℕ) (x y : StreamView) → length zs ≡ room → Took zs after (Ok n) x y → AddsPiece room (Err Memory) old all x y
piece_lost old zs after all n room x y same t =
    let le : n ≤ length zs = t.gives.0 in
    (n, omega arith, lost_some x.bytes after n (length zs) y t.gives.2, record { calm = t.calm; same = t.gives.3 })

-- ---- all that is wanted

-- what the source had, where it tells, and else what was taken
abbrev pub told_or : Option (List ℕ) → List ℕ → List ℕ
told_or None bytes = bytes
told_or (Some left) bytes = left

pub tells_or : (o : Option (List ℕ)) (bytes : List ℕ) → IfSome o (λ told. told ≡ told_or o bytes)
tells_or None bytes = tt
tells_or (Some left) bytes = refl

-- the bytes are the first of what the source had
front_of : (o : Option (List ℕ)) (bytes : List ℕ) (v : StreamView) (most : ℕ) → length bytes ≤ most
    → IfSome o (λ left. (left ≡ bytes ++ drop (length bytes) left) × (v.bytes ≡ Some (drop (length bytes) left)))
    → ((most ≤ length bytes) ⊎ IfSome o (λ left. left ≡ bytes))
    → bytes ≡ take most (told_or o bytes)
front_of None bytes v most le h e = sym (take_all most bytes le)
front_of (Some left) bytes v most le h (inl ge) =
    let same : length bytes ≡ most = omega arith in
    sym (ap (λ t. take most t) h.0 ∙ take_at bytes _ most same)
front_of (Some left) bytes v most le h (inr e) = sym (ap (λ t. take most t) e ∙ take_all most bytes le)

left_of : (o : Option (List ℕ)) (bytes : List ℕ) (v : StreamView)
    → IfSome o (λ left. (left ≡ bytes ++ drop (length bytes) left) × (v.bytes ≡ Some (drop (length bytes) left)))
    → IfSome o (λ left. v.bytes ≡ Some (drop (length bytes) (told_or o bytes)))
left_of None bytes v h = tt
left_of (Some left) bytes v h = h.1

pub takes_all : (most : ℕ) (bytes : List ℕ) (a b : StreamView) → length bytes ≤ most → HasTaken bytes a b → (most ≡ 0 → b ≡ a)
    → ((most ≤ length bytes) ⊎ IfSome a.bytes (λ left. left ≡ bytes)) → Takes most (Ok bytes) a b
takes_all most bytes a b le h idle e = record {
  left = told_or a.bytes bytes;
  told = tells_or a.bytes bytes;
  gives = record {
    first = front_of a.bytes bytes b most le h.told e;
    rest = record { bytes = left_of a.bytes bytes b h.told; steady = h.steady };
    idle = idle;
  };
}

-- nothing more is left
pub none_left : (o : Option (List ℕ)) (bytes piece : List ℕ) (b c : StreamView)
    → IfSome o (λ left. (left ≡ bytes ++ drop (length bytes) left) × (b.bytes ≡ Some (drop (length bytes) left)))
    → TakesPiece piece b c → piece ≡ [] → IfSome o (λ left. left ≡ bytes ++ piece)
none_left None bytes piece b c h p e = tt
none_left (Some left) bytes piece b c h p e =
    let P : Option (List ℕ) → Type 0 = λ o. IfSome o (λ left. (left ≡ piece ++ drop (length piece) left) × (c.bytes ≡ Some (drop (length piece) left)) × (piece ≡ [] → left ≡ [])) in
    let q = subst P h.1 p in
    h.0 ∙ ap (λ t. bytes ++ t) (q.2 e ∙ sym e)

pub same_left : (o : Option (List ℕ)) (bytes : List ℕ) (b c : StreamView)
    → IfSome o (λ left. (left ≡ bytes ++ drop (length bytes) left) × (b.bytes ≡ Some (drop (length bytes) left)))
    → c.bytes ≡ b.bytes
    → IfSome o (λ left. c.bytes ≡ Some (drop (length bytes) (told_or o bytes)))
same_left None bytes b c h e = tt
same_left (Some left) bytes b c h e = e ∙ h.1

pub takes_failed : (most : ℕ) (bytes : List ℕ) (a b c : StreamView) → length bytes < most → HasTaken bytes a b → c.bytes ≡ b.bytes → Fails b c → Takes most (Err Input) a c
takes_failed most bytes a b c lt h same f = record {
  left = told_or a.bytes bytes;
  told = tells_or a.bytes bytes;
  gives = (record { taken = length bytes; few = lt; rest = same_left a.bytes bytes b c h.told same }, fails_then a b c h.steady f);
}

pub lost_left : (o : Option (List ℕ)) (bytes : List ℕ) (n : ℕ) (b c : StreamView)
    → IfSome o (λ left. (left ≡ bytes ++ drop (length bytes) left) × (b.bytes ≡ Some (drop (length bytes) left)))
    → HasTakenMore n b c
    → IfSome o (λ left. c.bytes ≡ Some (drop (length bytes + n) (told_or o bytes)))
lost_left None bytes n b c h p = tt
lost_left (Some left) bytes n b c h p =
    let P : Option (List ℕ) → Type 0 = λ o. IfSome o (λ left. c.bytes ≡ Some (drop n left)) in
    let q = subst P h.1 p in
    q ∙ ap Some (drop-drop n (length bytes) left)

pub takes_no_memory : (most : ℕ) (bytes : List ℕ) (n : ℕ) (a b c : StreamView) → length bytes + n ≤ most → HasTaken bytes a b → HasTakenMore n b c → Steady b c → Takes most (Err Memory) a c
takes_no_memory most bytes n a b c le h p s = record {
  left = told_or a.bytes bytes;
  told = tells_or a.bytes bytes;
  gives = (record { taken = length bytes + n; few = omega arith; rest = lost_left a.bytes bytes n b c h.told p }, steady_then a b c h.steady s);
}

-- what a piece that could not be added means for all
pub takes_err : (most room : ℕ) (e : SysError) (bytes after : List ℕ) (a b c : StreamView) → length bytes + room ≤ most → 0 < room → HasTaken bytes a b → AddsPiece room (Err e) bytes after b c → Takes most (Err e) a c
takes_err most room Input bytes after a b c le pos h p = takes_failed most bytes a b c (omega arith) h p.0 p.1
takes_err most room Out bytes after a b c le pos h p = absurd p
takes_err most room Report bytes after a b c le pos h p = absurd p
takes_err most room Memory bytes after a b c le pos h p = takes_no_memory most bytes p.0 a b c (let k : p.0 ≤ room = p.1 in omega arith) h p.2 p.3

-- the last piece, which is empty
pub takes_end : (most room : ℕ) (bytes after : List ℕ) (a b c : StreamView) → length bytes ≤ most → HasTaken bytes a b → AddsPiece room (Ok false) bytes after b c → (most ≡ 0 → ⊥) → Takes most (Ok after) a c
takes_end most room bytes after a b c le h p some =
    let none : p.0 ≡ [] = p.4 refl in
    let short : length after ≡ length bytes = ap length p.1 ∙ (ap (λ t. length (bytes ++ t)) none ∙ ap length (append-nil bytes)) in
    let P : List ℕ → Type 0 = λ t. HasTaken t a c in
    let Q : List ℕ → Type 0 = λ t. IfSome a.bytes (λ left. left ≡ t) in
    takes_all most after a c (omega arith) (subst P (sym p.1) (taken_more bytes p.0 a b c h p.5 p.6)) (λ e. absurd (some e))
    (inr (subst Q (sym p.1) (none_left a.bytes bytes p.0 b c h.told p.5 none)))

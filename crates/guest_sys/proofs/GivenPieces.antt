-- Pieces of a buffer that are given to a sink.
use Rattle.std.proofs.Common.{◌≡◌, ℕ, ◌+◌, ◌<◌, ◌≤◌, min, List, [], ◌++◌, length, take, drop, Option, Some, None, option_map, Ok, Err, refl, sym, ◌∙◌, ap, subst, arith, append_assoc, length-take, take-add}
use Rattle.std.proofs.lemmas.List.{take_min, take-take}
use Rattle.br_outside.specs.Outside.{StreamView, Gave}
use Rattle.br_outside.specs.Streams.{WasGiven, Gains}
use Rattle.br_outside.specs.declared.errors.SinkError.{SinkError}
use Rattle.br_outside.specs.declared.errors.SinkError.TheVariants as sink_errors
use Rattle.guest_sys.specs.Parts.{GivesBuffer}
use Rattle.guest_sys.proofs.TakenBytes.{steady_then, fails_then}
use Rattle.guest_sys.proofs.Pieces.{IsPiece}

given-twice : (o : Option (List ℕ)) (x y : List ℕ) → option_map (λ w. w ++ y) (option_map (λ w. w ++ x) o) ≡ option_map (λ w. w ++ (x ++ y)) o
given-twice None x y = refl
given-twice (Some w) x y = ap Some (append_assoc w x y)

given-then : (a b c : StreamView) (x y z : List ℕ) → WasGiven x a b → WasGiven y b c → x ++ y ≡ z → WasGiven z a c
given-then a b c x y z p q e =
    let P : List ℕ → Type 0 = λ z. WasGiven z a c in
    subst P e (q ∙ (ap (λ o. option_map (λ w. w ++ y) o) p ∙ given-twice a.bytes x y))

-- the front part of a buffer grows by a front part of a piece
grows : (k n j : ℕ) (bs piece : List ℕ) → IsPiece k n bs piece → take k bs ++ take j piece ≡ take (k + min j (length piece)) bs
grows k n j bs piece p =
    ap (λ x. take k bs ++ x) (sym (take_min j piece) ∙ (ap (take (min j (length piece))) p.is ∙ take-take (min j (length piece)) (length piece) (drop k bs) (omega arith)))
    ∙ sym (take-add k (min j (length piece)) bs)

whole : (k n : ℕ) (bs piece : List ℕ) → IsPiece k n bs piece → take k bs ++ piece ≡ take (k + length piece) bs
whole k n bs piece p = ap (λ x. take k bs ++ x) p.is ∙ sym (take-add k (length piece) bs)

no-piece : (k n : ℕ) (bs piece : List ℕ) → IsPiece k n bs piece → k < n → n ≤ length bs → take (k + length piece) bs ≡ [] → ⊥
no-piece k n bs piece p less long e = omega (arith, p.some, less, long, ap (λ x. length x) e, length-take (k + length piece) bs)

-- a piece more was given
pub gives-more : (u : Unit {0}) (k n : ℕ) (bs piece : List ℕ) (a b c : StreamView) → IsPiece k n bs piece → k < n → n ≤ length bs → Gains (take k bs) a b → Gave piece (Ok u) b c → Gains (take (k + length piece) bs) a c
gives-more u k n bs piece a b c p less long x y = record {
  bytes = given-then a b c (take k bs) piece (take (k + length piece) bs) x.bytes y.gives.0 (whole k n bs piece p);
  steady = steady_then a b c x.steady (record { calm = y.calm; same = y.gives.1 });
  idle = λ e. absurd (no-piece k n bs piece p less long e);
}

-- a piece was not given
pub gives-err : (k n : ℕ) (bs piece : List ℕ) (e : SinkError) (a b c : StreamView) → IsPiece k n bs piece → k < n → n ≤ length bs → Gains (take k bs) a b → Gave piece (Err e) b c → GivesBuffer (Some (take n bs)) (Err e) a c
gives-err k n bs piece sink_errors.Failed a b c p less long x y =
    let j = y.gives.0.0 in
    let i = k + min j (length piece) in
    record {
      written = i;
      given = given-then a b c (take k bs) (take j piece) (take i (take n bs)) x.bytes y.gives.0.1 (grows k n j bs piece p ∙ sym (take-take i n bs (omega (arith, p.few, less))));
      fails = fails_then a b c x.steady (record { calm = y.calm; later = y.later; rose = y.gives.1; uncalm = y.gives.2 });
      some = λ e. omega (arith, less, long, ap (λ x. length x) e, length-take n bs);
    }
gives-err k n bs piece sink_errors.Memory a b c p less long x y = record {
  written = k;
  given = y.gives.0 ∙ (x.bytes ∙ ap (λ z. option_map (λ w. w ++ z) a.bytes) (sym (take-take k n bs (omega (arith, less)))));
  steady = steady_then a b c x.steady (record { calm = y.calm; same = y.gives.1 });
}

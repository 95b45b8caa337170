-- How far a reader has come in a line.
use Rattle.std.proofs.Common.{◌≡◌, ◌<◌, ◌≤◌, ◌+◌, ◌-◌, nat_eq, if◌then◌else◌, ℕ, Bool, true, false, List, [], ◌∷◌, ◌++◌, length, take, drop, min, Option, Some, None, IfSome, Result, Ok, Err, refl, sym, ◌∙◌, ap, subst, inl, inr, arith, append_assoc, length-append}
use Rattle.std.specs.Option.{option_map}
use Rattle.std.proofs.lemmas.Bool.{ne_eqb}
use Rattle.std.proofs.lemmas.List.{append-nil, take-append-le, drop-append-le, drop_all}
use Rattle.std.proofs.Math.Seq.{take-append-add, drop-append-add, take-length}
use Rattle.br_outside.specs.Outside.{StreamView, Rose}
use Rattle.br_outside.specs.Streams.{Steady, Fails, Tells, HasLeft, Leaves}
use Rattle.line_reader.specs.Lines.{line_length, Next, Nothing, Text, TooLong, next_in, used_in}
use Rattle.line_reader.specs.Reads.{unread, LineGives, AsksLine, HasGiven, Halts}
use Rattle.line_reader.specs.declared.line.LineError.{LineError}
use Rattle.line_reader.specs.declared.line.LineError.TheVariants as errors
use Rattle.line_reader.proofs.Counts.{most, behind, within, no_less, text_next, long_next}

-- of what there was, a line has begun so, this is held, and the others are left
abbrev pub Gave : List ℕ → List ℕ → StreamView → StreamView → Type 0
Gave line held old now = IfSome old.bytes (λ told. (rest : List ℕ) × (now.bytes ≡ Some rest) × (told ≡ line ++ (held ++ rest)))

-- a line has begun so, without its end, and this is held behind it
pub record IsReached (limit : ℕ) (line held : List ℕ) (old now : StreamView) : Type 0 where
  pub unended : line_length line ≡ length line
  pub few : length line ≤ limit
  pub gave : Gave line held old now
  pub steady : Steady old now

-- ---- what a source gives

-- something that is told goes over into something that is told
told_on : (P Q : List ℕ → Type 0) (o : Option (List ℕ)) → ((told : List ℕ) → P told → Q told) → IfSome o P → IfSome o Q
told_on P Q None f h = h
told_on P Q (Some told) f h = f told h

pub begins : (held : List ℕ) (v : StreamView) → Gave [] held (unread held v) v
begins held v = by_bytes v.bytes
  where
    by_bytes : (o : Option (List ℕ)) → IfSome (option_map (λ left. held ++ left) o) (λ told. (rest : List ℕ) × (o ≡ Some rest) × (told ≡ held ++ rest))
    by_bytes None = tt
    by_bytes (Some rest) = (rest, refl, refl)

-- what a source has left, where it tells
abbrev rest_in : Option (List ℕ) → List ℕ
rest_in None = []
rest_in (Some rest) = rest

-- what there was left where the line began, where the source tells
abbrev left_at : List ℕ → List ℕ → StreamView → List ℕ
left_at line held now = line ++ (held ++ rest_in now.bytes)

told_at : (line held : List ℕ) (old now : StreamView) → Gave line held old now → Tells (left_at line held now) old
told_at line held old now gave =
    told_on (λ told. (rest : List ℕ) × (now.bytes ≡ Some rest) × (told ≡ line ++ (held ++ rest))) (λ told. told ≡ left_at line held now) old.bytes
    (λ told h. h.2 ∙ ap (λ r. line ++ (held ++ r)) (sym (ap rest_in h.1))) gave

-- behind some bytes this is held, and the rest is left
leaves_at : (k : ℕ) (line held held' : List ℕ) (old now : StreamView) → Gave line held old now → ((rest : List ℕ) → drop k (line ++ (held ++ rest)) ≡ held' ++ rest)
    → HasLeft (drop k (left_at line held now)) old (unread held' now)
leaves_at k line held held' old now gave cut =
    told_on (λ told. (rest : List ℕ) × (now.bytes ≡ Some rest) × (told ≡ line ++ (held ++ rest)))
    (λ told. option_map (λ left. held' ++ left) now.bytes ≡ Some (drop k (left_at line held now))) old.bytes
    (λ told h. ap (option_map (λ left. held' ++ left)) h.1 ∙ ap Some (sym (cut h.0) ∙ ap (λ r. drop k (line ++ (held ++ r))) (sym (ap rest_in h.1)))) gave

still : (held : List ℕ) (old now : StreamView) → Steady old now → Steady old (unread held now)
still held old now h = record { calm = h.calm; same = h.same }

-- ---- how long it is

more_than : (line held rest : List ℕ) → line_length line ≡ length line → length line + line_length held ≤ line_length (line ++ (held ++ rest))
more_than line held rest unended =
    let a : line_length (line ++ (held ++ rest)) ≡ length line + line_length (held ++ rest) = behind line (held ++ rest) unended in
    let b : line_length held ≤ line_length (held ++ rest) = no_less held rest in
    omega (arith, a, b)

-- fewer bytes than the line uses are lost
less_lost : (limit : ℕ) (line held rest : List ℕ) → line_length line ≡ length line → length line ≤ limit → length line < used_in limit (line ++ (held ++ rest))
less_lost limit line held rest unended few =
    let a : length line + line_length held ≤ line_length (line ++ (held ++ rest)) = more_than line held rest unended in
    omega (arith, a, few)

-- ---- the answers

cut_at : (k : ℕ) (line held rest : List ℕ) → k ≤ length held → drop (length line + k) (line ++ (held ++ rest)) ≡ drop k held ++ rest
cut_at k line held rest few = drop-append-add line (held ++ rest) k ∙ drop-append-le k held rest few

-- the end of the line is held
pub whole : (limit : ℕ) (line held text held' : List ℕ) (old now : StreamView) → IsReached limit line held old now → line_length held < length held → length line + line_length held ≤ limit
    → text ≡ line ++ take (line_length held) held → held' ≡ drop (line_length held + 1) held → AsksLine limit (Ok (Text text)) old (unread held' now)
whole limit line held text held' old now r less few is leaves =
    let rest = rest_in now.bytes in
    let left = left_at line held now in
    let n : line_length left ≡ length line + line_length held = behind line (held ++ rest) r.unended ∙ ap (λ k. length line + k) (within held rest less) in
    let first : take (length line + line_length held) left ≡ line ++ take (line_length held) held = take-append-add line (held ++ rest) (line_length held) ∙ ap (λ x. line ++ x) (take-append-le (line_length held) held rest (omega (arith, less))) in
    let size : length left ≡ length line + (length held + length rest) = length-append line (held ++ rest) ∙ ap (λ k. length line + k) (length-append held rest) in
    let used : length line + (line_length held + 1) ≡ used_in limit left = omega (arith, n, few) in
    let P : ℕ → Type 0 = λ k. HasLeft (drop k left) old (unread held' now) in
    let Q : List ℕ → Type 0 = λ h. HasLeft (drop (length line + (line_length held + 1)) left) old (unread h now) in
    record {
      left = left;
      told = told_at line held old now r.gave;
      gives = (
        ap Text (is ∙ sym first) ∙ text_next limit (length line + line_length held) left n few (omega (arith, size, less)),
        record {
          bytes = subst P used (subst Q (sym leaves) (leaves_at (length line + (line_length held + 1)) line held (drop (line_length held + 1) held) old now r.gave (λ rest. cut_at (line_length held + 1) line held rest (omega (arith, less)))));
          steady = still held' old now r.steady;
        },
      );
    }

-- the line is too long
pub long : (limit : ℕ) (line held held' : List ℕ) (old now : StreamView) → IsReached limit line held old now → limit < length line + line_length held → held' ≡ drop (limit + 1 - length line) held
    → AsksLine limit (Ok TooLong) old (unread held' now)
long limit line held held' old now r more leaves =
    let left = left_at line held now in
    let n : length line + line_length held ≤ line_length left = more_than line held (rest_in now.bytes) r.unended in
    let within : line_length held ≤ length held = most held in
    let k = limit + 1 - length line in
    let used : length line + k ≡ used_in limit left = (let few = r.few in omega (arith, n, more, few)) in
    let P : ℕ → Type 0 = λ k. HasLeft (drop k left) old (unread held' now) in
    let Q : List ℕ → Type 0 = λ h. HasLeft (drop (length line + k) left) old (unread h now) in
    record {
      left = left;
      told = told_at line held old now r.gave;
      gives = (
        long_next limit left (omega (arith, n, more)),
        record {
          bytes = subst P used (subst Q (sym leaves) (leaves_at (length line + k) line held (drop k held) old now r.gave (λ rest. cut_at k line held rest (omega (arith, within, more)))));
          steady = still held' old now r.steady;
        },
      );
    }

-- memory was wanting
pub wanted : (limit : ℕ) (line held held' : List ℕ) (old now : StreamView) → IsReached limit line held old now → held' ≡ held → AsksLine limit (Err errors.Memory) old (unread held' now)
wanted limit line held held' old now r same =
    let Q : List ℕ → Type 0 = λ h. AsksLine limit (Err errors.Memory) old (unread h now) in
    subst Q (sym same) (record {
      left = left_at line held now;
      told = told_at line held old now r.gave;
      gives = (
        length line,
        less_lost limit line held (rest_in now.bytes) r.unended r.few,
        (let P : ℕ → Type 0 = λ k. HasLeft (drop k (left_at line held now)) old (unread held now) in
            let z : length line + 0 ≡ length line = omega arith in
            subst P z (leaves_at (length line + 0) line held held old now r.gave (λ rest. cut_at 0 line held rest (omega arith)))),
        still held old now r.steady,
      );
    })

-- ---- the next piece

-- all that was held is of the line
pub goes_on : (limit : ℕ) (line held line' : List ℕ) (old now : StreamView) → IsReached limit line held old now → line_length held ≡ length held → length line + length held ≤ limit → line' ≡ line ++ held
    → IsReached limit line' [] old now
goes_on limit line held line' old now r all few is =
    let P : List ℕ → Type 0 = λ l. IsReached limit l [] old now in
    let size : length (line ++ held) ≡ length line + length held = length-append line held in
    subst P (sym is) (record {
      unended = behind line held r.unended ∙ (ap (λ k. length line + k) all ∙ sym size);
      few = omega (arith, size, few);
      gave = told_on (λ told. (rest : List ℕ) × (now.bytes ≡ Some rest) × (told ≡ line ++ (held ++ rest))) (λ told. (rest : List ℕ) × (now.bytes ≡ Some rest) × (told ≡ (line ++ held) ++ rest)) old.bytes
          (λ told h. (h.0, h.1, h.2 ∙ sym (append_assoc line held h.0))) r.gave;
      steady = r.steady;
    })

-- what was told further on
further : (P : List ℕ → Type 0) (o : Option (List ℕ)) (rest : List ℕ) → o ≡ Some rest → IfSome o P → P rest
further P o rest is h = let Q : Option (List ℕ) → Type 0 = λ o. IfSome o P in subst Q is h

-- a piece was taken
pub taken : (limit : ℕ) (line held : List ℕ) (old now new : StreamView) → IsReached limit line [] old now → HasGiven held now new → Steady now new → IsReached limit line held old new
taken limit line held old now new r given steady = record {
  unended = r.unended;
  few = r.few;
  gave = told_on (λ told. (rest : List ℕ) × (now.bytes ≡ Some rest) × (told ≡ line ++ rest)) (λ told. (rest : List ℕ) × (new.bytes ≡ Some rest) × (told ≡ line ++ (held ++ rest))) old.bytes
      (λ told h. let g = further (λ left. (rest : List ℕ) × (new.bytes ≡ Some rest) × (left ≡ held ++ rest)) now.bytes h.0 h.1 given in (g.0, g.1, h.2 ∙ ap (λ x. line ++ x) g.2)) r.gave;
  steady = record { calm = steady.calm ∙ r.steady.calm; same = steady.same ∙ r.steady.same };
}

-- the source failed
pub failed : (limit : ℕ) (line held : List ℕ) (old now new : StreamView) → IsReached limit line [] old now → held ≡ [] → HasGiven [] now new → Fails now new → AsksLine limit (Err errors.Failed) old (unread held new)
failed limit line held old now new r none given fails =
    let P : List ℕ → Type 0 = λ h. AsksLine limit (Err errors.Failed) old (unread h new) in
    let R : ℕ → Type 0 = λ n. n ≤ new.faults in
    subst P (sym none) (record {
      left = left_at line [] now;
      told = told_at line [] old now r.gave;
      gives = (
        length line,
        less_lost limit line [] (rest_in now.bytes) r.unended r.few,
        told_on (λ told. (rest : List ℕ) × (now.bytes ≡ Some rest) × (told ≡ line ++ rest)) (λ told. option_map (λ left. left) new.bytes ≡ Some (drop (length line) (left_at line [] now))) old.bytes
            (λ told h.
            let g = further (λ left. (rest : List ℕ) × (new.bytes ≡ Some rest) × (left ≡ rest)) now.bytes h.0 h.1 given in
            let z : length line + 0 ≡ length line = omega arith in
            let cut : drop (length line) (line ++ rest_in now.bytes) ≡ rest_in now.bytes = ap (λ k. drop k (line ++ rest_in now.bytes)) (sym z) ∙ drop-append-add line (rest_in now.bytes) 0 in
            ap (option_map (λ left. left)) g.1 ∙ ap Some (sym g.2 ∙ (sym (ap rest_in h.1) ∙ sym cut))) r.gave,
        record {
          calm = fails.calm ∙ r.steady.calm;
          later = subst R r.steady.same fails.later;
          rose = (let S : ℕ → Type 0 = λ n. Rose n new.faults in subst S r.steady.same fails.rose);
          uncalm = λ calm. fails.uncalm (r.steady.calm ∙ calm);
        },
      );
    })

-- what there is at the end of a source
at_end : (limit : ℕ) (line : List ℕ) → line_length line ≡ length line → length line ≤ limit → (if nat_eq (length line) 0 then Nothing else Text line) ≡ next_in limit line
at_end limit [] unended few = refl
at_end limit (b ∷ bs) unended few =
    ap (λ t. if t then Nothing else Text (b ∷ bs)) (ne_eqb (length (b ∷ bs)) 0 (λ z. omega (arith, z)))
    ∙ (ap Text (sym (take-length (b ∷ bs))) ∙ text_next limit (length (b ∷ bs)) (b ∷ bs) unended few (omega arith))

pub ended : (limit : ℕ) (line held : List ℕ) (next : Next) (old now new : StreamView) → IsReached limit line [] old now → held ≡ [] → HasLeft [] now new → IfSome now.bytes (λ left. left ≡ []) → Steady now new
    → next ≡ (if nat_eq (length line) 0 then Nothing else Text line) → AsksLine limit (Ok next) old (unread held new)
ended limit line held next old now new r none left nothing steady is =
    let P : List ℕ → Type 0 = λ h. AsksLine limit (Ok next) old (unread h new) in
    let used : length line ≤ used_in limit line = (let few = r.few in let unended = r.unended in omega (arith, few, unended)) in
    subst P (sym none) (record {
      left = line;
      told = told_on (λ told. (rest : List ℕ) × (now.bytes ≡ Some rest) × (told ≡ line ++ rest)) (λ told. told ≡ line) old.bytes
          (λ told h. h.2 ∙ (ap (λ x. line ++ x) (further (λ l. l ≡ []) now.bytes h.0 h.1 nothing) ∙ append-nil line)) r.gave;
      gives = (
        is ∙ at_end limit line r.unended r.few,
        record {
          bytes = told_on (λ told. (rest : List ℕ) × (now.bytes ≡ Some rest) × (told ≡ line ++ rest)) (λ told. option_map (λ left. left) new.bytes ≡ Some (drop (used_in limit line) line)) old.bytes
              (λ told h. ap (option_map (λ left. left)) (further (λ l. new.bytes ≡ Some []) now.bytes h.0 h.1 left) ∙ ap Some (sym (drop_all (used_in limit line) line used))) r.gave;
          steady = record { calm = steady.calm ∙ r.steady.calm; same = steady.same ∙ r.steady.same };
        },
      );
    })

-- What a reader answers, by what its parts answer.
use Rattle.std.proofs.Common.{◌≡◌, ◌<◌, ◌≤◌, ◌+◌, nat_eq, if◌then◌else◌, ℕ, Bool, true, false, List, [], ◌++◌, length, Result, Ok, Err, IsErrAnd, refl, sym, ◌∙◌, ap, subst, inl, inr, arith}
use Rattle.std.specs.Result.{result_map_both}
use Rattle.std.proofs.lemmas.Result.{err_from_is_err_and}
use Rattle.br_outside.specs.Outside.{StreamView}
use Rattle.line_reader.specs.Lines.{line_length, Next, Nothing, Text, TooLong}
use Rattle.line_reader.specs.Reads.{next_of, unread, AsksLine, HoldsLine, Gathers, Refills}
use Rattle.line_reader.specs.declared.line.Line.{Line}
use Rattle.line_reader.specs.declared.line.LineError.{LineError}
use Rattle.line_reader.specs.declared.line.LineError.TheVariants as errors
use Rattle.line_reader.specs.declared.reader.Found.{Found}
use Rattle.line_reader.specs.declared.reader.Found.TheVariants as founds
use Rattle.line_reader.proofs.Reached.{IsReached, whole, long, wanted, goes_on, taken, failed, ended}

-- an error that is passed on
passed_on : (limit : ℕ) (e : LineError) (r : Result Line LineError) (old new : StreamView) → IsErrAnd r (λ x. x ≡ e) → AsksLine limit (Err e) old new → AsksLine limit (result_map_both next_of (λ e. e) r) old new
passed_on limit e r old new is h =
    let p = err_from_is_err_and r is in
    let P : Result Line LineError → Type 0 = λ r. AsksLine limit (result_map_both next_of (λ e. e) r) old new in
    subst P (sym (p.1 ∙ ap Err p.2)) h

gather_failed : (limit : ℕ) (e : LineError) (before line held rest : List ℕ) (old now : StreamView) → IsReached limit before held old now → Gathers limit (Err e) before line held rest → AsksLine limit (Err e) old (unread rest now)
gather_failed limit errors.Failed before line held rest old now r h = absurd h
gather_failed limit errors.Memory before line held rest old now r h = wanted limit before held rest old now r h

pub gather_fails : (limit : ℕ) (e : LineError) (r : Result Line LineError) (before line held rest : List ℕ) (old now : StreamView) → IsErrAnd r (λ x. x ≡ e) → IsReached limit before held old now → Gathers limit (Err e) before line held rest
    → AsksLine limit (result_map_both next_of (λ e. e) r) old (unread rest now)
gather_fails limit e r before line held rest old now is reached h = passed_on limit e r old (unread rest now) is (gather_failed limit e before line held rest old now reached h)

-- what was found
found_as : (limit : ℕ) (f g : Found) (before line held rest : List ℕ) → f ≡ g → Gathers limit (Ok f) before line held rest → Gathers limit (Ok g) before line held rest
found_as limit f g before line held rest is h = let P : Found → Type 0 = λ f. Gathers limit (Ok f) before line held rest in subst P is h

pub is_long : (limit : ℕ) (f : Found) (before line held rest : List ℕ) (old now : StreamView) → f ≡ founds.Long → IsReached limit before held old now → Gathers limit (Ok f) before line held rest → AsksLine limit (Ok TooLong) old (unread rest now)
is_long limit f before line held rest old now is reached h = let g = found_as limit f founds.Long before line held rest is h in long limit before held rest old now reached g.0 g.1

pub is_whole : (limit : ℕ) (f : Found) (before line held rest : List ℕ) (old now : StreamView) → f ≡ founds.Whole → IsReached limit before held old now → Gathers limit (Ok f) before line held rest → AsksLine limit (Ok (Text line)) old (unread rest now)
is_whole limit f before line held rest old now is reached h = let g = found_as limit f founds.Whole before line held rest is h in whole limit before held line rest old now reached g.0 g.1 g.2 g.3

-- the line has begun, and nothing is held
pub is_part : (limit : ℕ) (f : Found) (before line held rest : List ℕ) (old now : StreamView) → f ≡ founds.Part → IsReached limit before held old now → Gathers limit (Ok f) before line held rest → IsReached limit line [] old now
is_part limit f before line held rest old now is reached h = let g = found_as limit f founds.Part before line held rest is h in goes_on limit before held line old now reached g.0 g.1 g.2

refill_failed : (limit : ℕ) (e : LineError) (line held : List ℕ) (old now new : StreamView) → IsReached limit line [] old now → Refills (Err e) held now new → AsksLine limit (Err e) old (unread held new)
refill_failed limit errors.Failed line held old now new r h = failed limit line held old now new r h.0 h.1 h.2
refill_failed limit errors.Memory line held old now new r h = absurd h

pub refill_fails : (limit : ℕ) (e : LineError) (r : Result Line LineError) (line held : List ℕ) (old now new : StreamView) → IsErrAnd r (λ x. x ≡ e) → IsReached limit line [] old now → Refills (Err e) held now new
    → AsksLine limit (result_map_both next_of (λ e. e) r) old (unread held new)
refill_fails limit e r line held old now new is reached h = passed_on limit e r old (unread held new) is (refill_failed limit e line held old now new reached h)

-- whether there was a piece
refilled_as : (a b : Bool) (held : List ℕ) (now new : StreamView) → a ≡ b → Refills (Ok a) held now new → Refills (Ok b) held now new
refilled_as a b held now new is h = let P : Bool → Type 0 = λ b. Refills (Ok b) held now new in subst P is h

pub is_ended : (limit : ℕ) (more : Bool) (line held : List ℕ) (next : Next) (old now new : StreamView) → more ≡ false → IsReached limit line [] old now → Refills (Ok more) held now new
    → next ≡ (if nat_eq (length line) 0 then Nothing else Text line) → AsksLine limit (Ok next) old (unread held new)
is_ended limit more line held next old now new is reached h text =
    let g = refilled_as more false held now new is h in
    ended limit line held next old now new reached g.0 g.1 g.2 g.3 text

pub is_taken : (limit : ℕ) (more : Bool) (line held : List ℕ) (old now new : StreamView) → more ≡ true → IsReached limit line [] old now → Refills (Ok more) held now new → IsReached limit line held old new
is_taken limit more line held old now new is reached h = let g = refilled_as more true held now new is h in taken limit line held old now new reached g.1 g.2

-- a line that goes on behind what was held at first was not held
pub none_held : (limit : ℕ) (f : Found) (before line held rest first : List ℕ) {X : Type 0} → f ≡ founds.Part → Gathers limit (Ok f) before line held rest → before ≡ [] → held ≡ first → HoldsLine limit first → X
none_held limit f before line held rest first {X} is h none same holds =
    let g = found_as limit f founds.Part before line held rest is h in
    let P : List ℕ → Type 0 = λ held. (line_length held ≡ length held) × (length held ≤ limit) in
    let size : length before ≡ 0 = ap length none in
    let few = g.1 in
    let k : (line_length first ≡ length first) × (length first ≤ limit) = subst P same (g.0, omega (arith, few, size)) in
    both holds k.0 k.1
  where
    both : HoldsLine limit first → line_length first ≡ length first → length first ≤ limit → X
    both (inl less) all few = absurd (omega (arith, less, all))
    both (inr more) all few = absurd (omega (arith, more, few))

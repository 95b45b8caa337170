-- What the reader answers, from its checks.
use Rattle.std.proofs.Common.{◌≡◌, ℕ, ◌≤◌, Bool, false, List, length, Option, Some, None, refl, sym, ap, ◌∙◌, arith}
use Rattle.std.specs.Prelude.{Ok, Err}
use Rattle.std.proofs.lemmas.Option.{none-some}
use Rattle.trace_file.specs.declared.error.TraceError.{TraceError}
use Rattle.trace_file.specs.declared.error.TraceError.TheVariants as Answer
use Rattle.trace_file.specs.Edges.{Edge, IsEdges, ascends}
use Rattle.trace_file.specs.Trace.{Refused, magic, first_difference, count_of, records_of, disorder, place_if, refuse, late_refusal, refusal, unless_refused, trace}
use Rattle.trace_file.specs.Reads.{Blames, ReadsTrace}
use Rattle.trace_file.proofs.Records.{length_records, ordered}

pub refused_is : (bytes digest : List ℕ) (e : TraceError) → Blames bytes digest e (refusal bytes digest) → ReadsTrace bytes digest (Err e)
unfolding trace
refused_is bytes digest (Answer.Refused number place) h = (ap (λ r. unless_refused r (records_of bytes)) h.0, h.1)
refused_is bytes digest (Answer.Other found) h = (ap (λ r. unless_refused r (records_of bytes)) h.0, h.1, h.2)
refused_is bytes digest Answer.Memory h = absurd h

pub accepted_is : (bytes digest : List ℕ) → refusal bytes digest ≡ None → trace bytes digest ≡ Ok (records_of bytes)
unfolding trace
accepted_is bytes digest h = ap (λ r. unless_refused r (records_of bytes)) h

refuse_inv : (n : ℕ) (o : Option ℕ) (later : Option Refused) → refuse n o later ≡ None → (o ≡ None) × (later ≡ None)
refuse_inv n None later h = (refl, h)
refuse_inv n (Some place) later h = absurd (none-some _ (sym h))

late_none : (bytes digest : List ℕ) → refusal bytes digest ≡ None → late_refusal bytes ≡ None
late_none bytes digest h =
    (refuse_inv 23 _ (late_refusal bytes)
    (refuse_inv 26 _ _
    (refuse_inv 22 _ _
    (refuse_inv 23 _ _
    (refuse_inv 21 (first_difference 0 magic bytes) _ h).1).1).1).1).1

pub edges_of_file : (bytes digest : List ℕ) (list : List Edge) → refusal bytes digest ≡ None → count_of bytes ≤ 2000000 → list ≡ records_of bytes → IsEdges list
edges_of_file bytes digest list h n e =
    let l = ap length e ∙ length_records (count_of bytes) 44 bytes in
    let o = ordered 44 (records_of bytes) (refuse_inv 24 (disorder 44 (records_of bytes)) _ (late_none bytes digest h)).0 in
    record { order = ap ascends e ∙ o; count = omega arith }

-- ---- refusals that do not come

pub pass : (n : ℕ) (o : Option ℕ) (later : Option Refused) → o ≡ None → refuse n o later ≡ later
pass n o later h = ap (λ o. refuse n o later) h

pub no_place : (b : Bool) (place : ℕ) → b ≡ false → place_if b place ≡ None
no_place b place h = ap (λ b. place_if b place) h

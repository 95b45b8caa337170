-- The union of traces that are accepted is a set of edges.
use Rattle.std.proofs.Common.{◌≡◌, ◌≤◌, ◌+◌, true, ℕ, List, [], ◌∷◌, length, Option, Some, None, Ok, refl, sym, ◌∙◌, ap, arith}
use Rattle.std.proofs.lemmas.Option.{none-some}
use Rattle.br_outside.specs.Files.{Files}
use Rattle.trace_file.specs.Edges.{Edge, IsEdges, ascends, union_of}
use Rattle.trace_file.specs.Trace.{Refused, magic, first_difference, records_of, disorder, refuse, late_refusal, refusal, unless_refused, trace}
use Rattle.trace_file.proofs.Records.{ordered}
use Rattle.trace_file.proofs.Union.{ascends_merge, merge_length}
use Rattle.top_files.specs.ReadMeaning.{AreAccepted}

later_none : (n : ℕ) (o : Option ℕ) (later : Option Refused) → refuse n o later ≡ None → (o ≡ None) × (later ≡ None)
later_none n None later h = (refl, h)
later_none n (Some place) later h = absurd (none-some _ (sym h))

-- no record stands out of order
in_order : (bytes digest : List ℕ) → refusal bytes digest ≡ None → disorder 44 (records_of bytes) ≡ None
in_order bytes digest h =
    (later_none 24 (disorder 44 (records_of bytes)) _
    (later_none 23 _ (late_refusal bytes)
    (later_none 26 _ _
    (later_none 22 _ _
    (later_none 23 _ _
    (later_none 21 (first_difference 0 magic bytes) _ h).1).1).1).1).1).0

-- the edges of a trace ascend
pub trace_ascends : (bytes digest : List ℕ) (es : List Edge) → trace bytes digest ≡ Ok es → ascends es ≡ true
unfolding trace
trace_ascends bytes digest es h = by_refusal (refusal bytes digest) refl h
  where
    by_refusal : (r : Option Refused) → refusal bytes digest ≡ r → unless_refused r (records_of bytes) ≡ Ok es → ascends es ≡ true
    by_refusal None is h = let same : records_of bytes ≡ es = cc in ap ascends (sym same) ∙ ordered 44 (records_of bytes) (in_order bytes digest is)
    by_refusal (Some refused) is h = absurd (cc)

union_ascends : (files : Files) (digest : List ℕ) (names : List (List ℕ)) (before : ℕ) (sets : List (List Edge)) → AreAccepted files digest names before sets → ascends (union_of sets) ≡ true
union_ascends files digest [] before [] h = refl
union_ascends files digest [] before (es ∷ sets) h = absurd h
union_ascends files digest (name ∷ names) before [] h = absurd h
union_ascends files digest (name ∷ names) before (es ∷ sets) h =
    ascends_merge es (union_of sets) (trace_ascends h.0.content digest es h.0.accepted) (union_ascends files digest names (before + length es) sets h.1)

union_few : (files : Files) (digest : List ℕ) (names : List (List ℕ)) (before : ℕ) (sets : List (List Edge)) → before ≤ 16777216 → AreAccepted files digest names before sets → before + length (union_of sets) ≤ 16777216
union_few files digest [] before [] most h = omega (arith, most)
union_few files digest [] before (es ∷ sets) most h = absurd h
union_few files digest (name ∷ names) before [] most h = absurd h
union_few files digest (name ∷ names) before (es ∷ sets) most h =
    let rest = union_few files digest names (before + length es) sets h.0.few h.1 in
    let one = merge_length es (union_of sets) in
    omega (arith, rest, one)

pub edges_given : (files : Files) (digest : List ℕ) (names : List (List ℕ)) (sets : List (List Edge)) → AreAccepted files digest names 0 sets → IsEdges (union_of sets)
edges_given files digest names sets h =
    let few : 0 + length (union_of sets) ≤ 16777216 = union_few files digest names 0 sets (omega arith) h in
    record { order = union_ascends files digest names 0 sets h; count = omega (arith, few) }

-- Front parts of texts and of stores.
use Rattle.std.proofs.Common.{◌≡◌, ◌+◌, ℕ, min, List, [], ◌∷◌, ◌++◌, length, take, Option, Some, Result, Ok, Err, sym, ◌∙◌, ap, subst, inl, inr, arith}
use Rattle.std.specs.Option.{option_map}
use Rattle.std.proofs.Math.Seq.{take-append-add, take-length}
use Rattle.std.proofs.lemmas.List.{take_min, take-append-le}
use Rattle.br_outside.specs.Files.{Files, put}
use Rattle.br_outside.specs.Outside.{ShelfView, StreamView, Rose, SameBut, Gave}
use Rattle.br_outside.specs.declared.errors.SinkError.{SinkError}
use Rattle.br_outside.specs.declared.errors.SinkError.TheVariants as sink_errors
use Rattle.top_plan.specs.World.{World}
use Rattle.top_plan.specs.Expected.{Store}
use Rattle.top_plan.specs.Partial.{WroteFront, StoredFront}
use Rattle.top_plan.specs.declared.ends.Object.TheVariants as objects
use Rattle.top_plan.proofs.Kept.{IsKept, nothing, two_texts, fails_later}

-- ---- texts

-- nothing of it
pub wrote_none : (text : List ℕ) (old new : Option (List ℕ)) → new ≡ old → WroteFront text old new
wrote_none text old new same = (0, same ∙ nothing old)

-- all of it
pub wrote_all : (text : List ℕ) (old new : Option (List ℕ)) → new ≡ option_map (λ w. w ++ text) old → WroteFront text old new
wrote_all text old new grew = (length text, grew ∙ ap (λ x. option_map (λ w. w ++ x) old) (sym (take-length text)))

-- behind another text
pub wrote_after : (x y : List ℕ) (old m new : Option (List ℕ)) → m ≡ option_map (λ w. w ++ x) old → WroteFront y m new → WroteFront (x ++ y) old new
wrote_after x y old m new grew (n, wrote) = (length x + n, two_texts old m new x (take n y) grew wrote ∙ ap (λ z. option_map (λ w. w ++ z) old) (sym (take-append-add x y n)))

-- before another text, which is not reached
pub wrote_before : (x y : List ℕ) (old new : Option (List ℕ)) → WroteFront x old new → WroteFront (x ++ y) old new
wrote_before x y old new (n, wrote) =
    let same : take (min n (length x)) (x ++ y) ≡ take n x = take-append-le (min n (length x)) x y (omega arith) ∙ take_min n x in
    (min n (length x), wrote ∙ ap (λ z. option_map (λ w. w ++ z) old) (sym same))

-- what a give wrote
pub gave_front : (text : List ℕ) (answer : Result (Unit {0}) SinkError) (old new : StreamView) → Gave text answer old new → WroteFront text old.bytes new.bytes
gave_front text (Ok u) old new gave = wrote_all text old.bytes new.bytes gave.gives.0
gave_front text (Err sink_errors.Failed) old new gave = gave.gives.0
gave_front text (Err sink_errors.Memory) old new gave = wrote_none text old.bytes new.bytes gave.gives.0

-- ---- stores

-- none was made
pub stored_none : (stores : List Store) (files : Files) (s t : World) → t.shelf.files ≡ Some files → StoredFront stores files s t
stored_none [] files s t same = same
stored_none (x ∷ xs) files s t same = inl same

-- after a step
pub stored_later : (stores : List Store) (files : Files) (s m t : World) → IsKept s m → StoredFront stores files m t → StoredFront stores files s t
stored_later [] files s m t kept same = same
stored_later (x ∷ xs) files s m t kept (inl same) = inl same
stored_later (x ∷ xs) files s m t kept (inr (inl (failed, but))) = inr (inl (fails_later objects.Shelf s m t kept failed, but))
stored_later (x ∷ xs) files s m t kept (inr (inr rest)) = inr (inr (stored_later xs (put x.name (Some x.bytes) files) s m t kept rest))

-- before a step that leaves the shelf as it is
pub stored_still : (stores : List Store) (files : Files) (s m t : World) → t.shelf ≡ m.shelf → StoredFront stores files s m → StoredFront stores files s t
stored_still [] files s m t same h = ap (λ v. v.files) same ∙ h
stored_still (x ∷ xs) files s m t same (inl h) = inl (ap (λ v. v.files) same ∙ h)
stored_still (x ∷ xs) files s m t same (inr (inl (failed, but))) =
    let P : ShelfView → Type 0 = λ v. Rose s.shelf.faults v.faults in
    let Q : ShelfView → Type 0 = λ v. SameBut x.name (Some files) v.files in
    inr (inl (record { rose = subst P (sym same) failed.rose; loud = failed.loud }, subst Q (sym same) but))
stored_still (x ∷ xs) files s m t same (inr (inr rest)) = inr (inr (stored_still xs (put x.name (Some x.bytes) files) s m t same rest))

-- What telling a report line comes to.
use Rattle.std.proofs.Common.{◌≡◌, ◌≤◌, ℕ, List, ◌++◌, Option, Some, None, Ok, Err, IsTrue, refl, sym, ◌∙◌, ap, subst, arith}
use Rattle.std.specs.Option.{option_map}
use Rattle.br_outside.specs.Outside.{StreamView, Rose}
use Rattle.br_outside.specs.declared.errors.SinkError.TheVariants as sink_errors
use Rattle.top_plan.specs.World.{World, on_report}
use Rattle.top_plan.specs.Texts.{line_text}
use Rattle.top_plan.specs.Happened.{TellsLine}
use Rattle.top_plan.specs.Partial.{WroteFront}
use Rattle.top_plan.proofs.Kept.{IsKept, nothing, report_kept}
use Rattle.top_plan.proofs.Fronts.{gave_front, wrote_none}

-- the report took the line, or there is none; it failed; or it had no memory
pub data HowTold (line : Option (List ℕ)) (status : ℕ) (old : StreamView) (result : ℕ) (new : StreamView) : Type 0 where
  Taken : result ≡ status → new.bytes ≡ option_map (λ w. w ++ line_text line) old.bytes → new.faults ≡ old.faults → HowTold line status old result new
  Refused : result ≡ 3 → Rose old.faults new.faults → (IsTrue old.calm → ⊥) → HowTold line status old result new
  Lacked : result ≡ 4 → new.faults ≡ old.faults → HowTold line status old result new

pub how_told : (line : Option (List ℕ)) (status : ℕ) (old : StreamView) (result : ℕ) (new : StreamView) → TellsLine line status old result new → HowTold line status old result new
how_told None status old result new (is, same) = Taken is (ap (λ v. v.bytes) same ∙ nothing old.bytes) (ap (λ v. v.faults) same)
how_told (Some text) status old result new (Ok u, gave, is) = Taken is gave.gives.0 gave.gives.1
how_told (Some text) status old result new (Err sink_errors.Failed, gave, is) = Refused is gave.gives.1 gave.gives.2
how_told (Some text) status old result new (Err sink_errors.Memory, gave, is) = Lacked is gave.gives.1

-- what it does to the report, whatever came of it
pub record IsTelling (line : Option (List ℕ)) (old new : StreamView) : Type 0 where
  pub later : old.faults ≤ new.faults
  pub calm : new.calm ≡ old.calm
  pub front : WroteFront (line_text line) old.bytes new.bytes

pub telling : (line : Option (List ℕ)) (status : ℕ) (old : StreamView) (result : ℕ) (new : StreamView) → TellsLine line status old result new → IsTelling line old new
telling None status old result new (is, same) =
    let P : StreamView → Type 0 = λ v. IsTelling None old v in
    subst P (sym same) (record { later = omega arith; calm = refl; front = wrote_none (line_text None) old.bytes old.bytes refl })
telling (Some text) status old result new (answer, gave, is) = record { later = gave.later; calm = gave.calm; front = gave_front text answer old new gave }

pub telling_kept : (line : Option (List ℕ)) (s : World) (v : StreamView) → IsTelling line s.report v → IsKept s (on_report s v)
telling_kept line s v h = report_kept s v h.later h.calm (_, h.front.1)

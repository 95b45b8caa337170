use Rattle.std.proofs.Common.{Ok, Err, refl}
use Rattle.br_outside.specs.declared.errors.ShelfError.TheVariants as shelf_errors
use Rattle.top_plan.proofs.Passes.{fetched}
use Rattle.top_plan.proofs.files.fetch_file.Goals as goal

pub returns-in-Ok-clause-goes : goal.returns-in-Ok-clause-goes
returns-in-Ok-clause-goes g c w next o u went = fetched _ _ next _ _ (Ok c.in-Ok.bytes.items) o u c.in-Ok.ensures went

pub returns-in-Err-Failed-clause-goes : goal.returns-in-Err-Failed-clause-goes
returns-in-Err-Failed-clause-goes g c w next = fetched _ _ next _ _ (Err shelf_errors.Failed) _ _ (rw c.in-Err-Failed.field-0-is at c.in-Err-Failed.ensures) (refl, refl)

pub returns-in-Err-TooLong-clause-goes : goal.returns-in-Err-TooLong-clause-goes
returns-in-Err-TooLong-clause-goes g c w next = fetched _ _ next _ _ (Err shelf_errors.TooLong) _ _ (rw c.in-Err-TooLong.field-0-is at c.in-Err-TooLong.ensures) (refl, refl)

pub returns-in-Err-Memory-clause-goes : goal.returns-in-Err-Memory-clause-goes
returns-in-Err-Memory-clause-goes g c w next = fetched _ _ next _ _ (Err shelf_errors.Memory) _ _ (rw c.in-Err-Memory.field-0-is at c.in-Err-Memory.ensures) (refl, refl)

use Rattle.std.proofs.Common.{Ok, Err, refl}
use Rattle.br_outside.specs.declared.errors.StoreError.TheVariants as store_errors
use Rattle.top_plan.proofs.Passes.{stored}
use Rattle.top_plan.proofs.files.store_file.Goals as goal

pub returns-in-Ok : goal.returns-in-Ok
returns-in-Ok g c w next o u went = stored _ _ (next tt) _ _ (Ok tt) o u c.in-Ok.ensures went

pub returns-in-Err-Failed : goal.returns-in-Err-Failed
returns-in-Err-Failed g c w next = stored _ _ (next tt) _ _ (Err store_errors.Failed) _ _ (rw c.in-Err-Failed.field-0-is at c.in-Err-Failed.ensures) (refl, refl)

pub returns-in-Err-Memory : goal.returns-in-Err-Memory
returns-in-Err-Memory g c w next = stored _ _ (next tt) _ _ (Err store_errors.Memory) _ _ (rw c.in-Err-Memory.field-0-is at c.in-Err-Memory.ensures) (refl, refl)

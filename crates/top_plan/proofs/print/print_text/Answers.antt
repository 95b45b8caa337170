use Rattle.std.proofs.Common.{Ok, Err, refl, sym, ◌∙◌}
use Rattle.br_outside.specs.declared.errors.SinkError.TheVariants as sink_errors
use Rattle.top_plan.proofs.Passes.{printed}
use Rattle.top_plan.proofs.Printing.{prints_some}
use Rattle.top_plan.proofs.print.print_text.Goals as goal

pub returns-in-Ok : goal.returns-in-Ok
returns-in-Ok g c w next o u went = prints_some _ (next tt) _ o u (sym c.is_empty.ensures ∙ c.if-is_empty.false) (printed _ (next tt) _ _ (Ok tt) o u c.in-Ok.ensures went)

pub returns-in-Err-Failed : goal.returns-in-Err-Failed
returns-in-Err-Failed g c w next = prints_some _ (next tt) _ _ _ (sym c.is_empty.ensures ∙ c.if-is_empty.false) (printed _ (next tt) _ _ (Err sink_errors.Failed) _ _ (rw c.in-Err-Failed.field-0-is at c.in-Err-Failed.ensures) (refl, refl))

pub returns-in-Err-Memory : goal.returns-in-Err-Memory
returns-in-Err-Memory g c w next = prints_some _ (next tt) _ _ _ (sym c.is_empty.ensures ∙ c.if-is_empty.false) (printed _ (next tt) _ _ (Err sink_errors.Memory) _ _ (rw c.in-Err-Memory.field-0-is at c.in-Err-Memory.ensures) (refl, refl))

-- Work that is done.
use Rattle.std.specs.Prelude.{ℕ, List, Some}
use Rattle.top_plan.specs.Texts.{Finished}
use Rattle.top_plan.specs.declared.ends.Finish.TheVariants.{Done}

-- all was done, and this line is reported
abbrev pub done_with : List ℕ → Finished
done_with line = record { finish = Done; line = Some line }

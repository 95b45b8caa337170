-- What is seen of the four objects of the outside.
use Rattle.std.specs.Prelude.{ℕ, Bool}
use Rattle.br_outside.specs.Outside.{ShelfView, StreamView}
use Rattle.top_plan.specs.declared.ends.Object.{Object}
use Rattle.top_plan.specs.declared.ends.Object.TheVariants as objects

-- the four objects: files, the bytes that come, those that are printed, and those that are reported
pub record World : Type 0 where
  pub shelf : ShelfView
  pub input : StreamView
  pub out : StreamView
  pub report : StreamView

-- a world of these four
abbrev pub world : ShelfView → StreamView → StreamView → StreamView → World
world shelf input out report = record { shelf = shelf; input = input; out = out; report = report }

-- the same world with another shelf
abbrev pub on_shelf : World → ShelfView → World
on_shelf w v = record w { shelf = v }

-- with another input
abbrev pub on_input : World → StreamView → World
on_input w v = record w { input = v }

-- with another output
abbrev pub on_out : World → StreamView → World
on_out w v = record w { out = v }

-- with another report
abbrev pub on_report : World → StreamView → World
on_report w v = record w { report = v }

-- the count of faults of an object
abbrev pub faults_of : Object → World → ℕ
faults_of objects.Shelf w = w.shelf.faults
faults_of objects.Input w = w.input.faults
faults_of objects.Output w = w.out.faults
faults_of objects.Report w = w.report.faults

-- whether an object tells that it is calm
abbrev pub calm_of : Object → World → Bool
calm_of objects.Shelf w = w.shelf.calm
calm_of objects.Input w = w.input.calm
calm_of objects.Output w = w.out.calm
calm_of objects.Report w = w.report.calm

-- What is done where the words are no command.
use Rattle.std.specs.Prelude.{◌≡◌, ◌⊎◌, ℕ, Result, Err}
use Rattle.top_plan.specs.World.{World}
use Rattle.top_plan.specs.Texts.{usage_text}
use Rattle.top_plan.specs.Plan.{Plan}
use Rattle.top_plan.specs.Expected.{HasFailed}
use Rattle.top_files.specs.Answers.{Says}
use Rattle.top_plan.specs.declared.ends.Object.TheVariants as objects

-- Status 1 comes exactly where the words ask for no plan, and then nothing is done but one report line.
pub record MeansUsage (asked : Result Plan ℕ) (s : World) (result : ℕ) (t : World) : Type 0 where
  pub only : result ≡ 1 → (at : ℕ) × (asked ≡ Err at) × Says (usage_text at) s t
  pub status : (at : ℕ) → asked ≡ Err at → (result ≡ 1) ⊎ ((result ≡ 4) ⊎ ((result ≡ 3) × HasFailed objects.Report s t))
  pub alone : (at : ℕ) → asked ≡ Err at → (t.shelf ≡ s.shelf) × (t.input ≡ s.input) × (t.out ≡ s.out)

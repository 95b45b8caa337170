-- What `demo` does, in a user's words.
use Rattle.std.specs.Prelude.{◌≡◌, ◌⊎◌, ℕ, ◌++◌}
use Rattle.std.specs.Option.{option_map}
use Rattle.demo_gen.specs.Demonstration.{demo_file}
use Rattle.demo_laws.specs.Runs.{demo_observed}
use Rattle.top_plan.specs.World.{World}
use Rattle.top_plan.specs.Expected.{HasFailed}
use Rattle.top_plan.specs.declared.ends.Object.TheVariants as objects
use Rattle.top_demo.specs.declared.command.TheConstants.{ORIGINAL_STEPS, REBUILT_STEPS}
use Rattle.top_demo.specs.DemoRuns.{shown_by}
use Rattle.top_demo.specs.DemoPlan.{demo_image, demo_line}

-- After n steps of the demonstration and m of the file that is written for it both have exited with 0, and have written the same four
-- bytes and nothing else.
pub record ShowTheSame (count n m : ℕ) : Type 0 where
  pub original : shown_by (demo_file count) n ≡ demo_observed count
  pub rebuilt : shown_by (demo_image count n) m ≡ demo_observed count

-- the line was printed, and nothing was reported
pub record HasShown (count : ℕ) (s t : World) : Type 0 where
  pub out : t.out.bytes ≡ option_map (λ written. written ++ demo_line count) s.out.bytes
  pub report : t.report ≡ s.report
  pub same : ShowTheSame count ORIGINAL_STEPS REBUILT_STEPS

-- What each status of `demo K` means, over any objects: there are 0, 3 and 4 alone, no file is read or stored, and nothing is taken of
-- the input.
pub record MeansDemo (count : ℕ) (s : World) (result : ℕ) (t : World) : Type 0 where
  pub answers : (result ≡ 0) ⊎ ((result ≡ 3) ⊎ (result ≡ 4))
  pub done : result ≡ 0 → HasShown count s t
  pub outside : result ≡ 3 → HasFailed objects.Output s t ⊎ HasFailed objects.Report s t
  pub shelf : t.shelf ≡ s.shelf
  pub input : t.input ≡ s.input

-- A fault stands at the call that met it: which counts of faults may have risen, by the status.
use Rattle.std.specs.Prelude.{◌≡◌, ℕ}
use Rattle.br_outside.specs.Outside.{Rose}
use Rattle.top_plan.specs.World.{World, faults_of}
use Rattle.top_plan.specs.Texts.{object_text}
use Rattle.top_plan.specs.Expected.{EndsWith}
use Rattle.top_plan.specs.declared.ends.Object.{Object}
use Rattle.top_plan.specs.declared.ends.Object.TheVariants as objects

-- no count is other than it was
abbrev pub NoneRose : World → World → Type 0
NoneRose s t = (x : Object) → faults_of x t ≡ faults_of x s

-- the count of this object rose, and no other is other than it was
pub record OnlyRose (x : Object) (s t : World) : Type 0 where
  pub rose : Rose (faults_of x s) (faults_of x t)
  pub others : (y : Object) → (y ≡ x → ⊥) → faults_of y t ≡ faults_of y s

-- the count of the report rose, and that of this object may have risen before
pub record ReportRose (x : Object) (s t : World) : Type 0 where
  pub rose : Rose s.report.faults t.report.faults
  pub others : (y : Object) → (y ≡ x → ⊥) → (y ≡ objects.Report → ⊥) → faults_of y t ≡ faults_of y s

-- where the faults of a call stand, by its status
pub data IsSteady (s : World) (result : ℕ) (t : World) : Type 0 where
  -- 0, 1, 2, 5, 6, 7, and 4 but for the case below: no call failed
  NoneFailed : (result ≡ 3 → ⊥) → NoneRose s t → IsSteady s result t
  -- 3: one call failed, of the object that the report line names
  OneFailed : (x : Object) → result ≡ 3 → OnlyRose x s t → EndsWith (object_text x) s.report.bytes t.report.bytes → IsSteady s result t
  -- 3: the report failed to take its last line, after at most one other call had failed
  ReportFailed : (x : Object) → result ≡ 3 → ReportRose x s t → IsSteady s result t
  -- 4: one call failed, and the report had no memory for the line that names its object
  Unnamed : (x : Object) → result ≡ 4 → OnlyRose x s t → IsSteady s result t

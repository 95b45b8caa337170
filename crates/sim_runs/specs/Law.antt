-- The laws of recovered files.
use Rattle.std.specs.Prelude.{◌≡◌, ℕ, ◌+◌, ◌*◌, ◌≤◌, List, ◌++◌, Ok}
use Rattle.elf_read.specs.declared.exe.Exe.{Exe}
use Rattle.elf_read.specs.declared.exe.Reach.TheVariants.{Original}
use Rattle.elf_read.specs.Elf.{elf}
use Rattle.run_model.specs.Edges.{Edge}
use Rattle.run_model.specs.Run.{AreOfBytes, IsWellDefinedRun}
use Rattle.sim_laws.specs.Preserves.{ReachesAt, Preserves}
use Rattle.sim_laws.specs.Covers.{Covers}
use Rattle.ia_inst.specs.Step.{IsWellDefined}
use Rattle.sim_runs.specs.Forward.{Moves}
use Rattle.sim_runs.specs.Whole.{IsKept}
use Rattle.sim_runs.specs.Leaving.{Anything, IsBelow}
use Rattle.sim_runs.specs.Recovered.{Coded, plan_of}
use Rattle.sim_runs.specs.Relation.{Related}
use Rattle.sim_runs.specs.Promised.{IsOf, Laws}

-- what the parts promise makes a file preserve what the original does, and cover its recorded edges and those to copies
abbrev pub LawsPreserve : Type 0
LawsPreserve = (e : List ℕ) (exe : Exe) (edges further : List Edge) (file : List ℕ) (c : Coded)
    → elf Original e ≡ Ok exe → Laws exe edges further file c → Preserves e file × Covers e file (edges ++ further)

-- from block to block: what is related stays so, with 1 to 64 steps of the original and at least one of the file
abbrev pub StepsRelate : Type 0
StepsRelate = (e : List ℕ) (exe : Exe) (edges further : List Edge) (file : List ℕ) (c : Coded)
    → elf Original e ≡ Ok exe → (laws : Laws exe edges further file c)
    → Moves IsWellDefined (Related (plan_of exe edges c) (IsOf exe) Anything (Unit {0})) Anything laws.high

-- where the original's steps keep to these edges, the recovered code is not left on the way
abbrev pub StepsStay : Type 0
StepsStay = (e : List ℕ) (exe : Exe) (edges further : List Edge) (file : List ℕ) (c : Coded)
    → elf Original e ≡ Ok exe → (laws : Laws exe edges further file c)
    → Moves (IsKept (edges ++ further)) (Related (plan_of exe edges c) (IsOf exe) IsBelow ⊥) IsBelow laws.high

-- it comes to the observation within the bounds of the parts
abbrev pub ReachesWithin : Type 0
ReachesWithin = (e : List ℕ) (exe : Exe) (edges further : List Edge) (file : List ℕ) (c : Coded)
    → elf Original e ≡ Ok exe → (laws : Laws exe edges further file c)
    → (words : List (List ℕ)) (input choices : List ℕ) → AreOfBytes e words input → (k : ℕ) → IsWellDefinedRun e words input k
    → (r : ReachesAt e file words input choices k) × (r.steps ≤ laws.top + laws.high * k)

-- The exchange of state in the file of an original and edges.
use Rattle.std.specs.Prelude.{ℕ, ◌≤◌, List, length}
use Rattle.elf_read.specs.declared.exe.Exe.{Exe}
use Rattle.elf_read.specs.Elf.{IsOriginal}
use Rattle.run_model.specs.Edges.{Edge}
use Rattle.code_layout.specs.declared.place.TheConstants.{MAX_CODE}
use Rattle.code_layout.specs.Linked.{code_of}
use Rattle.sim_runs.specs.Recovered.{plan_of}
use Rattle.sim_runs.specs.Promised.{Exchanges}
use Rattle.image_laws.specs.Coded.{coded_of}

-- the steps of the exchange: into a native instruction, out of it, and at the entry
abbrev pub OPENING_STEPS : ℕ
OPENING_STEPS = 31

abbrev pub CLOSING_STEPS : ℕ
CLOSING_STEPS = 17

abbrev pub ENTRY_STEPS : ℕ
ENTRY_STEPS = 17

-- where the code has room, state is exchanged round each native instruction and at the entry
abbrev pub StatesExchanged : Type 0
StatesExchanged = (exe : Exe) (edges : List Edge) → IsOriginal exe → length (code_of exe edges) ≤ MAX_CODE
    → Exchanges exe (plan_of exe edges (coded_of exe edges)) OPENING_STEPS CLOSING_STEPS ENTRY_STEPS

-- Which control-flow edges of an executable count.
use Rattle.std.specs.Prelude.{◌==◌, Bool, ◌&&◌, ◌||◌, List, filter}
use Rattle.elf_read.specs.declared.exe.Exe.{Exe}
use Rattle.elf_read.specs.Elf.{is_exec}
use Rattle.run_model.specs.Edges.{Edge}
use Rattle.block_cut.specs.Transfers.{leads_to}

-- the pair of 0 and the entry: it says that a run began
abbrev pub is_beginning : Exe → Edge → Bool
is_beginning exe e = e.0 == 0 && e.1 == exe.entry

-- its target is code, and it says that a run began, or a transfer at its site may lead to its target
unfoldable pub counts : Exe → Edge → Bool
counts exe e = is_exec e.1 exe.segments && (is_beginning exe e || leads_to exe e.0 e.1)

-- the edges that count, in their order
abbrev pub counting : Exe → List Edge → List Edge
counting exe es = filter (counts exe) es

use Rattle.std.proofs.Common.{◌+◌, sym, ◌∙◌}
use Rattle.elf_read.specs.Elf.{loaded, holds_entry}
use Rattle.elf_read.proofs.Walk.{loaded_left, loaded_on, passed_over, held_here, held_on}
use Rattle.elf_read.proofs.table.is_in_code.Goals as goal
use Rattle.elf_read.proofs.table.is_in_code.Goals.{else-has_memory-via-then-has_memory+else-is_entry, else-has_memory-via-else-has_memory}

pub returns-then-is_entry : goal.returns-then-is_entry
returns-then-is_entry c =
    held_here c.args.entry c.read_header-header.result (loaded_left c.args.bytes.now c.args.table (c.loop-i.i + 1)) (sym c.is_entry.ensures ∙ c.if-is_entry.true)
    ∙ loaded_on c.args.bytes.now c.args.table c.loop-i.i c.read_header-header.result c.loop-i-test.true c.read_header-header.ensures (holds_entry c.args.entry) (holds_entry c.args.entry (loaded c.args.bytes.now)) c.loop-i.invariant (sym c.has_memory.ensures ∙ c.if-has_memory.true)

pub loop-i-preserved : goal.loop-i-preserved
loop-i-preserved c =
    let left = loaded_left c.args.bytes.now c.args.table (c.loop-i.i + 1) in
    elim c.else-has_memory.branch [
      | else-has_memory-via-then-has_memory+else-is_entry w ↦ held_on c.args.entry c.read_header-header.result left (sym w.is_entry.ensures ∙ w.if-is_entry.false)
          ∙ loaded_on c.args.bytes.now c.args.table c.loop-i.i c.read_header-header.result c.loop-i-test.true c.read_header-header.ensures (holds_entry c.args.entry) (holds_entry c.args.entry (loaded c.args.bytes.now)) c.loop-i.invariant (sym c.has_memory.ensures ∙ w.if-has_memory.true)
      | else-has_memory-via-else-has_memory w ↦ passed_over c.args.bytes.now c.args.table c.loop-i.i c.read_header-header.result c.loop-i-test.true c.read_header-header.ensures (holds_entry c.args.entry) (holds_entry c.args.entry (loaded c.args.bytes.now)) c.loop-i.invariant (sym c.has_memory.ensures ∙ w.if-has_memory.false)
    ]

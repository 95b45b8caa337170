use Rattle.std.proofs.Common.{◌≡◌, ◌+◌, ◌-◌, ◌<◌, ◌⊎◌, inl, inr, sym, ap, ◌∙◌}
use Rattle.elf_read.specs.Elf.{loaded, first_past, most_segments, most_memory}
use Rattle.elf_read.proofs.Walk.{loaded_left, loaded_on, passed_over, past_here, past_on}
use Rattle.elf_read.proofs.table.excess_place.Goals as goal
use Rattle.elf_read.proofs.table.excess_place.Goals.{then-count-eq0-via-then-count-eq0, then-count-eq0-via-else-count-eq0+then-header-room, then-has_memory+else-count-eq0+else-header-room, else-has_memory}

pub returns-then-count-eq0 : goal.returns-then-count-eq0
returns-then-count-eq0 c =
    let why : (c.loop-i.count ≡ 0) ⊎ (c.loop-i.room < c.read_header-header.result.memsz) = elim c.then-count-eq0.branch [
      | then-count-eq0-via-then-count-eq0 w ↦ inl w.if-count-eq0.true
      | then-count-eq0-via-else-count-eq0+then-header-room w ↦ inr w.if-header-room.true
    ] in
    past_here c.loop-i.count c.loop-i.room c.read_header-header.result _ why
    ∙ loaded_on c.args.bytes.now c.args.table c.loop-i.i c.read_header-header.result c.loop-i-test.true c.read_header-header.ensures (first_past c.loop-i.count c.loop-i.room) (first_past (most_segments c.args.reach) (most_memory c.args.reach) (loaded c.args.bytes.now)) c.loop-i.invariant (sym c.has_memory.ensures ∙ c.if-has_memory.true)

pub loop-i-preserved : goal.loop-i-preserved
loop-i-preserved c =
    let left = loaded_left c.args.bytes.now c.args.table (c.loop-i.i + 1) in
    let all = first_past (most_segments c.args.reach) (most_memory c.args.reach) (loaded c.args.bytes.now) in
    elim c.if-has_memory.branch [
      | then-has_memory+else-count-eq0+else-header-room w ↦ ap (λ n. first_past n c.if-has_memory.room left) w.count-is
          ∙ ap (λ r. first_past (c.loop-i.count - 1) r left) w.room-is
          ∙ past_on c.loop-i.count c.loop-i.room c.read_header-header.result left w.if-count-eq0.false w.if-header-room.false
          ∙ loaded_on c.args.bytes.now c.args.table c.loop-i.i c.read_header-header.result c.loop-i-test.true c.read_header-header.ensures (first_past c.loop-i.count c.loop-i.room) all c.loop-i.invariant (sym c.has_memory.ensures ∙ w.if-has_memory.true)
      | else-has_memory w ↦ ap (λ n. first_past n c.if-has_memory.room left) w.count-is
          ∙ ap (λ r. first_past c.loop-i.count r left) w.room-is
          ∙ passed_over c.args.bytes.now c.args.table c.loop-i.i c.read_header-header.result c.loop-i-test.true c.read_header-header.ensures (first_past c.loop-i.count c.loop-i.room) all c.loop-i.invariant (sym c.has_memory.ensures ∙ w.if-has_memory.false)
    ]

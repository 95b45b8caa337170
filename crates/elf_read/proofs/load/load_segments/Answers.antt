use Rattle.std.proofs.Common.{◌+◌, ◌++◌, map, sym, ap, ◌∙◌}
use Rattle.elf_read.specs.Elf.{loaded, segment_of}
use Rattle.elf_read.proofs.Parts.{push_step}
use Rattle.elf_read.proofs.Walk.{loaded_left, loaded_on, passed_over}
use Rattle.elf_read.proofs.load.load_segments.Goals as goal
use Rattle.elf_read.proofs.load.load_segments.Goals.{then-has_memory+in_ok-load_segment+in_ok-push, else-has_memory}

pub loop-i-preserved : goal.loop-i-preserved
loop-i-preserved c =
    let bytes = c.args.bytes.now in
    let header = c.read_header-header.result in
    let left = loaded_left bytes c.args.table (c.loop-i.i + 1) in
    let all = map (segment_of bytes) (loaded bytes) in
    elim c.if-has_memory.branch [
      | then-has_memory+in_ok-load_segment+in_ok-push w ↦ push_step (segment_of bytes) c.loop-i.segments.items c.if-has_memory.segments.items all w.in_ok-load_segment.field-0 header left
          (ap (λ v. v.items) w.segments-is ∙ w.in_ok-push.ensures.items) w.in_ok-load_segment.ensures
          (loaded_on bytes c.args.table c.loop-i.i header c.loop-i-test.true c.read_header-header.ensures (λ hs. c.loop-i.segments.items ++ map (segment_of bytes) hs) all c.loop-i.invariant (sym c.has_memory.ensures ∙ w.if-has_memory.true))
      | else-has_memory w ↦ ap (λ v. v.items ++ map (segment_of bytes) left) w.segments-is
          ∙ passed_over bytes c.args.table c.loop-i.i header c.loop-i-test.true c.read_header-header.ensures (λ hs. c.loop-i.segments.items ++ map (segment_of bytes) hs) all c.loop-i.invariant (sym c.has_memory.ensures ∙ w.if-has_memory.false)
    ]

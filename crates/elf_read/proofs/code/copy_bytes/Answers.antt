use Rattle.std.proofs.Common.{◌≡◌, ◌+◌, ◌≤◌, ◌++◌, length, take, drop, get_or, sym, ap, ◌∙◌, arith, length-drop}
use Rattle.std.specs.Prelude.{min}
use Rattle.std.proofs.lemmas.List.{length-take, take_min, get_or_past}
use Rattle.elf_read.specs.Code.{segment_bytes}
use Rattle.elf_read.proofs.Parts.{length-segment_bytes, byte_at, copy_step}
use Rattle.elf_read.proofs.code.copy_bytes.Goals as goal
use Rattle.elf_read.proofs.code.copy_bytes.Goals.{then-at-bytes, else-at-bytes}

pub loop-i-preserved : goal.loop-i-preserved
loop-i-preserved c =
    let s = c.args.segment.now in
    let at = c.args.offset + c.loop-i.i in
    let xs = drop c.args.offset (segment_bytes s) in
    let l1 = length-segment_bytes s c.requires.bytes in
    let l2 = length-drop c.args.offset (segment_bytes s) in
    let same = byte_at s c.args.offset c.loop-i.i in
    let same_length = ap length c.as_slice-bytes.ensures in
    let byte : c.if-at-bytes.into ≡ get_or xs c.loop-i.i 0 = elim c.if-at-bytes.branch [
      | then-at-bytes w ↦ w.into-is ∙ ap (λ bytes. get_or bytes at 0) c.as_slice-bytes.ensures ∙ sym same
      | else-at-bytes w ↦ let past : length s.bytes ≤ at = omega (arith, w.if-at-bytes.false) in w.into-is ∙ sym (get_or_past s.bytes at 0 past) ∙ sym same
    ] in
    copy_step xs c.args.into.now c.loop-i.into c.loop-i.i c.if-at-bytes.into c.loop-i.invariant (omega (arith, c.min-count.ensures)) (omega (arith, c.min-count.ensures)) byte

pub returns-clause-count : goal.returns-clause-count
returns-clause-count c =
    let s = c.args.segment.now in
    let xs = drop c.args.offset (segment_bytes s) in
    omega (arith, c.min-count.ensures, length-take 15 xs, length-drop c.args.offset (segment_bytes s), length-segment_bytes s c.requires.bytes)

pub returns-clause-bytes : goal.returns-clause-bytes
returns-clause-bytes c =
    let s = c.args.segment.now in
    let old = c.args.into.now in
    let xs = drop c.args.offset (segment_bytes s) in
    let i : c.loop-i.i ≡ c.min-count.result = omega arith in
    let n : c.min-count.result ≡ min 15 (length xs) = omega (arith, c.min-count.ensures, length-drop c.args.offset (segment_bytes s), length-segment_bytes s c.requires.bytes) in
    c.loop-i.invariant
    ∙ ap (λ n. take n xs ++ drop n old) i
    ∙ ap (λ n. take n xs ++ drop c.min-count.result old) n
    ∙ ap (λ x. x ++ drop c.min-count.result old) (take_min 15 xs)

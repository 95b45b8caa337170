use Rattle.std.proofs.Common.{rules, ◌++◌, take, drop, get_or, sym, ap, ◌∙◌}
use Rattle.elf_read.specs.Code.{code_at}
use Rattle.elf_read.proofs.Parts.{code_here}
use Rattle.elf_read.proofs.code.exec_bytes.Goals as goal

pub returns-then-is_code-clause-bytes : goal.returns-then-is_code-clause-bytes
returns-then-is_code-clause-bytes c =
    let segments = c.args.exe.now.segments in
    let code = code_here c.args.at c.loop-segment.segment-index segments c.segment-item.result (code_at c.args.at segments) c.loop-segment.invariant.code (search rules) (c.segment-item.is ∙ ap (λ ss. get_or ss c.loop-segment.segment-index c.segment-item.result) c.as_slice-segment-items.ensures) (sym c.is_code.ensures ∙ c.if-is_code.true) in
    c.copy_bytes.ensures.bytes
    ∙ ap (λ x. take 15 x ++ drop c.copy_bytes.result c.loop-segment.into) code
    ∙ ap (λ x. take 15 (code_at c.args.at segments) ++ drop c.copy_bytes.result x) c.loop-segment.invariant.same

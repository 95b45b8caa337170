use Rattle.std.proofs.Common.{◌∙◌, ◌++◌, ap}
use Rattle.std.proofs.lemmas.Result.{err_from_is_err_and}
use Rattle.asm_text.specs.Source.{rows_in, bytes_of}
use Rattle.asm_text.proofs.Found.{code_size}
use Rattle.asm_text.proofs.Steps.{refused_early, refused_late, not_refused, no_code, some_code}
use Rattle.asm_text.proofs.assembler.assemble.Goals as goal

pub returns-in_err-labels-clause-err : goal.returns-in_err-labels-clause-err
returns-in_err-labels-clause-err c =
    let p = err_from_is_err_and c.from_residual.result c.from_residual.ensures.1 in
    rw (p.1, p.2) (refused_early c.args.source.now c.in_err-labels.field-0.0 c.in_err-labels.ensures)

pub returns-in_err-put_rows-clause-err : goal.returns-in_err-put_rows-clause-err
returns-in_err-put_rows-clause-err c =
    let p = err_from_is_err_and c.from_residual-in_err-put_rows.result c.from_residual-in_err-put_rows.ensures.1 in
    rw (p.1, p.2) (refused_late c.args.source.now c.in_err-put_rows.field-0.0 _ c.in_ok-labels.ensures.0 c.in_err-put_rows.ensures)

pub returns-then-size-eq0-clause-err : goal.returns-then-size-eq0-clause-err
returns-then-size-eq0-clause-err c =
    let s = c.args.source.now in
    not_refused s c.in_ok-labels.ensures.0 c.in_ok-put_rows.ensures.0
    ∙ no_code s c.in_ok-labels.end (code_size c.forms_give_bytes.ensures.sized (rows_in s) (rows_in s)) c.in_ok-labels.ensures.1.1 c.if-size-eq0.true

pub returns-clause-ok : goal.returns-clause-ok
returns-clause-ok c =
    let s = c.args.source.now in
    not_refused s c.in_ok-labels.ensures.0 c.in_ok-put_rows.ensures.0
    ∙ some_code s c.put_rows.new.out.items c.in_ok-labels.end (code_size c.forms_give_bytes.ensures.sized (rows_in s) (rows_in s)) c.in_ok-labels.ensures.1.1 c.if-size-eq0.false
    (c.in_ok-put_rows.ensures.1 ∙ ap (λ h. h ++ bytes_of (rows_in s) (rows_in s)) c.in_ok-out.ensures.ok)

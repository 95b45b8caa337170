use Rattle.std.proofs.Common.{◌≡◌, ◌≤◌, sym, ap, ◌∙◌, subst}
use Rattle.std.specs.Prelude.{Ok}
use Rattle.std.proofs.lemmas.Result.{err_from_is_err_and}
use Rattle.elf_read.specs.declared.limits.TheConstants.{HIGHEST_END}
use Rattle.elf_read.specs.Elf.{lowest, end_of_last, round_up, elf}
use Rattle.elf_read.proofs.Accepted.{accepted_exe}
use Rattle.elf_read.proofs.Parts.{last_bound}
use Rattle.elf_read.proofs.Result.{refused_early, refused_late, accepted_now, fields_now, the_exe}
use Rattle.elf_read.proofs.read.read_elf.Goals as goal

pub returns-in_err-table-clause-read : goal.returns-in_err-table-clause-read
returns-in_err-table-clause-read c =
    let p = err_from_is_err_and c.from_residual.result c.from_residual.ensures.1 in
    rw (p.1, p.2) (refused_early c.args.reach c.args.bytes.now _ c.in_err-table.ensures.refused)

pub returns-in_err-check_table-clause-read : goal.returns-in_err-check_table-clause-read
returns-in_err-check_table-clause-read c =
    let p = err_from_is_err_and c.from_residual-in_err-check_table.result c.from_residual-in_err-check_table.ensures.1 in
    rw (p.1, p.2) (refused_late c.args.reach c.args.bytes.now _ c.in_ok-table.ensures.refused c.in_err-check_table.ensures)

pub returns-in_err-segments-clause-read : goal.returns-in_err-segments-clause-read
returns-in_err-segments-clause-read c =
    let p = err_from_is_err_and c.from_residual-in_err-segments.result c.from_residual-in_err-segments.ensures.1 in
    rw (p.1, p.2) ((_, accepted_now c.args.reach c.args.bytes.now c.in_ok-table.ensures.refused c.in_ok-check_table.ensures))

pub heap_start-requires : goal.heap_start-requires
heap_start-requires c =
    let f = fields_now c.args.reach c.args.bytes.now c.in_ok-table.ensures.refused c.in_ok-check_table.ensures in
    subst (λ ss. end_of_last ss ≤ HIGHEST_END) (sym (c.deref.ensures.value ∙ c.in_ok-segments.ensures)) (last_bound (lowest c.args.reach) _ f.segments)

the_result : (c : goal.After-of) → elf c.args.reach c.args.bytes.now ≡ Ok (record { entry = c.word_at.result; segments = c.of.result; brk_start = c.heap_start.result })
the_result c = the_exe c.args.reach c.args.bytes.now c.word_at.result c.of.result c.heap_start.result c.in_ok-table.ensures.refused c.in_ok-check_table.ensures c.word_at.ensures
    (c.of.ensures ∙ c.in_ok-segments.ensures)
    (c.heap_start.ensures ∙ ap (λ ss. round_up (end_of_last ss)) (c.deref.ensures.value ∙ sym c.of.ensures))

pub returns-clause-read : goal.returns-clause-read
returns-clause-read c = the_result c

pub returns-clause-fields : goal.returns-clause-fields
returns-clause-fields c = accepted_exe c.args.reach c.args.bytes.now _ (the_result c)

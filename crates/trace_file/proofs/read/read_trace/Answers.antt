use Rattle.std.proofs.Common.{sym, ap, ◌∙◌, arith}
use Rattle.std.specs.Prelude.{Ok}
use Rattle.std.proofs.lemmas.Result.{err_from_is_err_and}
use Rattle.trace_file.specs.Trace.{records_of}
use Rattle.trace_file.proofs.Result.{refused_is, accepted_is, edges_of_file}
use Rattle.trace_file.proofs.read.read_trace.Goals as goal

pub returns-in_err-count : goal.returns-in_err-count
returns-in_err-count c =
    let p = err_from_is_err_and c.from_residual.result c.from_residual.ensures.1 in
    rw (p.1, p.2) (refused_is c.args.bytes.now c.args.digest.now _ c.in_err-count.ensures.refused)

pub returns-in_err-load_records : goal.returns-in_err-load_records
returns-in_err-load_records c =
    let p = err_from_is_err_and c.from_residual-in_err-load_records.result c.from_residual-in_err-load_records.ensures.1 in
    rw (p.1, p.2) (records_of c.args.bytes.now, accepted_is c.args.bytes.now c.args.digest.now c.in_ok-count.ensures.refused)

pub of_list-requires : goal.of_list-requires
of_list-requires c =
    let most = c.in_ok-count.ensures.most in
    let count = c.in_ok-count.ensures.count in
    edges_of_file c.args.bytes.now c.args.digest.now _ c.in_ok-count.ensures.refused (omega arith) c.in_ok-load_records.ensures

pub returns : goal.returns
returns c = accepted_is c.args.bytes.now c.args.digest.now c.in_ok-count.ensures.refused ∙ ap Ok (sym (c.of_list.ensures ∙ c.in_ok-load_records.ensures))

use Rattle.std.proofs.Common.{Err, ap, refl, sym, ◌∙◌, ◌≡◌, Some, None, get_or, arith, length}
use Rattle.std.proofs.lemmas.Result.{err_from_is_err_and}
use Rattle.ia_inst.specs.System.{filled}
use Rattle.guest_sys.proofs.PutBytes.{put_false, put_true}
use Rattle.guest_sys.proofs.DoneCalls.{answers_as, counts_as, bad_read, reads, read_faults, read_failed, faults_as, fill_reads}
use Rattle.guest_sys.proofs.calls.read.Goals as goal

pub returns-then-cpu-ne0 : goal.returns-then-cpu-ne0
returns-then-cpu-ne0 g c o e = answers_as _ _ _ _ _ _ o e _ c.answer.ensures.goes c.answer.ensures.eax (bad_read c.args.cpu.now c.args.m.now _ o e c.requires c.if-cpu-ne0.true)

pub returns-then-not-put : goal.returns-then-not-put
returns-then-not-put g c o e =
    let at = get_or c.args.cpu.now.regs 1 0 in
    let p = put_false (filled at c.deref.result.now c.args.m.now.regions) c.args.m.now c.put.new.m c.if-not-put.ensures in
    let none : filled at c.in_ok-bytes.bytes.items c.args.m.now.regions ≡ None = ap (λ t. filled at t c.args.m.now.regions) (sym c.deref.ensures.value) ∙ p.0 in
    faults_as _ _ _ _ _ _ _ o e c.denied.ensures p.1
    (read_faults c.args.cpu.now c.args.m.now _ _ o e _ _ c.requires c.if-cpu-ne0.false c.wanted-most.ensures c.in_ok-bytes.ensures none)

pub returns : goal.returns
returns g c o e =
    let at = get_or c.args.cpu.now.regs 1 0 in
    let p = put_true (filled at c.deref.result.now c.args.m.now.regions) c.args.m.now c.put.new.m c.if-not-put.ensures in
    let some : filled at c.in_ok-bytes.bytes.items c.args.m.now.regions ≡ Some p.0 = ap (λ t. filled at t c.args.m.now.regions) (sym c.deref.ensures.value) ∙ p.1 in
    let count : c.len.result ≡ length c.in_ok-bytes.bytes.items = omega arith in
    counts_as c.answer-2.result c.args.cpu.now c.answer-2.new.cpu c.put.new.m _ _ o e c.len.result (length c.in_ok-bytes.bytes.items) c.answer-2.ensures.goes c.answer-2.ensures.eax count
    (reads c.args.cpu.now c.args.m.now c.put.new.m _ _ o e _ c.in_ok-bytes.bytes.items c.requires c.if-cpu-ne0.false c.wanted-most.ensures c.in_ok-bytes.ensures p.0 some p.2)

pub returns-in_err-bytes : goal.returns-in_err-bytes
returns-in_err-bytes g c o e =
    let p = err_from_is_err_and c.from_residual-in_err-bytes.result c.from_residual-in_err-bytes.ensures.1 in
    read_failed _ c.args.cpu.now c.args.m.now _ _ o e _ _ c.requires c.if-cpu-ne0.false c.wanted-most.ensures c.in_err-bytes.ensures (p.1 ∙ ap Err p.2)

pub returns-then-can_write : goal.returns-then-can_write
returns-then-can_write g c o e =
    fill_reads c.answer-then-can_write.result c.args.cpu.now c.answer-then-can_write.new.cpu c.args.m.now c.fill.new.m _ _ o e c.in_ok-count.count c.in_ok-count.count c.requires c.if-cpu-ne0.false
    (sym c.if-can_write.ensures) c.in_ok-count.ensures c.answer-then-can_write.ensures.goes c.answer-then-can_write.ensures.eax refl

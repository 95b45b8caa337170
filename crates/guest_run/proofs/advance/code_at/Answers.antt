use Rattle.std.proofs.Common.{◌≡◌, None}
use Rattle.br_word.specs.Memory.{Runs, bytes_at}
use Rattle.guest_run.proofs.FetchedCode.{code_found, code_unread, code_inst}
use Rattle.guest_run.proofs.advance.code_at.Goals as goal

pub returns-in-None : goal.returns-in-None
returns-in-None c =
    let o = bytes_at Runs c.args.at 1 c.args.memory.now.regions in
    let some : o ≡ None → ⊥ = λ e. c.if-count-eq0.false (c.fetch-count.ensures.none.1 e) in
    code_unread o (code_found c.fifteen_bytes_decide.ensures o _ _ _ None c.fetch-count.ensures.count c.fetch-count.ensures.bytes some c.in-None.ensures.listed)

pub returns-in-Some : goal.returns-in-Some
returns-in-Some c =
    let o = bytes_at Runs c.args.at 1 c.args.memory.now.regions in
    let some : o ≡ None → ⊥ = λ e. c.if-count-eq0.false (c.fetch-count.ensures.none.1 e) in
    code_inst o c.in-Some.inst c.in-Some.len c.in-Some.ensures.valid (code_found c.fifteen_bytes_decide.ensures o _ _ _ _ c.fetch-count.ensures.count c.fetch-count.ensures.bytes some c.in-Some.ensures.listed)

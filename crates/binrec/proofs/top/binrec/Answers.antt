use Rattle.std.proofs.Common.{Err, map, string_bytes, refl, arith}
use Rattle.top_plan.specs.World.{world}
use Rattle.top_plan.specs.Happened.{Answered}
use Rattle.word_reader.specs.Reads.{asked_of}
use Rattle.binrec.proofs.WordsFit.{first_few}
use Rattle.binrec.proofs.TopClauses.{asked_for, not_asked, all_of}
use Rattle.binrec.proofs.top.binrec.Goals as goal

pub answer-requires-clause-first : goal.answer-requires-clause-first
answer-requires-clause-first g c = let few = first_few (map string_bytes c.args.words.now) in omega (arith, few, c.first_name-first.ensures)

pub returns-in-Ok : goal.returns-in-Ok
returns-in-Ok g c =
    let s = world (g.F.Shelf.seen c.args.shelf.now) (g.I.Source.seen c.args.input.now) (g.O.Sink.seen c.args.out.now) (g.R.Sink.seen c.args.report.now) in
    let t = world (g.F.Shelf.seen c.answer.new.shelf) (g.I.Source.seen c.answer.new.input) (g.O.Sink.seen c.answer.new.out) (g.R.Sink.seen c.answer.new.report) in
    let words = map string_bytes c.args.words.now in
    let a = all_of words s c.answer.result t
    (record {
      exact = c.plan_law.ensures.exact;
      complete = c.plan_law.ensures.complete;
      partial = c.plan_law.ensures.partial;
      never_one = c.plan_law.ensures.planned;
      cause = c.plan_law.ensures.cause;
      steady = c.plan_law.ensures.steady;
    })
    (record { build = c.build_law.ensures.orderly; run = c.run_law.ensures.orderly; trace = c.trace_law.ensures.orderly; merge = c.merge_law.ensures.orderly; show = c.show_law.ensures.orderly; demo = c.demo_law.ensures.orderly; session = c.session_law.ensures.orderly; asm = c.asm_command_law.ensures.orderly })
    (record { build = c.build_law.ensures.means; run = c.run_law.ensures.means; trace = c.trace_law.ensures.means; merge = c.merge_law.ensures.means; show = c.show_law.ensures.means; demo = c.demo_law.ensures.means; session = c.session_law.ensures.means; asm = c.asm_command_law.ensures.means })
    (asked_for (λ r. Answered r s c.answer.result t) words (asked_of c.in-Ok.command) c.first_name-first.result c.in-Ok.ensures.reads c.first_name-first.ensures c.answer.ensures) in
    record { happened = a.happened; exact = a.exact; complete = a.complete; partial = a.partial; cause = a.cause; steady = a.steady; usage = a.usage; build = a.build; run = a.run; trace = a.trace; merge = a.merge; show = a.show; demo = a.demo; session = a.session; asm = a.asm; spelled = c.build_law.ensures.spelled; only = c.build_law.ensures.only }

pub returns-in-Err : goal.returns-in-Err
returns-in-Err g c =
    let s = world (g.F.Shelf.seen c.args.shelf.now) (g.I.Source.seen c.args.input.now) (g.O.Sink.seen c.args.out.now) (g.R.Sink.seen c.args.report.now) in
    let t = world (g.F.Shelf.seen c.args.shelf.now) (g.I.Source.seen c.args.input.now) (g.O.Sink.seen c.args.out.now) (g.R.Sink.seen c.tell_usage.new.report) in
    let words = map string_bytes c.args.words.now in
    let a = all_of words s c.tell_usage.result t
    (record {
      exact = c.plan_law.ensures.exact;
      complete = c.plan_law.ensures.complete;
      partial = c.plan_law.ensures.partial;
      never_one = c.plan_law.ensures.planned;
      cause = c.plan_law.ensures.cause;
      steady = c.plan_law.ensures.steady;
    })
    (record { build = c.build_law.ensures.orderly; run = c.run_law.ensures.orderly; trace = c.trace_law.ensures.orderly; merge = c.merge_law.ensures.orderly; show = c.show_law.ensures.orderly; demo = c.demo_law.ensures.orderly; session = c.session_law.ensures.orderly; asm = c.asm_command_law.ensures.orderly })
    (record { build = c.build_law.ensures.means; run = c.run_law.ensures.means; trace = c.trace_law.ensures.means; merge = c.merge_law.ensures.means; show = c.show_law.ensures.means; demo = c.demo_law.ensures.means; session = c.session_law.ensures.means; asm = c.asm_command_law.ensures.means })
    (not_asked (λ r. Answered r s c.tell_usage.result t) words c.in-Err.word c.in-Err.ensures.reads (_, c.tell_usage.ensures, refl)) in
    record { happened = a.happened; exact = a.exact; complete = a.complete; partial = a.partial; cause = a.cause; steady = a.steady; usage = a.usage; build = a.build; run = a.run; trace = a.trace; merge = a.merge; show = a.show; demo = a.demo; session = a.session; asm = a.asm; spelled = c.build_law.ensures.spelled; only = c.build_law.ensures.only }

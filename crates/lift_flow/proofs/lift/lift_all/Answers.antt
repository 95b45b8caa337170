use Rattle.std.proofs.Common.{◌<◌, ◌+◌, ◌≤◌, length, arith}
use Rattle.block_cut.specs.Blocks.{block_of}
use Rattle.lift_flow.proofs.Lifting.{goes_on, stands_there}
use Rattle.lift_flow.proofs.lift.lift_all.Goals as goal

pub returns-in_default-clause-lines : goal.returns-in_default-clause-lines
returns-in_default-clause-lines c =
    let is = (block_of c.args.exe.now c.args.start).insts in
    let l : c.loop-done.done < length is = omega arith in
    absurd (stands_there c.args.exe.now c.loop-done.at c.loop-done.done is l c.in_default.ensures.inst c.loop-done.invariant.stand)

pub loop-done-preserved : goal.loop-done-preserved
loop-done-preserved c =
    let is = (block_of c.args.exe.now c.args.start).insts in
    let here = c.in-Some.here in
    let l : c.loop-done.done < length is = omega arith in
    let left = goes_on c.args.exe.now c.loop-done.at c.loop-done.done is c.loop-done.block c.lift_inst.new.block _ here.inst here.len l c.in-Some.ensures.inst c.in_ok-lift_inst.ensures.lines c.loop-done.invariant.rest c.loop-done.invariant.stand in
    let few : length c.lift_inst.new.block.lines ≤ length c.loop-done.block.lines + 32 = c.lift_inst.ensures.few in
    record {
      rest = left.rest;
      stand = left.stand;
      few = omega arith;
      whole = c.lift_inst.ensures.whole c.loop-done.invariant.whole;
      words = c.lift_inst.ensures.words c.in-Some.ensures.valid c.loop-done.invariant.words;
    }

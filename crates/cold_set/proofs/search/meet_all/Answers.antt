use Rattle.std.proofs.Common.{arith}
use Rattle.flow_graph.specs.Graph.{starts_in}
use Rattle.cold_set.specs.Meets.{ways_in}
use Rattle.cold_set.proofs.Leading.{none_left}
use Rattle.cold_set.proofs.Meeting.{begun, onward_as, ended}
use Rattle.cold_set.proofs.search.meet_all.Goals as goal

pub loop-address-init : goal.loop-address-init
loop-address-init c = record {
  few = c.requires.few;
  pending = begun c.args.exe.now (starts_in c.args.graph.now.nodes) c.args.found.now.keys c.args.todo.now.items c.requires.guest c.requires.met;
}

pub returns-then-len-clause-many : goal.returns-then-len-clause-many
returns-then-len-clause-many c = λ _.
    let p = onward_as c.args.exe.now (starts_in c.args.graph.now.nodes) c.in-Some.address (ways_in c.cold_ways-ways.result) c.loop-address.found.keys c.loop-address.todo.items c.pop.new.self.items c.meet_ways.new.found.keys c.meet_ways.new.todo.items c.requires.guest c.in-Some.ensures.items c.cold_ways-ways.ensures c.loop-address.invariant.pending c.in_ok-meet_ways.ensures in
    record { ordered = c.len.ensures.ordered; many = omega (arith, c.if-len.true, c.len.ensures.len); sound = p.sound }

pub loop-address-preserved : goal.loop-address-preserved
loop-address-preserved c = record {
  few = omega (arith, c.if-len.false, c.len.ensures.len);
  pending = onward_as c.args.exe.now (starts_in c.args.graph.now.nodes) c.in-Some.address (ways_in c.cold_ways-ways.result) c.loop-address.found.keys c.loop-address.todo.items c.pop.new.self.items c.meet_ways.new.found.keys c.meet_ways.new.todo.items c.requires.guest c.in-Some.ensures.items c.cold_ways-ways.ensures c.loop-address.invariant.pending c.in_ok-meet_ways.ensures;
}

pub returns-clause-all : goal.returns-clause-all
returns-clause-all c =
    ended c.args.exe.now (starts_in c.args.graph.now.nodes) c.loop-address.found.keys c.loop-address.todo.items c.requires.guest (none_left c.loop-address.todo.items (omega (arith, c.in_default.ensures.cases.0))) c.loop-address.invariant.pending

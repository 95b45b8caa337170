use Rattle.std.proofs.Common.{◌+◌, ◌<◌, length, ap, ◌∙◌, arith}
use Rattle.flow_graph.specs.Graph.{starts_in}
use Rattle.std.proofs.lemmas.List.{length-map}
use Rattle.flow_graph.specs.Graph.{Node}
use Rattle.cold_set.specs.ColdStarts.{leaves}
use Rattle.cold_set.specs.Meets.{ways_in}
use Rattle.cold_set.proofs.Leading.{start_is}
use Rattle.cold_set.proofs.Meeting.{first_met, next_met, many_roots}
use Rattle.cold_set.proofs.search.meet_roots.Goals as goal

pub loop-index-init : goal.loop-index-init
loop-index-init c =
    let m = first_met c.args.exe.now (starts_in c.args.graph.now.nodes) c.args.found.now.keys c.args.todo.now.items c.meet.new.found.keys c.meet.new.todo.items c.requires.none c.requires.nothing c.in_ok-meet.ensures in
    record { few = omega (arith, m.few); met = m }

pub returns-then-len-clause-many : goal.returns-then-len-clause-many
returns-then-len-clause-many c = λ _.
    let nodes = c.args.graph.now.nodes in
    let l : c.loop-index.index < length nodes = omega (arith, c.loop-index-test.true, c.len-index-end.ensures.value) in
    let s : c.loop-index.index < length (starts_in nodes) = omega (arith, l, length-map nodes (λ (b : Node). b.start)) in
    let m = next_met c.args.exe.now (starts_in nodes) c.loop-index.index (ways_in c.block_ways-ways.result) c.loop-index.found.keys c.loop-index.todo.items c.meet_ways.new.found.keys c.meet_ways.new.todo.items s (c.block_ways-ways.ensures ∙ ap (leaves c.args.exe.now) (c.start-start.ensures ∙ start_is nodes c.loop-index.index l)) c.loop-index.invariant.met c.in_ok-meet_ways.ensures in
    many_roots c.args.exe.now (starts_in nodes) (c.loop-index.index + 1) c.meet_ways.new.found c.meet_ways.new.todo.items c.requires.guest c.len.ensures.ordered (omega (arith, c.if-len.true, c.len.ensures.len)) m

pub loop-index-preserved : goal.loop-index-preserved
loop-index-preserved c =
    let nodes = c.args.graph.now.nodes in
    let l : c.loop-index.index < length nodes = omega (arith, c.loop-index-test.true, c.len-index-end.ensures.value) in
    let s : c.loop-index.index < length (starts_in nodes) = omega (arith, l, length-map nodes (λ (b : Node). b.start)) in
    record {
      few = omega (arith, c.if-len.false, c.len.ensures.len);
      met = next_met c.args.exe.now (starts_in nodes) c.loop-index.index (ways_in c.block_ways-ways.result) c.loop-index.found.keys c.loop-index.todo.items c.meet_ways.new.found.keys c.meet_ways.new.todo.items s (c.block_ways-ways.ensures ∙ ap (leaves c.args.exe.now) (c.start-start.ensures ∙ start_is nodes c.loop-index.index l)) c.loop-index.invariant.met c.in_ok-meet_ways.ensures;
    }

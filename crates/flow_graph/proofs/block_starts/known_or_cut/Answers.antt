use Rattle.std.proofs.Common.{refl, arith}
use Rattle.flow_graph.proofs.KnownCuts.{known_at}
use Rattle.flow_graph.proofs.block_starts.known_or_cut.Goals as goal

pub offset_bounds-known-index : goal.offset_bounds-known-index
offset_bounds-known-index c = let here = ((c.in-Some.ensures c.in-Some.index).0 refl).0 in omega arith

pub bounds-known-index : goal.bounds-known-index
bounds-known-index c = ((c.in-Some.ensures c.in-Some.index).0 refl).0

pub returns-in-Some : goal.returns-in-Some
returns-in-Some c =
    let h = (c.in-Some.ensures c.in-Some.index).0 refl in
    known_at c.args.exe.now c.args.known.now c.in-Some.index c.args.start _ c.requires.known h.0 h.1

use Rattle.std.proofs.Common.{refl, sym, ◌∙◌, inl, inr, arith}
use Rattle.tracer.proofs.EdgeSets.{HasRoom, record_full, record_done, record_wants}
use Rattle.tracer.proofs.recorder.Recorder.add.Goals.{in-Ok, in-Err, else-len-ge-MOST-via-then-len-ge-MOST+else-not-contains, else-len-ge-MOST-via-else-len-ge-MOST}
use Rattle.tracer.proofs.recorder.Recorder.add.Goals as goal

pub returns-then-not-contains : goal.returns-then-not-contains
returns-then-not-contains c = rw (← c.self.view_is) (record_full c.args.edge c.self.inside.edges.keys (omega (arith, c.if-len-ge-MOST.true, c.len.ensures.len)) (sym c.contains.ensures ∙ c.if-not-contains.true), refl)

pub returns : goal.returns
returns c =
    let room : HasRoom c.args.edge c.self.inside.edges.keys = elim c.else-len-ge-MOST.branch [
      | else-len-ge-MOST-via-then-len-ge-MOST+else-not-contains w ↦ inr (sym w.contains.ensures ∙ w.if-not-contains.false)
      | else-len-ge-MOST-via-else-len-ge-MOST w ↦ inl (omega (arith, w.if-len-ge-MOST.false, c.len.ensures.len))
    ] in
    rw (← c.self.view_is) (elim c.match-insert.branch [
      | in-Ok w ↦ rw w.result-is (record_done c.args.edge c.self.inside.edges.keys c.insert.new.self.keys w.in-Ok.field-0 c.self.invariant room w.in-Ok.ensures.added w.in-Ok.ensures.len w.in-Ok.ensures.keys)
      | in-Err w ↦ rw w.result-is (record_wants c.args.edge c.self.inside.edges.keys c.insert.new.self.keys room w.in-Err.ensures.absent w.in-Err.ensures.err)
    ])

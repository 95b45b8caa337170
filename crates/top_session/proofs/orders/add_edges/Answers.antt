use Rattle.session_core.specs.Session.{traces_in}
use Rattle.top_session.proofs.Checked.{adds, too_many, too_long, not_spent}
use Rattle.top_session.proofs.orders.add_edges.Goals as goal

pub returns-in-Ok-clause-adds : goal.returns-in-Ok-clause-adds
returns-in-Ok-clause-adds c = (adds _ _ _ c.in-Ok.ensures.adds.0 c.in-Ok.ensures.adds.2, c.in-Ok.ensures.rest, c.in-Ok.ensures.adds.1)

pub returns-in-Err-Traces-clause-adds : goal.returns-in-Err-Traces-clause-adds
returns-in-Err-Traces-clause-adds c = too_many (traces_in c.args.session.now) (traces_in c.add.new.self) c.args.edges.now c.in-Err-Traces.field-0 c.in-Err-Traces.field-0-is c.in-Err-Traces.ensures.adds

pub returns-in-Err-Edges-clause-adds : goal.returns-in-Err-Edges-clause-adds
returns-in-Err-Edges-clause-adds c = too_long (traces_in c.args.session.now) (traces_in c.add.new.self) c.args.edges.now c.in-Err-Edges.field-0 c.in-Err-Edges.field-0-is c.in-Err-Edges.ensures.adds

pub unreachable-requires : goal.unreachable-requires
unreachable-requires c = not_spent (traces_in c.args.session.now) (traces_in c.add.new.self) c.args.edges.now c.in-Err-Spent.field-0 c.requires c.in-Err-Spent.field-0-is c.in-Err-Spent.ensures.adds

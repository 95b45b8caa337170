use Rattle.top_demo.proofs.Fits.{fits}
use Rattle.top_demo.proofs.law.demo_fits.Goals as goal

pub returns : goal.returns
returns c = fits (record {
  accepted = c.demo_accepted.ensures;
  runs = c.demo_runs.ensures;
  graphs = c.demo_graph.ensures;
  sets = c.sets_hold.ensures;
  code = c.code_short.ensures;
  image = c.image_law.ensures.preserves;
})

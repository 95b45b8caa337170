use Rattle.sim_runs.proofs.Coding.{body_allowed, whole_out}
use Rattle.sim_runs.proofs.fragments.coding_gives.Goals as goal

pub returns : goal.returns
returns c = λ home on b exits k serves p q m small bytes allowed homes. record {
  allowed = body_allowed home on b exits k serves p q m small bytes allowed homes;
  outs = λ u v l. whole_out home on b exits k serves p q m small bytes allowed homes u v l;
}

use Rattle.sim_runs.proofs.Joined.{Below, moves_on, keeps_on}
use Rattle.sim_runs.proofs.law.fragment_step.Goals as goal

pub returns : goal.returns
returns c =
    let below : Below = record {
      stays = c.stays_in_code.ensures.run;
      steps = c.stays_in_code.ensures.step;
      wider = c.runs_wider.ensures;
      by_kind = c.goes_by_kind.ensures;
      leaves = c.leaves_by_known.ensures.leaves;
      native = c.leaves_by_known.ensures.native;
      one = c.one_block.ensures;
      graph = c.one_graph.ensures;
      bytes = c.encoding_length.ensures;
      means = c.block_means.ensures;
      quiet = c.blocks_are_quiet.ensures;
    } in
    record {
      relate = λ e exe edges further file k ok laws. moves_on below e exe ok edges further file k laws;
      stays = λ e exe edges further file k ok laws. keeps_on below e exe ok edges further file k laws;
    }

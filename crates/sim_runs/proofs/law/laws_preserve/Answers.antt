use Rattle.sim_runs.proofs.Joined.{Below, preserves, covers, reaches_within}
use Rattle.sim_runs.proofs.law.laws_preserve.Goals as goal

pub returns : goal.returns
returns c =
    let below : Below = record {
      stays = c.stays_in_code.ensures.run;
      steps = c.stays_in_code.ensures.step;
      wider = c.runs_wider.ensures;
      by_kind = c.goes_by_kind.ensures;
      leaves = c.leaves_by_known.ensures.leaves;
      native = c.leaves_by_known.ensures.native;
      one = c.one_block.ensures;
      graph = c.one_graph.ensures;
      bytes = c.encoding_length.ensures;
      means = c.block_means.ensures;
      quiet = c.blocks_are_quiet.ensures;
    } in
    record {
      both = λ e exe edges further file k ok laws. (preserves below e exe ok edges further file k laws, covers below e exe ok edges further file k laws);
      within = λ e exe edges further file k ok laws. reaches_within below e exe ok edges further file k laws;
    }

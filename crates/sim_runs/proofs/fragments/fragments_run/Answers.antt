use Rattle.sim_runs.proofs.Linked.{Encodes, fragments_run}
use Rattle.sim_runs.proofs.fragments.fragments_run.Goals as goal

pub returns : goal.returns
returns c =
    let laws : Encodes = record {
      stand = c.items_stand.ensures;
      reread = c.round_trip.ensures;
      length_of = c.encoding_length.ensures;
      jcc = c.direct_lengths.ensures.jcc;
      jmp = c.direct_lengths.ensures.jmp;
    } in
    fragments_run laws

use Rattle.br_word.specs.Memory.{Region}
use Rattle.par_moves.specs.Homes.{register_homes}
use Rattle.code_laws.specs.Seen.{IsCode}
use Rattle.piece_laws.proofs.Steps.{Below}
use Rattle.piece_laws.proofs.Whole.{pieces_run}
use Rattle.piece_laws.proofs.laws.pieces_do.Goals as goal

pub returns : goal.returns
returns c = λ exe edges k x choice exits dest home serves suits live goes p t a runs.
    let below : (code : Region) → IsCode code → Below code = λ code here. record {
      lines = λ limit home place last laid. c.lines_hold.ensures code limit home place last here laid;
      settle = λ limit home place laid apart. c.moves_settle.ensures.settled code limit home place here laid apart;
      apart = c.homes_serve.ensures.moves;
      homes = c.places_lie.ensures.homes;
      template = λ s a to cs h. c.template_means.ensures code s a to cs here h;
      tests = λ s a to cs h. c.tests_mean.ensures code s a to cs here h;
      jumps = λ dest. c.jumps_lead.ensures code dest here;
      exchange = λ dest s a cs h f. c.exchange_keeps.ensures code register_homes dest here c.code_valid.ensures.homes s a cs h f;
      valid = c.read_is_valid.ensures;
      stores = c.memory_of_bytes.ensures.store;
    } in
    pieces_run exe edges k x choice exits dest home (below k.code home.here) c.coding_gives.ensures serves suits live goes p t a runs

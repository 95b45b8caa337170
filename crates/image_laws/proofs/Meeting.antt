-- All that the simulation asks for.
use Rattle.std.proofs.Common.{length, ap, arith}
use Rattle.code_layout.specs.Image.{image}
use Rattle.sim_runs.specs.Pieces.{FragmentsRun}
use Rattle.image_laws.specs.Coded.{coded_of, coding_at}
use Rattle.image_laws.specs.Stands.{CodeStands}
use Rattle.image_laws.specs.Serves.{CodingsServe}
use Rattle.image_laws.specs.Laid.{ImagesLaid, ImagesHold}
use Rattle.image_laws.specs.Exchanged.{StatesExchanged}
use Rattle.image_laws.specs.Law.{ImagesMeet, ImagesMade}
use Rattle.image_laws.proofs.NoCopies.{no_copies, none_further}

pub record Parts : Type 0 where
  pub stands : CodeStands
  pub serve : CodingsServe
  pub laid : ImagesLaid
  pub hold : ImagesHold
  pub exchanged : StatesExchanged

pub images_meet : Parts → ImagesMeet
images_meet parts exe edges plain original bytes room few runs =
    let long = parts.hold exe edges in
    record {
      plain = plain;
      turn = 0;
      opening = 31;
      closing = 17;
      top = 17;
      coding = coding_at exe edges;
      serves = parts.serve exe edges (coded_of exe edges) bytes (parts.stands.built exe edges room).registers;
      fragment = runs;
      exchange = parts.exchanged exe edges original room;
      copies = no_copies exe edges;
      met = none_further exe edges;
      laid = parts.laid exe edges original room;
      high = length (image exe edges);
      plain_bound = omega (arith, few);
      island_bound = omega (arith, long);
      high_bound = omega arith;
      top_bound = omega (arith, long);
    }

pub images_made : Parts → FragmentsRun → ImagesMade
images_made parts run exe edges original bytes room made =
    let long = parts.hold exe edges in
    let size = ap length (parts.stands.bytes exe edges) in
    images_meet parts exe edges (length (coded_of exe edges).code.bytes) original bytes room (omega (arith, long, size)) (run.by_length exe edges (coded_of exe edges) (coding_at exe edges) made)

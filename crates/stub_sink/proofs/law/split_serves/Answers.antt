use Rattle.stub_sink.proofs.Serves.{split_holds}
use Rattle.stub_sink.proofs.Listing.{is_listed}
use Rattle.stub_sink.proofs.law.split_serves.Goals as goal

pub returns : goal.returns
returns c = record { serves = λ b on live unknown whole feeds. split_holds c.needed_is_least.ensures b on live unknown whole feeds; listed = is_listed }

use Rattle.std.proofs.Common.{refl}
use Rattle.ia_inst.specs.Meaning.{no_changes}
use Rattle.ia_meaning.proofs.finish.finish_plain.Goals as goal

pub returns : goal.returns
returns c k = c.finish.ensures (record { value = c.args.v; changes = no_changes }) k refl c.kept.ensures

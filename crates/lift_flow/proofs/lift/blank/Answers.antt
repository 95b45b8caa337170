use Rattle.std.proofs.Common.{subst, sym}
use Rattle.ssa_form.specs.Same.{AllOnWords}
use Rattle.lift_flow.proofs.Lifting.{blank_words}
use Rattle.lift_flow.proofs.lift.blank.Goals as goal

pub returns-clause-words : goal.returns-clause-words
returns-clause-words c = record {
  lines = subst AllOnWords (sym c.new.ensures) tt;
  outs = (blank_words c.args.start).outs;
}

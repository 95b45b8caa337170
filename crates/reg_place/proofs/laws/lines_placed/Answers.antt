use Rattle.reg_place.proofs.Placed.{are_placed, none_lost, each_placed, are_entries}
use Rattle.reg_place.proofs.laws.lines_placed.Goals as goal

pub returns : goal.returns
returns c = record { first = λ b s split few. are_placed b s split; lost = λ b s split few. none_lost b s split; each = λ b s split few. each_placed b s split; entries = are_entries }

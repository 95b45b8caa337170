use Rattle.std.proofs.Common.{◌≡◌, length}
use Rattle.ia_inst.specs.declared.prefixes.Prefixes.TheVariants.{Bare}
use Rattle.ia_inst.specs.Prefixes.{prefixes_at}
use Rattle.ia_decode.proofs.prefixes.read_prefixes.Given as goal

abbrev pub invariant-loop-rest : goal.invariant-loop-rest
invariant-loop-rest l = prefixes_at l.found l.rest ≡ prefixes_at Bare l.bytes

abbrev pub decreases-loop-rest : goal.decreases-loop-rest
decreases-loop-rest l = length l.rest

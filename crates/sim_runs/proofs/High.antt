-- The original's memory stays at or above an address.
use Rattle.std.proofs.Common.{[], refl}
use Rattle.br_word.specs.State.{State}
use Rattle.ia_inst.specs.Step.{step, IsWellDefined}
use Rattle.sim_laws.specs.Wider.{IsHigh, RunsWider}

pub high_on : RunsWider → (s : State) → IsHigh 0x08000000 s → IsWellDefined s → IsHigh 0x08000000 (step s 0)
high_on wider s h f = (wider 0x08000000 [] 1 s s.cpu.flags [] tt h (record { cf = λ _. refl; pf = λ _. refl; zf = λ _. refl; sf = λ _. refl; of = λ _. refl }) (f, tt)).high

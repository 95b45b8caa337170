-- A file without copies: nothing is asked of them, and no further edges count.
use Rattle.std.proofs.Common.{◌≡◌, true, false, List, [], Contains, refl, arith}
use Rattle.elf_read.specs.declared.exe.Exe.{Exe}
use Rattle.run_model.specs.Edges.{Edge}
use Rattle.sim_runs.specs.Laws.{CopyLaws}
use Rattle.sim_runs.specs.Recovered.{plan_of}
use Rattle.sim_runs.specs.Promised.{IsOf, Further}
use Rattle.image_laws.specs.Coded.{coded_of}

no_copy : {X : Type 0} → false ≡ true → X
no_copy e = cc

pub no_copies : (exe : Exe) (edges : List Edge) → CopyLaws (plan_of exe edges (coded_of exe edges)) (IsOf exe) 0
no_copies exe edges = record {
  turns = λ x k s t cs h f static. no_copy h.cold;
  first = λ x c l. no_copy c;
  empty = λ x s c z h r e f. no_copy c;
  beyond = λ x s t cs start plain u far h r p. absurd (far refl);
}

no_edge : (e : Edge) → Contains [] e → ⊥
no_edge e c = let l = c.1 in absurd (omega (arith, l))

pub none_further : (exe : Exe) (edges : List Edge) → Further exe [] (plan_of exe edges (coded_of exe edges))
none_further exe edges = record {
  met = λ e c. absurd (no_edge e c);
  apart = λ x y start end u near c. absurd (no_edge _ c);
}

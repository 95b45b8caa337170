-- Where copies stand, and what stands around them.
use Rattle.std.specs.Prelude.{ℕ, Bool}
use Rattle.ia_encode.specs.declared.item.Dest.TheVariants as dests
use Rattle.sim_runs.specs.Relation.{Plan}
use Rattle.cold_code.specs.Copies.{Around}

-- the starts of copies, the place of instruction k of one (of its transfer: of the code that stands for it), and the dispatcher
pub record Copies : Type 0 where
  pub cold : ℕ → Bool
  pub place : ℕ → ℕ → ℕ
  pub turn : ℕ

-- blocks, copies, and by 0 the dispatcher are each named as a block is
abbrev pub around : Plan → Copies → Around
around plan copies = record { is_start = plan.is_start; is_cold = copies.cold; to = dests.Block }

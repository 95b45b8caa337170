-- What a step uses of the input.
use Rattle.std.specs.Prelude.{◌≡◌, ℕ, ◌+◌, ◌≤◌, length, drop}
use Rattle.br_word.specs.State.{State, Running}
use Rattle.ia_inst.specs.Step.{step}
use Rattle.guest_run.specs.Guest.{asks_next, ahead}

-- A step from s to t uses the first bytes of the input, and all that it asks for and that are there, but for the bytes that
-- it may take beyond what t has left.
pub record UsesInput (s t : State) : Type 0 where
  pub used : ℕ
  pub rest : t.input ≡ drop used s.input
  pub most : length t.input ≤ length (drop (asks_next s) s.input) + ahead t

-- so does each step of a guest that runs
abbrev pub StepsUseInput : Type 0
StepsUseInput = (s : State) (c : ℕ) → s.stop ≡ Running → UsesInput s (step s c)

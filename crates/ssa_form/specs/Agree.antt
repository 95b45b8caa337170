-- When the numbers of virtual registers are those of a processor.
use Rattle.std.specs.Prelude.{◌≡◌, ℕ, ◌<◌, Bool, true, get_or}
use Rattle.br_word.specs.Words.{bit}
use Rattle.br_word.specs.State.{Processor, Flag, CF, PF, ZF, SF, OF, flag_of}

-- the virtual register of a flag
abbrev pub number : Flag → ℕ
number CF = 8
number PF = 9
number ZF = 10
number SF = 11
number OF = 12

-- at the virtual registers that are on: a flag counts only where it is marked as defined
pub record AgreesOn (on : ℕ → Bool) (u : Processor) (p : ℕ → ℕ) : Type 0 where
  pub regs : (r : ℕ) → r < 8 → on r ≡ true → p r ≡ get_or u.regs r 0
  pub flags : (f : Flag) → on (number f) ≡ true → flag_of f u.marks ≡ true → p (number f) ≡ bit (flag_of f u.flags)
  pub df : on 13 ≡ true → p 13 ≡ bit u.df

-- each flag is 0 or 1, also where it is not defined
pub record AreBits (p : ℕ → ℕ) : Type 0 where
  pub flags : (f : Flag) → p (number f) < 2
  pub df : p 13 < 2

abbrev pub every : ℕ → Bool
every v = true

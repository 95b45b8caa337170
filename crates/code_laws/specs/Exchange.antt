-- What the exchange of state does, in cells.
use Rattle.std.specs.Prelude.{◌≡◌, ℕ, ◌<◌, ◌≤◌, List, true}
use Rattle.br_word.specs.Words.{bit}
use Rattle.br_word.specs.State.{all_flags}
use Rattle.par_moves.specs.declared.locations.Place.TheVariants.{Reg, Slot}
use Rattle.par_moves.specs.declared.homes.RegisterHome.{RegisterHome}
use Rattle.par_moves.specs.Homes.{home_in, NoRegister}
use Rattle.code_laws.specs.Seen.{Cells}

abbrev pub Homes : Type 0
Homes = List RegisterHome

-- the slot of each flag holds 0 or 1
pub record FlagsHeld (a : Cells) : Type 0 where
  pub cf : a.cell (Slot 8) < 2
  pub pf : a.cell (Slot 9) < 2
  pub zf : a.cell (Slot 10) < 2
  pub sf : a.cell (Slot 11) < 2
  pub of : a.cell (Slot 12) < 2
  pub df : a.cell (Slot 13) < 2

-- what neither sequence changes
pub record Besides (a b : Cells) : Type 0 where
  pub outer : b.outer ≡ a.outer
  pub seen : b.seen ≡ a.seen
  pub brk_start : b.brk_start ≡ a.brk_start
  pub brk : b.brk ≡ a.brk

-- after CAPTURE: slots and homes hold the registers and flags of before
pub record Captured (homes : Homes) (a b : Cells) : Type 0 where
  pub registers : (v : ℕ) → v < 8 → b.cell (Slot v) ≡ a.cell (Reg v)
  pub homed : (v : ℕ) → v < 8 → b.cell (home_in homes v) ≡ a.cell (Reg v)
  pub cf : b.cell (Slot 8) ≡ bit a.flags.cf
  pub pf : b.cell (Slot 9) ≡ bit a.flags.pf
  pub zf : b.cell (Slot 10) ≡ bit a.flags.zf
  pub sf : b.cell (Slot 11) ≡ bit a.flags.sf
  pub of : b.cell (Slot 12) ≡ bit a.flags.of
  pub others : (k : ℕ) → 13 ≤ k → b.cell (Slot k) ≡ a.cell (Slot k)
  pub kept : (r : ℕ) → NoRegister r homes → b.cell (Reg r) ≡ a.cell (Reg r)
  pub flags : b.flags ≡ a.flags
  pub marks : b.marks ≡ a.marks
  pub df : b.df ≡ a.df
  pub besides : Besides a b

-- after RESTORE: registers, flags and DF are the slots', and every flag is defined
pub record Restored (a b : Cells) : Type 0 where
  pub registers : (v : ℕ) → v < 8 → b.cell (Reg v) ≡ a.cell (Slot v)
  pub cf : bit b.flags.cf ≡ a.cell (Slot 8)
  pub pf : bit b.flags.pf ≡ a.cell (Slot 9)
  pub zf : bit b.flags.zf ≡ a.cell (Slot 10)
  pub sf : bit b.flags.sf ≡ a.cell (Slot 11)
  pub of : bit b.flags.of ≡ a.cell (Slot 12)
  pub df : bit b.df ≡ a.cell (Slot 13)
  pub marks : b.marks ≡ all_flags true
  pub slots : (k : ℕ) → b.cell (Slot k) ≡ a.cell (Slot k)
  pub besides : Besides a b

-- after SPILL and RESTORE: registers are the homes'
pub record Opened (homes : Homes) (a b : Cells) : Type 0 where
  pub registers : (v : ℕ) → v < 8 → b.cell (Reg v) ≡ a.cell (home_in homes v)
  pub cf : bit b.flags.cf ≡ a.cell (Slot 8)
  pub pf : bit b.flags.pf ≡ a.cell (Slot 9)
  pub zf : bit b.flags.zf ≡ a.cell (Slot 10)
  pub sf : bit b.flags.sf ≡ a.cell (Slot 11)
  pub of : bit b.flags.of ≡ a.cell (Slot 12)
  pub df : bit b.df ≡ a.cell (Slot 13)
  pub marks : b.marks ≡ all_flags true
  pub homed : (v : ℕ) → v < 8 → b.cell (Slot v) ≡ a.cell (home_in homes v)
  pub others : (k : ℕ) → 8 ≤ k → b.cell (Slot k) ≡ a.cell (Slot k)
  pub besides : Besides a b

-- Where transfers lead: a direct one to its targets, an indirect one to any address.
use Rattle.std.specs.Prelude.{ℕ, ◌+◌, ◌==◌, ◌||◌, Bool, true, false, List, [], ◌∷◌}
use Rattle.elf_read.specs.declared.exe.Exe.{Exe}
use Rattle.ia_inst.specs.declared.inst.Inst.{Inst}
use Rattle.ia_inst.specs.declared.inst.Inst.TheVariants.{Jcc, Jmp, JmpRm, Call, CallRm, Ret}
use Rattle.ia_inst.specs.Meaning.{wrap}
use Rattle.ia_inst.specs.Step.{Found, NoCode, NoInst, There}
use Rattle.block_cut.specs.Places.{found_at}

-- the targets of an instruction of n bytes at an address: none, where it is no direct transfer
abbrev pub direct_targets : Inst → ℕ → ℕ → List ℕ
direct_targets (Jcc c rel) n at = wrap (at + n + rel) ∷ wrap (at + n) ∷ []
direct_targets (Jmp rel) n at = wrap (at + n + rel) ∷ []
direct_targets (Call rel) n at = wrap (at + n + rel) ∷ []
direct_targets _ n at = []

-- an indirect transfer: a jump or a call by a register or memory, or a return
abbrev pub is_indirect : Inst → Bool
is_indirect (JmpRm a) = true
is_indirect (CallRm a) = true
is_indirect (Ret pop) = true
is_indirect _ = false

-- a number is in a list
abbrev pub is_among : List ℕ → ℕ → Bool
is_among [] x = false
is_among (y ∷ ys) x = x == y || is_among ys x

-- what is found at the site is a transfer that may lead to the target
abbrev pub leads_by : Found → ℕ → ℕ → Bool
leads_by NoCode site target = false
leads_by NoInst site target = false
leads_by (There i n) site target = is_indirect i || is_among (direct_targets i n site) target

-- a transfer stands at the site, and may lead to the target
abbrev pub leads_to : Exe → ℕ → ℕ → Bool
leads_to exe site target = leads_by (found_at exe site) site target

-- Registers stay registers where operands are read and written.
use Rattle.std.proofs.Common.{ℕ, zero, suc, ◌+◌, ◌-◌, ◌*◌, ◌/◌, ◌%◌, ◌^◌, ◌<◌, Bool, true, false, ◌==◌, List, [], ◌∷◌, get_or, set, ◌∙◌, arith}
use Rattle.std.specs.Prelude.{nat_lt, if◌then◌else◌}
use Rattle.std.proofs.Math.ListN.{length-set}
use Rattle.br_word.specs.declared.types.Width.{Width}
use Rattle.br_word.specs.declared.types.Width.TheVariants.{B8, B16, B32}
use Rattle.br_word.specs.Words.{bits_of}
use Rattle.ia_inst.specs.declared.inst.Rm.{Rm}
use Rattle.ia_inst.specs.declared.inst.Rm.TheVariants.{Reg, Mem}
use Rattle.ia_inst.specs.declared.inst.Src.{Src}
use Rattle.ia_inst.specs.declared.inst.Src.TheVariants as src
use Rattle.ia_inst.specs.Act.{Act, Past, Again}
use Rattle.ia_inst.specs.Meaning.{wrap, reg_value, reg_with, of_rm, of_src, to_rm, with_carry, condition, pushed, iterated}
use Rattle.ia_inst.specs.Fits.{Fits, IsAddress}
use Rattle.ia_inst.proofs.Bounds.{below}
use Rattle.ia_inst.proofs.ConditionCases.{carry_all, condition_all}
use Rattle.br_word.specs.State.{AreRegs}

pub wrapped : (x : ℕ) → wrap x < 2 ^ 32
wrapped x = below x 32

set_small : (xs : List ℕ) (k v r : ℕ) → v < 2 ^ 32 → ((r : ℕ) → get_or xs r 0 < 2 ^ 32) → get_or (set xs k v) r 0 < 2 ^ 32
set_small [] k v r l h = h r
set_small (x ∷ xs) zero v zero l h = l
set_small (x ∷ xs) zero v (suc r) l h = h (suc r)
set_small (x ∷ xs) (suc k) v zero l h = h zero
set_small (x ∷ xs) (suc k) v (suc r) l h = set_small xs k v r l (λ r. h (suc r))

pub set_regs : (regs : List ℕ) (k v : ℕ) → AreRegs regs → v < 2 ^ 32 → AreRegs (set regs k v)
set_regs regs k v h l = record { count = length-set regs k v ∙ h.count; small = λ r. set_small regs k v r l h.small }

-- ---- parts of registers

low_word : (x v : ℕ) → x < 2 ^ 32 → v < 2 ^ 16 → x / 2 ^ 16 * 2 ^ 16 + v < 2 ^ 32
low_word x v a b = omega arith

low_byte : (x v : ℕ) → x < 2 ^ 32 → v < 2 ^ 8 → x / 256 * 256 + v < 2 ^ 32
low_byte x v a b = omega arith

high_byte : (x v : ℕ) → x < 2 ^ 32 → v < 2 ^ 8 → x / 2 ^ 16 * 2 ^ 16 + v * 256 + x % 256 < 2 ^ 32
high_byte x v a b = omega arith

pub reg_with_fits : (w : Width) (r v : ℕ) (regs : List ℕ) → AreRegs regs → v < 2 ^ bits_of w → AreRegs (reg_with w r v regs)
reg_with_fits B32 r v regs h l = set_regs regs r v h l
reg_with_fits B16 r v regs h l = set_regs regs r _ h (low_word _ v (h.small r) l)
reg_with_fits B8 r v regs h l = go (nat_lt r 4)
  where
    go : (b : Bool) → AreRegs (if b then set regs r (get_or regs r 0 / 256 * 256 + v) else set regs (r - 4) (get_or regs (r - 4) 0 / 2 ^ 16 * 2 ^ 16 + v * 256 + get_or regs (r - 4) 0 % 256))
    go true = set_regs regs r _ h (low_byte _ v (h.small r) l)
    go false = set_regs regs (r - 4) _ h (high_byte _ v (h.small (r - 4)) l)

pub reg_small : (w : Width) (r : ℕ) (regs : List ℕ) → AreRegs regs → reg_value w r regs < 2 ^ bits_of w
reg_small B32 r regs h = h.small r
reg_small B16 r regs h = below (get_or regs r 0) 16
reg_small B8 r regs h = go (nat_lt r 4)
  where
    go : (b : Bool) → (if b then get_or regs r 0 % 256 else get_or regs (r - 4) 0 / 256 % 256) < 2 ^ 8
    go true = below (get_or regs r 0) 8
    go false = below (get_or regs (r - 4) 0 / 256) 8

-- ---- operands

pub of_rm_fits : (w : Width) (a : Rm) (regs : List ℕ) (go : ℕ → Act) → AreRegs regs → ((v : ℕ) → v < 2 ^ bits_of w → Fits (go v)) → Fits (of_rm w a regs go)
of_rm_fits w (Reg r) regs go h k = k _ (reg_small w r regs h)
of_rm_fits B8 (Mem a) regs go h k = λ v l. k v l
of_rm_fits B16 (Mem a) regs go h k = λ v l. k v l
of_rm_fits B32 (Mem a) regs go h k = λ v l. k v l

-- an immediate source is of the width
abbrev pub IsSource : Width → Src → Type 0
IsSource w (src.Rm a) = Unit {0}
IsSource w (src.Imm n) = n < 2 ^ bits_of w

pub of_src_fits : (w : Width) (s : Src) (regs : List ℕ) (go : ℕ → Act) → AreRegs regs → IsSource w s → ((v : ℕ) → v < 2 ^ bits_of w → Fits (go v)) → Fits (of_src w s regs go)
of_src_fits w (src.Rm a) regs go h i k = of_rm_fits w a regs go h k
of_src_fits w (src.Imm n) regs go h i k = k n i

pub to_rm_fits : (w : Width) (a : Rm) (v : ℕ) (regs : List ℕ) (go : List ℕ → Act) → AreRegs regs → v < 2 ^ bits_of w → ((regs : List ℕ) → AreRegs regs → Fits (go regs)) → Fits (to_rm w a v regs go)
to_rm_fits w (Reg r) v regs go h l k = k _ (reg_with_fits w r v regs h l)
to_rm_fits w (Mem a) v regs go h l k = k regs h

pub pushed_fits : (v : ℕ) (regs : List ℕ) (go : List ℕ → Act) → AreRegs regs → ((regs : List ℕ) → AreRegs regs → Fits (go regs)) → Fits (pushed v regs go)
pushed_fits v regs go h k = k _ (set_regs regs 4 _ h (wrapped (get_or regs 4 0 + 2 ^ 32 - 4)))

-- ---- choices

pub carry_fits : (op : ℕ) (go : Bool → Act) → ((b : Bool) → Fits (go b)) → Fits (with_carry op go)
carry_fits op go h = carry_all Fits (λ f k h. h) op go h

pub condition_fits : (c : ℕ) (go : Bool → Act) → ((b : Bool) → Fits (go b)) → Fits (condition c go)
condition_fits c go h = condition_all Fits (λ f k h. h) c go h

pub iterated_fits : (rep : Bool) (regs : List ℕ) (df : Bool) (n : ℕ) → AreRegs regs → Fits (iterated rep regs df n)
iterated_fits false regs df n h = (h, tt)
iterated_fits true regs df n h = (set_regs regs 1 _ h (wrapped (get_or regs 1 0 + 2 ^ 32 - 1)), next (wrap (get_or regs 1 0 + 2 ^ 32 - 1) == 0))
  where
    next : (b : Bool) → IsAddress (if b then Past n else Again)
    next true = tt
    next false = tt

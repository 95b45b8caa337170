-- How an instruction goes on into the written program, and which flags it reads.
use Rattle.std.specs.Prelude.{ℕ, ◌+◌, ◌/◌, ◌==◌, ◌||◌, if◌then◌else◌, List, [], ◌∷◌}
use Rattle.br_word.specs.State.{Flag, CF, PF, ZF, SF, OF}
use Rattle.ia_inst.specs.declared.inst.Inst.{Inst}
use Rattle.ia_inst.specs.declared.inst.Inst.TheVariants.{Alu, MulDiv, Rotate, Setcc, Cmov, Jcc, Jmp, JmpRm, Call, CallRm, Ret, Movs, Stos, Sahf, Int80}
use Rattle.ia_inst.specs.declared.inst.Kind.{Kind}
use Rattle.ia_inst.specs.declared.inst.Kind.TheVariants.{Plain, Island, Transfer}

-- native instructions are run as they stand, transfers decide what comes next, and all others are plain
abbrev pub kind_of : Inst → Kind
kind_of (MulDiv k a) = Island
kind_of (Rotate right a n) = Island
kind_of (Movs w rep) = Island
kind_of (Stos w rep) = Island
kind_of Sahf = Island
kind_of Int80 = Island
kind_of (Jcc c n) = Transfer
kind_of (Jmp n) = Transfer
kind_of (JmpRm a) = Transfer
kind_of (Call n) = Transfer
kind_of (CallRm a) = Transfer
kind_of (Ret n) = Transfer
kind_of _ = Plain

-- the flags of the conditions O, B, Z, BE, S, P, L and LE, each with its contrary (SDM volume 1, appendix B)
abbrev pub pair_flags : ℕ → List Flag
pair_flags pair =
    if pair == 0 then OF ∷ [] else
    if pair == 1 then CF ∷ [] else
    if pair == 2 then ZF ∷ [] else
    if pair == 3 then CF ∷ ZF ∷ [] else
    if pair == 4 then SF ∷ [] else
    if pair == 5 then PF ∷ [] else
    if pair == 6 then SF ∷ OF ∷ [] else
    ZF ∷ SF ∷ OF ∷ []

-- the flags of a condition by its number
abbrev pub condition_flags : ℕ → List Flag
condition_flags c = pair_flags (c / 2)

-- in the order in which they are read: ADC and SBB read CF, a condition reads its own, and nothing else reads a flag
abbrev pub flags_read : Inst → List Flag
flags_read (Alu op w a s) = if op == 2 || op == 3 then CF ∷ [] else []
flags_read (Setcc c a) = condition_flags c
flags_read (Cmov c g a) = condition_flags c
flags_read (Jcc c n) = condition_flags c
flags_read _ = []

-- bit 0 for CF, then PF, ZF, SF and OF
abbrev pub flag_bit : Flag → ℕ
flag_bit CF = 1
flag_bit PF = 2
flag_bit ZF = 4
flag_bit SF = 8
flag_bit OF = 16

-- the number with the bits of different flags
abbrev pub bits_of_flags : List Flag → ℕ
bits_of_flags [] = 0
bits_of_flags (f ∷ fs) = flag_bit f + bits_of_flags fs

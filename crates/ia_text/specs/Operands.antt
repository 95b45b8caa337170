-- The texts of operands.
use Rattle.std.specs.Prelude.{ℕ, ◌-◌, ◌==◌, false, List, [], ◌++◌, length, replicate, codes, Option, Some, None, if◌then◌else◌}
use Rattle.std.specs.Fmt.{decimal, digits}
use Rattle.br_word.specs.declared.types.Width.{Width}
use Rattle.br_word.specs.declared.types.Width.TheVariants.{B8, B16, B32}
use Rattle.ia_inst.specs.declared.inst.Addr.{Addr}
use Rattle.ia_inst.specs.declared.inst.Rm.{Rm}
use Rattle.ia_inst.specs.declared.inst.Rm.TheVariants.{Reg, Mem}
use Rattle.ia_inst.specs.declared.inst.Src.{Src}
use Rattle.ia_inst.specs.declared.inst.Src.TheVariants as src
use Rattle.ia_inst.specs.declared.inst.Count.{Count}
use Rattle.ia_inst.specs.declared.inst.Count.TheVariants as count
use Rattle.ia_text.specs.Names.{register_name, size_word}

-- ---- numbers

-- n with at least so many hexadecimal digits
abbrev pub hexadecimal : ℕ → ℕ → List ℕ
hexadecimal count n = replicate (count - length (digits 16 false n)) 48 ++ digits 16 false n

-- two digits for each byte of the width
abbrev pub digits_text : Width → ℕ → List ℕ
digits_text B8 n = hexadecimal 2 n
digits_text B16 n = hexadecimal 4 n
digits_text B32 n = hexadecimal 8 n

-- a number with 0x before it
abbrev pub number_text : Width → ℕ → List ℕ
number_text w n = codes "0x" ++ digits_text w n

-- ---- addresses

-- the displacement behind a base or an index, none where it is 0
abbrev pub displacement_text : ℕ → List ℕ
displacement_text d = if d == 0 then [] else codes "+" ++ number_text B32 d

-- an index and its scale
abbrev pub index_text : ℕ × ℕ → List ℕ
index_text x = register_name B32 x.0 ++ (codes "*" ++ decimal x.1)

-- base, index and displacement
abbrev pub sum_text : Option ℕ → Option (ℕ × ℕ) → ℕ → List ℕ
sum_text None None d = number_text B32 d
sum_text (Some b) None d = register_name B32 b ++ displacement_text d
sum_text None (Some x) d = index_text x ++ displacement_text d
sum_text (Some b) (Some x) d = register_name B32 b ++ (codes "+" ++ (index_text x ++ displacement_text d))

-- an address
abbrev pub address_text : Addr → List ℕ
address_text a = codes "[" ++ (sum_text a.base a.index a.disp ++ codes "]")

-- ---- operands

-- a register, or a place in memory with the size of the access
abbrev pub place_text : Width → Rm → List ℕ
place_text w (Reg r) = register_name w r
place_text w (Mem a) = size_word w ++ (codes " " ++ address_text a)

-- a source: a register, a place in memory, or an immediate of the width
abbrev pub source_text : Width → Src → List ℕ
source_text w (src.Rm a) = place_text w a
source_text w (src.Imm n) = number_text w n

-- by how much a shift goes
abbrev pub count_text : Count → List ℕ
count_text (count.Imm n) = number_text B8 n
count_text count.Cl = codes "cl"

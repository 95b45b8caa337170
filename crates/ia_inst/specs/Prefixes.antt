-- What stands before an opcode (SDM volume 2, 2.1.1).
use Rattle.std.specs.Prelude.{ℕ, Bool, true, false, List, [], ◌∷◌, Option, Some, None, ◌==◌, if◌then◌else◌}
use Rattle.br_word.specs.declared.types.Width.{Width}
use Rattle.br_word.specs.declared.types.Width.TheVariants.{B8, B16, B32}
use Rattle.ia_inst.specs.declared.prefixes.Prefix.{Prefix}
use Rattle.ia_inst.specs.declared.prefixes.Prefix.TheVariants as one
use Rattle.ia_inst.specs.declared.prefixes.Prefixes.{Prefixes}
use Rattle.ia_inst.specs.declared.prefixes.Prefixes.TheVariants.{Bare, Size, Repeat, SizeRepeat, Branch, Padding, Other}

-- a byte that may stand before an opcode
abbrev pub prefix_of : ℕ → Option Prefix
prefix_of b =
    if b == 0x66 then Some one.Size
    else (if b == 0xF3 then Some one.Repeat
    else (if b == 0x2E then Some one.Code
    else (if b == 0x3E then Some one.Branch else None)))

-- what stands there with one more
abbrev pub with : Prefixes → Prefix → Prefixes
with Bare one.Size = Size
with Bare one.Repeat = Repeat
with Bare one.Code = Padding false
with Bare one.Branch = Branch
with Size one.Size = Padding true
with Size one.Code = Padding true
with Size one.Repeat = SizeRepeat
with Repeat one.Size = SizeRepeat
with (Padding wide) one.Size = Padding true
with (Padding wide) one.Code = Padding wide
with _ _ = Other

-- which of them may stand before an opcode: before most, none
abbrev pub is_bare : Prefixes → Bool
is_bare Bare = true
is_bare _ = false

-- before an indirect JMP or CALL, at most one 3E
abbrev pub is_near : Prefixes → Bool
is_near Bare = true
is_near Branch = true
is_near _ = false

-- before RET, at most one F3
abbrev pub is_return : Prefixes → Bool
is_return Bare = true
is_return Repeat = true
is_return _ = false

-- before NOP, one 66, or one F3, which makes it PAUSE
abbrev pub is_nop : Prefixes → Bool
is_nop Bare = true
is_nop Size = true
is_nop Repeat = true
is_nop _ = false

-- before LEA and NOP with an operand, any list of 66 and 2E; whether there is a 66
abbrev pub padding_of : Prefixes → Option Bool
padding_of Bare = Some false
padding_of Size = Some true
padding_of (Padding wide) = Some wide
padding_of _ = None

-- before a pair of opcodes, one 66 before the second: the width
abbrev pub width_of : Prefixes → Bool → Option Width
width_of Bare true = Some B8
width_of Bare false = Some B32
width_of Size false = Some B16
width_of _ _ = None

-- before MOVS and STOS: the width, and whether REP repeats it
abbrev pub string_of : Prefixes → Bool → Option (Width × Bool)
string_of Bare true = Some (B8, false)
string_of Repeat true = Some (B8, true)
string_of Bare false = Some (B32, false)
string_of Size false = Some (B16, false)
string_of Repeat false = Some (B32, true)
string_of SizeRepeat false = Some (B16, true)
string_of _ _ = None

-- where there is one more prefix
abbrev pub more : Prefixes → Option Prefix → (Prefixes → Prefixes × List ℕ) → Prefixes × List ℕ → Prefixes × List ℕ
more found None go stop = stop
more found (Some one) go stop = go (with found one)

-- all prefixes that stand here, and the rest
unfoldable pub prefixes_at : Prefixes → List ℕ → Prefixes × List ℕ
prefixes_at found [] = (found, [])
prefixes_at found (b ∷ rest) = more found (prefix_of b) (λ next. prefixes_at next rest) (found, b ∷ rest)

-- what stands there, with the rest
abbrev pub pair_of : Prefixes → List ℕ → Prefixes × List ℕ
pair_of found rest = (found, rest)

-- Sources whose parts are in range.
use Rattle.std.specs.Prelude.{Bool}
use Rattle.br_word.specs.declared.types.Width.{Width}
use Rattle.ia_inst.specs.declared.inst.Src.{Src}
use Rattle.ia_inst.specs.declared.inst.Src.TheVariants.{Rm, Imm}
use Rattle.ia_inst.specs.Canonical.{imm_valid, rm_valid}

-- the parts of a source of this width are in range
abbrev pub source_valid : Width → Src → Bool
source_valid w (Rm a) = rm_valid a
source_valid w (Imm v) = imm_valid w v

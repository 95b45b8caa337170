use Rattle.std.proofs.Common.{◌≡◌, ℕ, List, ◌++◌, Some, length, subst, arith}
use Rattle.std.proofs.lemmas.List.{take_all}
use Rattle.ia_inst.specs.Instructions.{decode_of}
use Rattle.ia_encode.proofs.ItemsStand.{own_reads}
use Rattle.ia_encode.proofs.laws.bytes_read.Goals as goal

pub returns : goal.returns
returns c code dest bytes items at to i fit some read st =
    own_reads dest code bytes items at to i some
    (λ behind. subst (λ (w : List ℕ). decode_of (w ++ behind) ≡ Some (i, length bytes)) (take_all (length bytes) bytes (omega arith))
    (c.encoding_decides.ensures bytes behind i (length bytes) read))
    st

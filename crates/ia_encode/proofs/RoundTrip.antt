-- What is written is read back.
use Rattle.std.proofs.Common.{◌≡◌, ℕ, List, ◌++◌, length, Some, sym, ap, ◌∙◌}
use Rattle.std.specs.Prelude.{IsTrue}
use Rattle.ia_inst.specs.declared.inst.Inst.{Inst}
use Rattle.ia_inst.specs.Canonical.{valid_of, canonical}
use Rattle.ia_inst.specs.Instructions.{decode_of}
use Rattle.ia_inst.proofs.Written.{canonical_spells}
use Rattle.ia_decode.proofs.Readers.{some}
use Rattle.ia_decode.proofs.PrefixFree.{decode_again}

pub canonical_back : (i : Inst) (rest : List ℕ) → IsTrue (valid_of i) → decode_of (canonical i ++ rest) ≡ Some (i, length (canonical i))
canonical_back i rest v = decode_again (canonical i) rest i (canonical_spells i v)

-- bytes that are the canonical spelling are read as the instruction, whatever follows
pub spelling_back : (n : ℕ) (bytes : List ℕ) (i : Inst) → IsTrue (valid_of i) → n ≡ length (canonical i) → bytes ≡ canonical i → (rest : List ℕ) → decode_of (bytes ++ rest) ≡ Some (i, n)
spelling_back n bytes i v l e rest = ap (λ (w : List ℕ). decode_of (w ++ rest)) e ∙ canonical_back i rest v ∙ ap (λ (k : ℕ). some (i, k)) (sym l)

-- Laws of forms.
use Rattle.std.specs.Prelude.{◌≡◌, ℕ, ◌*◌, ◌≤◌, IsTrue, List, length, Some}
use Rattle.br_word.specs.Memory.{AreBytes}
use Rattle.ia_inst.specs.Canonical.{valid_of}
use Rattle.asm_line.specs.declared.transfers.Transfer.{Transfer}
use Rattle.asm_line.specs.Forms.{Form, form_of, is_form, is_transfer, instruction_of, size_of_form, bytes_of_form}

-- the form of a line is one whose bytes can be written
abbrev pub FormsAreValid : Type 0
FormsAreValid = (line : List ℕ) (at : ℕ) (f : Form) → form_of line at ≡ Some f → IsTrue (is_form f)

-- a line gives at most three bytes for each of its own
abbrev pub FormsAreShort : Type 0
FormsAreShort = (line : List ℕ) (at : ℕ) (f : Form) → form_of line at ≡ Some f → size_of_form f ≤ 3 * length line

-- a form gives as many bytes as its size says, wherever its label stands
abbrev pub FormsAreSized : Type 0
FormsAreSized = (f : Form) (at to : ℕ) → length (bytes_of_form f at to) ≡ size_of_form f

-- what it gives are bytes
abbrev pub FormsGiveBytes : Type 0
FormsGiveBytes = (f : Form) (at to : ℕ) → IsTrue (is_form f) → AreBytes (bytes_of_form f at to)

-- the instruction of a transfer has an encoding
abbrev pub TransfersAreValid : Type 0
TransfersAreValid = (kind : Transfer) (at to : ℕ) → IsTrue (is_transfer kind) → IsTrue (valid_of (instruction_of kind at to))

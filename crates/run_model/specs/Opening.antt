-- The state in which a guest begins (System V ABI, i386 supplement, process initialization).
use Rattle.std.specs.Prelude.{ℕ, ◌+◌, ◌-◌, ◌*◌, ◌/◌, ◌≤◌, true, false, List, [], ◌∷◌, ◌++◌, length, flat_map, codes, Result, Ok, Err}
use Rattle.br_word.specs.Memory.{bytes_of, zeros}
use Rattle.br_word.specs.State.{State, Running, all_flags}
use Rattle.elf_read.specs.declared.exe.Exe.{Exe}
use Rattle.elf_read.specs.declared.exe.Reach.TheVariants.{Guest}
use Rattle.elf_read.specs.Elf.{Refused, elf}
use Rattle.elf_read.specs.Regions.{opening_regions}

-- the arguments of a guest that is given these words
abbrev pub arguments : List (List ℕ) → List (List ℕ)
arguments words = codes "guest" ∷ words

-- the arguments as texts, each with a zero byte
abbrev pub texts : List (List ℕ) → List ℕ
texts args = flat_map (λ arg. arg ++ 0 ∷ []) args

-- the words that a guest can be given
pub record FitArguments (words : List (List ℕ)) : Type 0 where
  pub count : length words ≤ 256
  pub bytes : length (texts (arguments words)) ≤ 65536

-- the address of the first text: the last of them ends where the stack does
abbrev pub first_text : List (List ℕ) → ℕ
first_text args = 0xC0000000 - length (texts args)

-- the addresses of the texts from there on, each in four bytes
abbrev pub text_places : ℕ → List (List ℕ) → List ℕ
text_places at [] = []
text_places at (arg ∷ args) = bytes_of 4 at ++ text_places (at + length arg + 1) args

-- esp, a multiple of 16, with room above it for five words more than there are arguments
abbrev pub stack_pointer : List (List ℕ) → ℕ
stack_pointer args = (first_text args - 4 * (length args + 5)) / 16 * 16

-- from the stack pointer: the count, the addresses of the texts, their end, no environment, and an
-- auxiliary vector that is only its end
abbrev pub stack_words : List (List ℕ) → List ℕ
stack_words args = bytes_of 4 (length args) ++ (text_places (first_text args) args ++ zeros 16)

-- what stands from the stack pointer to the end of the stack
abbrev pub stack_top : List (List ℕ) → List ℕ
stack_top args = stack_words args ++ (zeros (first_text args - (stack_pointer args + 4 * (length args + 5))) ++ texts args)

-- the state in which an executable begins: registers and flags 0 but esp, all flags defined
abbrev pub opening : Exe → List (List ℕ) → List ℕ → State
opening exe args input = record {
  eip = exe.entry;
  cpu = record {
    regs = 0 ∷ 0 ∷ 0 ∷ 0 ∷ stack_pointer args ∷ 0 ∷ 0 ∷ 0 ∷ [];
    flags = all_flags false;
    df = false;
    marks = all_flags true;
  };
  regions = opening_regions exe (stack_top args);
  brk_start = exe.brk_start;
  brk = exe.brk_start;
  input = input;
  out = [];
  err = [];
  stop = Running;
}

-- what a file is as a guest; a file that is refused has no segment
abbrev pub exe_or_none : Result Exe Refused → Exe
exe_or_none (Ok exe) = exe
exe_or_none (Err r) = record { entry = 0; segments = []; brk_start = 0 }

-- a file as a guest
abbrev pub guest_of : List ℕ → Exe
guest_of file = exe_or_none (elf Guest file)

-- the state in which a file begins as a guest that is given these words and this input
abbrev pub opening_of : List ℕ → List (List ℕ) → List ℕ → State
opening_of file words input = opening (guest_of file) (arguments words) input

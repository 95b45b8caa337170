-- Items of code that lead from one place to another, and what ends of fragments are made of.
use Rattle.std.specs.Prelude.{◌≡◌, ℕ, ◌+◌, ◌<◌, ◌≤◌, Bool, true, false, nat_eq, if◌then◌else◌, List, [], ◌∷◌, ◌++◌, Some}
use Rattle.br_word.specs.Memory.{Region}
use Rattle.br_word.specs.State.{State}
use Rattle.ia_inst.specs.declared.inst.Inst.{Inst}
use Rattle.run_model.specs.Run.{observed, run}
use Rattle.ia_encode.specs.declared.item.Dest.{Dest}
use Rattle.ia_encode.specs.declared.item.Dest.TheVariants as dests
use Rattle.ia_encode.specs.declared.item.Item.{Item}
use Rattle.ia_encode.specs.declared.item.Item.TheVariants as item
use Rattle.ia_encode.specs.Items.{size_of_items, Stands}

-- within bounds on the steps both ways, in recovered code and with nothing new shown, to a state of P
pub record Gets (P : State → Type 0) (least high : ℕ) (t : State) (cs : List ℕ) : Type 0 where
  pub steps : ℕ
  pub enough : least ≤ steps
  pub bound : steps ≤ high
  pub shows : (i : ℕ) → i ≤ steps → observed (run i t cs) ≡ observed t
  pub inside : (i : ℕ) → i < steps → (run i t cs).eip < 0x07000000
  pub there : P (run steps t cs)

-- items stand from an address to the one behind them
abbrev pub StandsFrom : (Dest → ℕ) → Region → ℕ → List Item → Type 0
StandsFrom dest code at is = Stands dest code at is (at + size_of_items is)

-- how many instructions items have at most: a byte counts as one
abbrev pub count_of : List Item → ℕ
count_of [] = 0
count_of (item.Inst i ∷ is) = 1 + count_of is
count_of (item.Byte b ∷ is) = 1 + count_of is
count_of (item.Jump cond to ∷ is) = 1 + count_of is
count_of (item.Label m ∷ is) = count_of is

-- wherever the items stand, they lead from P at that place to Q, within so many steps
abbrev pub PassesIn : (Dest → ℕ) → Region → List Item → ℕ → (ℕ → State → Type 0) → (State → Type 0) → Type 0
PassesIn dest code is n P Q = (at : ℕ) (u : State) (cs : List ℕ) → StandsFrom dest code at is → P at u → Gets Q 1 n u cs

-- within as many steps as they have instructions
abbrev pub Passes : (Dest → ℕ) → Region → List Item → (ℕ → State → Type 0) → (State → Type 0) → Type 0
Passes dest code is P Q = PassesIn dest code is (count_of is) P Q

-- a condition: the jump to the taken part where ZF is clear, the part of next, and the part of taken (SDM volume 2, JNZ)
abbrev pub cond_items : List Item → ℕ → List Item → List Item → List Item
cond_items asks l next taken = asks ++ (item.Jump (Some 5) (dests.Label l) ∷ (next ++ (item.Label l ∷ taken)))

-- comparisons of an indirect exit's target with the known ones, each with a jump where it is equal (SDM volume 2, JZ)
abbrev pub chain : (ℕ → Inst) → (ℕ → ℕ) → List ℕ → List Item
chain compare label [] = []
chain compare label (y ∷ ys) = item.Inst (compare y) ∷ item.Jump (Some 4) (dests.Label (label y)) ∷ chain compare label ys

-- the code on the way to each known one, at its label
abbrev pub tails : (ℕ → List Item) → (ℕ → ℕ) → List ℕ → List Item
tails tail label [] = []
tails tail label (y ∷ ys) = item.Label (label y) ∷ (tail y ++ tails tail label ys)

-- one of the known ones
abbrev pub is_in : ℕ → List ℕ → Bool
is_in v [] = false
is_in v (y ∷ ys) = if nat_eq v y then true else is_in v ys

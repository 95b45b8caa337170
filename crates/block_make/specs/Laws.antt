-- What is known of each fragment.
use Rattle.std.specs.Prelude.{◌≡◌, ℕ, Bool, ◌^◌, ◌<◌, ◌≤◌, true, length, List, [], ◌∷◌, ◌++◌}
use Rattle.elf_read.specs.declared.exe.Exe.{Exe}
use Rattle.ia_inst.specs.declared.inst.Inst.{Inst}
use Rattle.ia_inst.specs.declared.inst.Inst.TheVariants.{JmpRm}
use Rattle.ia_encode.specs.declared.item.Item.{Item}
use Rattle.ia_encode.specs.declared.item.Item.TheVariants as item
use Rattle.ia_encode.specs.Items.{AreValid, AreDistinct}
use Rattle.ssa_form.specs.declared.form.BlockKey.{BlockKey}
use Rattle.ssa_form.specs.declared.form.Block.{Block}
use Rattle.ssa_form.specs.Checked.{checked}
use Rattle.ssa_form.specs.Same.{SpellsWords, KeepsMeaning}
use Rattle.pass_copy.specs.Folded.{SameKind}
use Rattle.stub_sink.specs.Splits.{has_fallback, starts_of, live_at, split_of}
use Rattle.stub_sink.specs.Serving.{Feeds, IsSplit}
use Rattle.reg_place.specs.Places.{is_in, IsSplit as IsListed}
use Rattle.lift_flow.specs.LiftedBlock.{lift_of}
use Rattle.block_make.specs.Choices.{ready}
use Rattle.block_make.specs.FragmentItems.{items_of}
use Rattle.block_make.specs.Prepared.{SpellsFew}

-- the addresses of exits have 32 bits
abbrev pub AreWords : List (ℕ × ℕ) → Type 0
AreWords [] = Unit {0}
AreWords (e ∷ es) = (e.0 < 2 ^ 32) × AreWords es

-- a jump, direct or by a register or memory (SDM volume 2, JMP)
abbrev pub IsJump : Item → Type 0
IsJump (item.Jump cond d) = Unit {0}
IsJump (item.Inst (JmpRm target)) = Unit {0}
IsJump _ = ⊥

-- the last item is one
abbrev pub EndInJump : List Item → Type 0
EndInJump is = (front : List Item) × (last : Item) × (is ≡ front ++ last ∷ []) × IsJump last

-- a block as lifting makes it: checked, of few lines, and of numbers that have 32 bits
pub record IsLifted (b : Block) : Type 0 where
  pub whole : checked b ≡ true
  pub words : SpellsWords b
  pub few : length b.lines ≤ 2048
  pub exit : SpellsFew b.exit

-- What becomes code of a lifted block is such a block, too, with an exit of the same kind; and wherever the lifted block's loads and
-- stores are allowed, so are its own, and it gives the same outs, memory and exit address.
pub record ReadyKeeps : Type 0 where
  pub lifted : (exe : Exe) (start : ℕ) → IsLifted (lift_of exe start) → IsLifted (ready exe start)
  pub kind : (exe : Exe) (start : ℕ) → SameKind (lift_of exe start).exit (ready exe start).exit
  pub same : (exe : Exe) (start : ℕ) → IsLifted (lift_of exe start) → KeepsMeaning (lift_of exe start) (ready exe start)

-- From registers that feed a checked block, the lists of its split serve.
abbrev pub SplitsAreClosed : Type 0
SplitsAreClosed = (b : Block) (key : BlockKey) (on : ℕ → Bool) → checked b ≡ true
    → Feeds on (live_at key.exits) (has_fallback b.exit (starts_of key.exits)) b
    → IsSplit on (live_at key.exits) (has_fallback b.exit (starts_of key.exits)) b
    (is_in (split_of b key).body) (is_in (split_of b key).sunk)

-- The lists of a checked block's split fit its lines.
abbrev pub SplitsAreListed : Type 0
SplitsAreListed = (b : Block) (key : BlockKey) → checked b ≡ true → IsListed b (split_of b key)

-- The items of a key's fragment: each instruction has an encoding; each label stands once; and the last of them is a jump.
pub record FragmentsValid : Type 0 where
  pub valid : (exe : Exe) (key : BlockKey) → IsLifted (ready exe key.start) → AreWords key.exits → AreValid (items_of exe key)
  pub distinct : (exe : Exe) (key : BlockKey) → AreDistinct (items_of exe key)
  pub ends : (exe : Exe) (key : BlockKey) → EndInJump (items_of exe key)

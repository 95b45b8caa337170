-- What becomes code of a lifted block is such a block, with an exit of the same kind.
use Rattle.std.proofs.Common.{◌≡◌, ℕ, ◌==◌, ◌||◌, refl, ap, ◌∙◌}
use Rattle.elf_read.specs.declared.exe.Exe.{Exe}
use Rattle.ssa_form.specs.declared.form.Exit.{Exit}
use Rattle.ssa_form.specs.declared.form.Exit.TheVariants.{Jump, Cond, Way, Island}
use Rattle.pass_copy.specs.Folded.{SameKind}
use Rattle.block_make.specs.Choices.{ready}
use Rattle.block_make.specs.Laws.{IsLifted, ReadyKeeps}
use Rattle.sim_runs.specs.Coding.{SameKind as IsOfKind}
use Rattle.sim_runs.specs.Pieces.{is_out}
use Rattle.sim_runs.specs.WholeBlock.{IsWay}
use Rattle.lift_flow.specs.LiftedBlock.{lift_of}
use Rattle.image_laws.specs.Serves.{HaveBytes, EachIsLifted}

pub lifted_is : EachIsLifted → (exe : Exe) (x : ℕ) → HaveBytes exe → IsLifted (lift_of exe x)
lifted_is lifted exe x h = let l = lifted exe x h in record { whole = l.whole; words = l.words; few = l.few; exit = l.exit }

pub ready_lifted : EachIsLifted → ReadyKeeps → (exe : Exe) (x : ℕ) → HaveBytes exe → IsLifted (ready exe x)
ready_lifted lifted keeps exe x h = keeps.lifted exe x (lifted_is lifted exe x h)

pub kind_is : (x y : Exit) → SameKind x y → IsWay x → IsOfKind x y
kind_is (Jump a) (Jump b) h w = h
kind_is (Jump a) (Cond t c d) h w = absurd h
kind_is (Jump a) (Way v) h w = absurd h
kind_is (Jump a) (Island n) h w = absurd h
kind_is (Cond t a b) (Jump c) h w = absurd h
kind_is (Cond t a b) (Cond u c d) h w = h
kind_is (Cond t a b) (Way v) h w = absurd h
kind_is (Cond t a b) (Island n) h w = absurd h
kind_is (Way v) (Jump b) h w = absurd h
kind_is (Way v) (Cond t c d) h w = absurd h
kind_is (Way v) (Way u) h w = tt
kind_is (Way v) (Island n) h w = absurd h
kind_is (Island m) y h w = absurd w

-- they lead directly to the same addresses
pub same_outs : (x y : Exit) → SameKind x y → (z : ℕ) → is_out x z ≡ is_out y z
same_outs (Jump a) (Jump b) h z = ap (λ t. z == t) h
same_outs (Jump a) (Cond t c d) h z = absurd h
same_outs (Jump a) (Way v) h z = absurd h
same_outs (Jump a) (Island n) h z = absurd h
same_outs (Cond t a b) (Jump c) h z = absurd h
same_outs (Cond t a b) (Cond u c d) h z = ap (λ k. z == k || z == b) h.0 ∙ ap (λ k. z == c || z == k) h.1
same_outs (Cond t a b) (Way v) h z = absurd h
same_outs (Cond t a b) (Island n) h z = absurd h
same_outs (Way v) (Jump b) h z = absurd h
same_outs (Way v) (Cond t c d) h z = absurd h
same_outs (Way v) (Way u) h z = refl
same_outs (Way v) (Island n) h z = refl
same_outs (Island m) (Jump b) h z = absurd h
same_outs (Island m) (Cond t c d) h z = absurd h
same_outs (Island m) (Way v) h z = refl
same_outs (Island m) (Island n) h z = refl

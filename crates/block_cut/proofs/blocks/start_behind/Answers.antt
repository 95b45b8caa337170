use Rattle.std.proofs.Common.{◌≡◌, true, false, ap, ◌∙◌, inl, inr}
use Rattle.block_cut.specs.Blocks.{is_followed}
use Rattle.block_cut.proofs.Follows.{none_follows, next_follows, behind_exec}
use Rattle.block_cut.proofs.blocks.start_behind.Goals as goal

pub returns-in-Transfer-clause-value : goal.returns-in-Transfer-clause-value
returns-in-Transfer-clause-value c =
    none_follows c.args.exe.now c.args.start c.args.block.now c.requires.block (elim c.in-Transfer.is as (λ _. is_followed c.args.block.now.end ≡ false) [
      | inl e ↦ ap is_followed e
      | inr e ↦ ap is_followed e
    ])

pub returns-in-Island-clause-value : goal.returns-in-Island-clause-value
returns-in-Island-clause-value c =
    c.then_some.ensures
    ∙ next_follows c.args.exe.now c.args.start c.args.block.now c.address_behind-next.result c.in_exec.result c.requires.block (elim c.in-Island.is as (λ _. is_followed c.args.block.now.end ≡ true) [
      | inl e ↦ ap is_followed e
      | inr more ↦ elim more as (λ _. is_followed c.args.block.now.end ≡ true) [
        | inl e ↦ ap is_followed e
        | inr e ↦ ap is_followed e
      ]
    ]) c.address_behind-next.ensures.value c.in_exec.ensures

pub returns-in-Island-clause-code : goal.returns-in-Island-clause-code
returns-in-Island-clause-code c = behind_exec c.args.exe.now c.args.start c.then_some.result (returns-in-Island-clause-value c)

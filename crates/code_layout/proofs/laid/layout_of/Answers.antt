use Rattle.std.proofs.Common.{◌≡◌, ◌+◌, ◌≤◌, ◌∙◌, All, Err, length, ap, sym, subst, arith}
use Rattle.block_make.specs.declared.fragment.Fix.{Fix}
use Rattle.block_make.specs.FragmentCode.{OpenCode}
use Rattle.code_layout.specs.Layout.{code_length, with_added}
use Rattle.code_layout.proofs.NextKeys.{grow}
use Rattle.code_layout.proofs.laid.layout_of.Goals as goal

pub add-requires-clause-order : goal.add-requires-clause-order
add-requires-clause-order c =
    grow.order c.args.exe.now c.args.keys.now c.loop-key.layout c.loop-key.key-index c.key-item.result
    (record { inside = c.loop-key-test.true; is = c.key-item.is; added = c.loop-key.invariant.added }) c.requires.order

pub add-requires-clause-inside : goal.add-requires-clause-inside
add-requires-clause-inside c =
    subst (λ (x : OpenCode). All (λ (f : Fix). f.at + 4 ≤ length x.bytes) x.fixes) (sym c.in_ok-fragment.ensures.code)
    (grow.fixes c.args.exe.now c.args.keys.now c.loop-key.layout c.loop-key.key-index c.key-item.result
    (record { inside = c.loop-key-test.true; is = c.key-item.is; added = c.loop-key.invariant.added }) c.requires.whole)

pub returns-in-Err-TooLong-clause-long : goal.returns-in-Err-TooLong-clause-long
returns-in-Err-TooLong-clause-long c e =
    let l = grow.part c.args.exe.now c.args.keys.now c.loop-key.layout c.loop-key.key-index c.key-item.result
    (record { inside = c.loop-key-test.true; is = c.key-item.is; added = c.loop-key.invariant.added })
    c.loop-key.invariant.entry (c.loop-key.invariant.known ∙ c.requires.entry) in
    let same = ap (λ (x : OpenCode). code_length (with_added c.loop-key.layout c.key-item.result.start x)) c.in_ok-fragment.ensures.code in
    omega (arith, l, same, c.in-Err-TooLong.ensures.long.0 (ap Err c.in-Err-TooLong.field-0-is))

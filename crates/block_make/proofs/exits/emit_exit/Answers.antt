use Rattle.std.proofs.Common.{◌≡◌, ℕ, ◌∙◌, sym, ap, subst}
use Rattle.pass_copy.specs.Folded.{SameKind}
use Rattle.lift_flow.specs.LiftedBlock.{lift_of}
use Rattle.ssa_form.specs.declared.form.Exit.{Exit}
use Rattle.ssa_form.specs.declared.form.Exit.TheVariants as exits
use Rattle.block_make.specs.Choices.{Choice, ready}
use Rattle.block_make.proofs.Splits.{ExitFound, exit_found}
use Rattle.block_make.proofs.Passed.{ready_kind}
use Rattle.block_make.proofs.exits.emit_exit.Goals as goal

-- a native instruction stays one
island_was : (x y : Exit) (n : ℕ) → SameKind x y → y ≡ exits.Island n → x ≡ exits.Island n
island_was (exits.Jump a) y n k e = absurd (let q : SameKind (exits.Jump a) (exits.Island n) = subst (λ (z : Exit). SameKind (exits.Jump a) z) e k in q)
island_was (exits.Cond t a b) y n k e = absurd (let q : SameKind (exits.Cond t a b) (exits.Island n) = subst (λ (z : Exit). SameKind (exits.Cond t a b) z) e k in q)
island_was (exits.Way v) y n k e = absurd (let q : SameKind (exits.Way v) (exits.Island n) = subst (λ (z : Exit). SameKind (exits.Way v) z) e k in q)
island_was (exits.Island m) y n k e = let q : m ≡ n = subst (λ (z : Exit). SameKind (exits.Island m) z) e k in ap exits.Island q

pub either-requires-clause-named : goal.either-requires-clause-named
either-requires-clause-named c =
    let of = c.args.of.now in
    subst (λ (e : Exit). ExitFound of.block of.split of.places.items c.requires.prepared e) c.in-Cond.is (exit_found of.block of.split of.places.items c.requires.prepared)

pub way-requires-clause-named : goal.way-requires-clause-named
way-requires-clause-named c =
    let of = c.args.of.now in
    subst (λ (e : Exit). ExitFound of.block of.split of.places.items c.requires.prepared e) c.in-Way.is (exit_found of.block of.split of.places.items c.requires.prepared)

pub native-requires-clause-native : goal.native-requires-clause-native
native-requires-clause-native c =
    let e = sym (ap (λ (x : Choice). x.block.exit) c.requires.choice) ∙ c.in-Island.is in
    island_was (lift_of c.args.exe.now c.args.key.now.start).exit (ready c.args.exe.now c.args.key.now.start).exit _ (ready_kind c.args.exe.now c.args.key.now.start) e

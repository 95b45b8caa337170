use Rattle.std.proofs.Common.{◌≡◌, ◌∙◌, ℕ, Option, Some, None, ap, sym}
use Rattle.ia_inst.specs.declared.inst.Inst.{Inst}
use Rattle.block_cut.specs.Places.{inst_found}
use Rattle.ssa_form.specs.declared.form.Block.{Block}
use Rattle.ssa_form.specs.declared.form.Exit.TheVariants as exits
use Rattle.lift_flow.proofs.Lifting.{same_size, native_is, lifted_native}
use Rattle.lift_flow.proofs.lift.native.Goals as goal

pub returns-in-Some-clause-lines : goal.returns-in-Some-clause-lines
returns-in-Some-clause-lines c =
    let here = c.in-Some.here in
    let n = native_is c.requires.one c.args.exe.now c.args.start c.requires.native in
    let f : ◌≡◌ {A = Option (Inst × ℕ)} (Some (here.inst, here.len)) (Some (n.1.inst, n.0)) = c.in-Some.ensures.inst ∙ ap inst_found n.1.found in
    ap (λ (b : Block). record b { exit = exits.Island here.len }) c.blank.ensures.lines
    ∙ lifted_native c.args.exe.now c.args.start here.len c.requires.native (n.1.size ∙ sym (same_size here.inst n.1.inst here.len n.0 f))

pub returns-in-None-clause-lines : goal.returns-in-None-clause-lines
returns-in-None-clause-lines c =
    let n = native_is c.requires.one c.args.exe.now c.args.start c.requires.native in
    let f : ◌≡◌ {A = Option (Inst × ℕ)} None (Some (n.1.inst, n.0)) = c.in-None.ensures.inst ∙ ap inst_found n.1.found in
    absurd (cc)

pub returns-in-Some-clause-words : goal.returns-in-Some-clause-words
returns-in-Some-clause-words c = record { lines = c.blank.ensures.words.lines; outs = c.blank.ensures.words.outs }

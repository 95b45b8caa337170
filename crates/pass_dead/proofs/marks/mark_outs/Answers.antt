use Rattle.std.proofs.Common.{◌≡◌, ◌+◌, drop, arith}
use Rattle.std.specs.Prelude.{◌||◌}
use Rattle.pass_dead.specs.Names.{outs_name, set_of, has}
use Rattle.pass_dead.proofs.Steps.{out_then, out_else}
use Rattle.pass_dead.proofs.marks.mark_outs.Goals as goal
use Rattle.pass_dead.proofs.marks.mark_outs.Goals.{then-on-register-eq1, else-on-register-eq1}

pub loop-register-preserved : goal.loop-register-preserved
loop-register-preserved c = λ j l.
    let h = c.loop-register.invariant j l in
    elim c.if-on-register-eq1.branch as (λ _. (set_of c.if-on-register-eq1.marks j || outs_name (has c.args.on) (c.loop-register.register + 1) (drop (c.loop-register.register + 1) c.args.outs.now) j) ≡ (set_of c.args.marks.now j || outs_name (has c.args.on) 0 c.args.outs.now j)) [
      | then-on-register-eq1 w ↦ out_then c.args.outs.now c.args.on c.loop-register.register j _ _ _ _ _ (omega arith) w.if-on-register-eq1.true (w.mark_val.ensures j (omega arith)) w.marks-is h
      | else-on-register-eq1 w ↦ out_else c.args.outs.now c.args.on c.loop-register.register j _ _ _ (omega arith) w.if-on-register-eq1.false w.marks-is h
    ]

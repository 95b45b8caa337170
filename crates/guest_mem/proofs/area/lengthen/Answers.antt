use Rattle.std.proofs.Common.{Result, Ok, Err, ◌∙◌, arith}
use Rattle.std.specs.Prelude.{OnOk}
use Rattle.std.specs.declared.alloc.AllocError.{AllocError}
use Rattle.guest_mem.proofs.Numbers.{take-filled}
use Rattle.guest_mem.proofs.area.lengthen.Goals as goal

on_ok : (r : Result (Unit {0}) AllocError) (P Q : Type 0) → OnOk r P → (P → Q) → OnOk r Q
on_ok (Ok u) P Q h f = f h
on_ok (Err e) P Q h f = tt

pub returns-clause-ok : goal.returns-clause-ok
returns-clause-ok c =
    on_ok c.resize.result _ _ c.resize.ensures.ok (λ e. e ∙ take-filled c.args.size c.args.page.now.bytes.items (omega (arith, c.requires, c.args.page.now.bytes.ok.0)))

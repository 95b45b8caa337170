use Rattle.std.proofs.Common.{Result, Ok, Err, length, sym, ◌∙◌, ap, arith}
use Rattle.std.specs.Prelude.{OnOk}
use Rattle.std.specs.declared.alloc.AllocError.{AllocError}
use Rattle.br_word.specs.Memory.{Region}
use Rattle.guest_mem.proofs.Numbers.{take-filled}
use Rattle.guest_mem.proofs.area.Area.resize.Goals as goal

on_ok : (r : Result (Unit {0}) AllocError) (P Q : Type 0) → OnOk r P → (P → Q) → OnOk r Q
on_ok (Ok u) P Q h f = f h
on_ok (Err e) P Q h f = tt

pub returns-clause-ok : goal.returns-clause-ok
returns-clause-ok c =
    let r = c.args.self.now in
    on_ok c.rise.result _ _ c.rise.ensures.ok (λ e. e ∙ ap (λ bs. let s : Region = record { start = r.start; perms = r.perms; bytes = bs } in s) (sym (take-filled c.args.size r.bytes (omega (arith, c.if-size-self.false, ap (λ (v : Region). length v.bytes) c.self.view_is, c.self.invariant.1)))))

use Rattle.std.proofs.Common.{◌≡◌, ℕ, List, ◌++◌, ◌-◌, length, take, Result, Ok, Err, ◌∙◌, ap}
use Rattle.std.specs.Prelude.{is_ok, OnOk, if◌then◌else◌, replicate}
use Rattle.std.specs.declared.alloc.AllocError.{AllocError}
use Rattle.br_word.specs.Memory.{zeros}
use Rattle.guest_mem.proofs.Numbers.{take-zeros}
use Rattle.guest_mem.proofs.area.resize.Goals as goal

on_ok : (r : Result (Unit {0}) AllocError) (old new : List ℕ) (size n : ℕ) → n ≡ length old → new ≡ (if is_ok r then take size old ++ replicate (size - n) 0 else old) → OnOk r (new ≡ take size (old ++ zeros size))
on_ok (Ok u) old new size n l e = e ∙ (ap (λ k. take size old ++ replicate (size - k) 0) l ∙ take-zeros size old)
on_ok (Err x) old new size n l e = tt

pub returns-clause-ok : goal.returns-clause-ok
returns-clause-ok c = on_ok c.resize.result c.args.bytes.now.items c.resize.new.self.items c.args.size c.args.bytes.now.len c.args.bytes.now.ok.0 c.resize.ensures.items

use Rattle.std.proofs.Common.{◌≡◌, List, Option, Some, None, sym, ◌∙◌, ap, true}
use Rattle.std.specs.Prelude.{is_some}
use Rattle.br_word.specs.Memory.{Region, written}
use Rattle.guest_mem.specs.View.{MemoryView, with_regions}
use Rattle.guest_mem.proofs.Places.{is_some-written}
use Rattle.guest_mem.proofs.memory.Memory.copy_in.Goals as goal

some_of : (o : Option (List Region)) (m n : MemoryView) → is_some o ≡ true → n ≡ with_regions o m → o ≡ Some n.regions
some_of None m n h e = cc
some_of (Some rs) m n h e = ap Some (sym (ap (λ (k : MemoryView). k.regions) e))

pub returns-clause-written : goal.returns-clause-written
returns-clause-written c =
    some_of (written c.args.at c.args.from.now c.args.self.now.regions) c.args.self.now c.write.new.self
    (is_some-written c.args.at c.args.from.now c.args.self.now.regions ∙ c.requires) c.write.ensures.after

use Rattle.std.proofs.Common.{◌≡◌, ◌+◌, ◌-◌, length, true, false, ◌∙◌, ap, arith}
use Rattle.br_word.specs.Memory.{Region, covers, put_over, zeros}
use Rattle.elf_read.specs.Regions.{stack_with}
use Rattle.guest_mem.proofs.Numbers.{length-zeros}
use Rattle.guest_mem.proofs.Copies.{covers-true, zeros-back}
use Rattle.guest_mem.proofs.area.Area.stack.Goals as goal

pub copy_in-requires-clause-inside : goal.copy_in-requires-clause-inside
copy_in-requires-clause-inside c =
    let n = length c.args.top.now in
    let at = 3220176896 + (1048576 - n) in
    ap (λ (r : Region). covers r at n) c.in_ok-area.ensures
    ∙ covers-true (record { start = 3220176896; perms = record { read = true; write = true; exec = false }; bytes = zeros 1048576 }) at n (omega arith) (omega (arith, c.requires, length-zeros 1048576))

pub returns : goal.returns
unfolding stack_with
returns c =
    let top = c.args.top.now in
    let at = 3220176896 + (1048576 - length top) in
    let i : at - 3220176896 ≡ 1048576 - length top = omega (arith, c.requires) in
    c.copy_in.ensures
    ∙ (ap (λ (r : Region). let t : Region = record r { bytes = put_over r.bytes (at - r.start) top } in t) c.in_ok-area.ensures
    ∙ ap (λ bs. let t : Region = record { start = 3220176896; perms = record { read = true; write = true; exec = false }; bytes = bs } in t)
    (zeros-back 1048576 (at - 3220176896) top c.requires i))

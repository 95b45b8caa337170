use Rattle.std.proofs.Common.{◌≡◌, ◌+◌, ◌-◌, length, sym, ap, arith}
use Rattle.elf_read.specs.Elf.{end_of_last, round_up}
use Rattle.elf_read.proofs.Parts.{last_is}
use Rattle.elf_read.proofs.load.heap_start.Goals as goal

end_is : (c : goal.After-index-segments-count) → end_of_last c.args.segments.now ≡ c.index-segments-count.result.start + c.index-segments-count.result.size
end_is c = last_is (length c.args.segments.now - 1) c.args.segments.now c.index-segments-count.result (omega arith) c.index-segments-count.is

pub overflow_add-result : goal.overflow_add-result
overflow_add-result c = omega (arith, end_is c)

pub overflow_add-result-2 : goal.overflow_add-result-2
overflow_add-result-2 c = omega (arith, end_is c)

pub overflow_mul-result : goal.overflow_mul-result
overflow_mul-result c = omega (arith, end_is c)

pub returns : goal.returns
returns c = ap round_up (sym (end_is c))

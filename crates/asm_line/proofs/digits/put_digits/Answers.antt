use Rattle.std.proofs.Common.{sym, ◌∙◌}
use Rattle.asm_line.proofs.LineSizes.{put_step, put_all}
use Rattle.asm_line.proofs.digits.put_digits.Goals as goal

pub loop-digits-preserved : goal.loop-digits-preserved
loop-digits-preserved c =
    put_step c.loop-digits.out.items c.push.new.self.items c.loop-digits.digits.now _ c.value_of.result c.value_of-in-len2-up.result c.in-len2-up.len_at_least
    c.value_of.ensures.value c.value_of-in-len2-up.ensures.value c.in_ok-push.ensures.items c.loop-digits.invariant

pub returns : goal.returns
returns c = sym (put_all c.loop-digits.out.items c.loop-digits.digits.now c.in_default.len_below) ∙ c.loop-digits.invariant

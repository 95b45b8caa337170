use Rattle.std.proofs.Common.{◌≡◌, Option, Some, ap, sym, subst}
use Rattle.asm_line.specs.Forms.{Form, Goes, formed}
use Rattle.asm_text.specs.Source.{use_refusal, goes_to}
use Rattle.asm_text.specs.Reads.{Judged}
use Rattle.asm_text.proofs.assembler.goes_to.Goals as goal

pub returns-in-Goes : goal.returns-in-Goes
returns-in-Goes c = λ all has.
    let e : Some (formed c.args.form.now) ≡ Some (Goes c.in-Goes.field-0 c.in-Goes.name.now) = ap (λ f. Some (formed f)) c.in-Goes.is in
    subst (λ (f : Option Form). Judged c.address_of.result (use_refusal all c.args.line f) (λ to. to ≡ goes_to all f)) (sym e) (c.address_of.ensures all c.in-Goes.field-0 has)

use Rattle.std.proofs.Common.{◌+◌, [], ◌∷◌, arith, sym, ap, ◌∙◌}
use Rattle.std.specs.Prelude.{option_map}
use Rattle.ia_inst.specs.declared.inst.Inst.TheVariants.{Jmp, CallRm}
use Rattle.block_cut.specs.declared.places.Spelled.{Spelled}
use Rattle.cold_set.proofs.Leading.{led, unwrapped}
use Rattle.cold_set.proofs.ways.transfer_ways.Goals as goal

pub returns-in-Jmp : goal.returns-in-Jmp
returns-in-Jmp c =
    let f = sym (ap (option_map (λ (s : Spelled). (s.inst, s.len))) c.in-Some.is) ∙ c.instruction_at.ensures.inst in
    c.one.ensures ∙ led c.args.exe.now c.args.site c.in-Some.here.inst (Jmp c.in-Jmp.rel) c.in-Some.here.len f c.in-Jmp.is

pub returns-in-CallRm : goal.returns-in-CallRm
returns-in-CallRm c =
    let f = sym (ap (option_map (λ (s : Spelled). (s.inst, s.len))) c.in-Some.is) ∙ c.instruction_at.ensures.inst in
    c.one-in-CallRm.ensures ∙ ap (λ x. x ∷ []) (unwrapped (c.args.site + c.in-Some.here.len) (let i = c.in-Some.ensures.inside in omega (arith, i))) ∙ led c.args.exe.now c.args.site c.in-Some.here.inst (CallRm c.in-CallRm.target) c.in-Some.here.len f c.in-CallRm.is

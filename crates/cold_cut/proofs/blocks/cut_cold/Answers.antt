use Rattle.std.proofs.Common.{◌≡◌, ◌+◌, Some, sym, ap, ◌∙◌, inl, inr, arith}
use Rattle.std.specs.Prelude.{option_map}
use Rattle.block_cut.specs.declared.places.Spelled.{Spelled}
use Rattle.block_cut.specs.Places.{found_at, inst_found}
use Rattle.cold_cut.specs.declared.ends.ColdCut.{ColdCut}
use Rattle.cold_cut.proofs.ColdReading.{IsRead, none_read, plain_read, island_read, transfer_read, nothing_behind}
use Rattle.cold_cut.proofs.blocks.cut_cold.Goals as goal

pub loop-read-init : goal.loop-read-init
loop-read-init c = record { few = omega arith; fits = omega arith; read = none_read c.args.exe.now c.args.start }

pub loop-read-preserved : goal.loop-read-preserved
loop-read-preserved c =
    let found : Some (c.in-Some.here.inst, c.in-Some.here.len) ≡ inst_found (found_at c.args.exe.now (c.args.start + c.loop-read.read.len)) = sym (ap (option_map (λ (s : Spelled). (s.inst, s.len))) c.in-Some.is) ∙ c.instruction_at.ensures.inst in
    record {
      few = let e = ap (λ (c : ColdCut). c.count) c.longer-read.ensures in omega arith;
      fits = let e = ap (λ (c : ColdCut). c.len) c.longer-read.ensures in let i = c.in-Some.ensures.inside in omega arith;
      read = elim c.in-Plain.is as (λ _. IsRead c.args.exe.now c.args.start c.longer-read.result) [
        | inl k ↦ plain_read c.args.exe.now c.args.start c.loop-read.read c.loop-read.invariant.read c.loop-read-test.true c.in-Some.here.inst c.in-Some.here.len found c.longer-read.result c.longer-read.ensures (sym c.kind.ensures ∙ k)
        | inr k ↦ island_read c.args.exe.now c.args.start c.loop-read.read c.loop-read.invariant.read c.loop-read-test.true c.in-Some.here.inst c.in-Some.here.len found c.longer-read.result c.longer-read.ensures (sym c.kind.ensures ∙ k)
      ];
    }

pub returns-in_default-clause-block : goal.returns-in_default-clause-block
returns-in_default-clause-block c =
    nothing_behind c.args.exe.now c.args.start c.loop-read.read c.loop-read.invariant.read c.loop-read-test.true (sym (ap (option_map (λ (s : Spelled). (s.inst, s.len))) c.in_default.is) ∙ c.instruction_at.ensures.inst)

pub returns-in-Transfer-clause-block : goal.returns-in-Transfer-clause-block
returns-in-Transfer-clause-block c =
    transfer_read c.args.exe.now c.args.start c.loop-read.read c.loop-read.invariant.read c.loop-read-test.true c.in-Some.here.inst c.in-Some.here.len (sym (ap (option_map (λ (s : Spelled). (s.inst, s.len))) c.in-Some.is) ∙ c.instruction_at.ensures.inst) c.longer.result c.longer.ensures (sym c.kind.ensures ∙ c.in-Transfer.is)

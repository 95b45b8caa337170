use Rattle.std.proofs.Common.{sym, ap, ◌∙◌, arith}
use Rattle.block_cut.specs.declared.ends.Cut.{Cut}
use Rattle.block_cut.proofs.Reading.{none_read, plain_read, transfer_read}
use Rattle.block_cut.proofs.blocks.cut.Goals as goal

pub loop-read-init : goal.loop-read-init
loop-read-init c = record { few = omega arith; fits = omega arith; read = none_read c.args.exe.now c.args.start }

pub loop-read-preserved : goal.loop-read-preserved
loop-read-preserved c = record {
  few = let e = ap (λ (c : Cut). c.count) c.longer-read.ensures in omega arith;
  fits = let e = ap (λ (c : Cut). c.len) c.longer-read.ensures in let i = c.in-Some.ensures.inside in omega arith;
  read = plain_read c.args.exe.now c.args.start c.loop-read.read c.loop-read.invariant.read c.loop-read-test.true c.in-Some.inst c.in-Some.len (sym c.in-Some.is ∙ c.placed.ensures.value) c.longer-read.result c.longer-read.ensures (sym c.kind.ensures ∙ c.in-Plain.is);
}

pub returns-in-Transfer-clause-block : goal.returns-in-Transfer-clause-block
returns-in-Transfer-clause-block c = transfer_read c.args.exe.now c.args.start c.loop-read.read c.loop-read.invariant.read c.loop-read-test.true c.in-Some.inst c.in-Some.len (sym c.in-Some.is ∙ c.placed.ensures.value) c.longer.result c.longer.ensures (sym c.kind.ensures ∙ c.in-Transfer.is)

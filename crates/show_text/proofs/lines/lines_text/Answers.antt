use Rattle.std.proofs.Common.{◌+◌, ◌-◌, [], ◌++◌, refl, ap, ◌∙◌, arith, string_bytes}
use Rattle.block_cut.specs.Places.{Placed}
use Rattle.block_cut.specs.Blocks.{block_of}
use Rattle.show_text.specs.Listing.{line_text, line_of}
use Rattle.show_text.proofs.Listed.{none_listed, all_listed, one_left, one_listed, same_listed}
use Rattle.show_text.proofs.lines.lines_text.Goals as goal

pub loop-init : goal.loop-init
loop-init c = same_listed c.args.exe.now (block_of c.args.exe.now c.args.start).insts [] _ (c.args.count - 0) _ c.args.start _ c.new-lines.ensures.bytes refl refl (none_listed c.args.exe.now c.args.start c.args.count c.one_block.ensures c.requires.count)

pub unreachable-requires : goal.unreachable-requires
unreachable-requires c = one_left c.args.exe.now (block_of c.args.exe.now c.args.start).insts (string_bytes c.loop.lines) (c.args.count - c.loop.counter) c.loop.at (omega arith) c.loop.invariant c.in_default.ensures.inst

pub loop-preserved : goal.loop-preserved
loop-preserved c =
    let p : Placed = record { at = c.loop.at; inst = c.in-Some.here.inst; size = c.in-Some.here.len } in
    same_listed c.args.exe.now (block_of c.args.exe.now c.args.start).insts (string_bytes c.loop.lines ++ line_of c.args.exe.now p) _ (c.args.count - c.loop.counter - 1) _ (c.loop.at + c.in-Some.here.len) _ (c.in_ok-push_str.ensures.bytes ∙ ap (λ t. string_bytes c.loop.lines ++ t) (c.deref.ensures ∙ c.in_ok-line_text.ensures ∙ ap (line_text p) c.in-Some.ensures.bytes)) (omega arith) (ap (λ n. c.loop.at + n) c.from.ensures) (one_listed c.args.exe.now (block_of c.args.exe.now c.args.start).insts (string_bytes c.loop.lines) (c.args.count - c.loop.counter) p (omega arith) c.loop.invariant c.in-Some.ensures.inst)

pub returns : goal.returns
returns c = all_listed c.args.exe.now (block_of c.args.exe.now c.args.start).insts (string_bytes c.loop.lines) (c.args.count - c.loop.counter) c.loop.at (omega arith) c.loop.invariant

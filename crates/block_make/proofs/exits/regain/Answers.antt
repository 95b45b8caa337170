use Rattle.std.proofs.Common.{◌≡◌, ◌++◌, ◌∙◌, ap, true}
use Rattle.par_moves.specs.Homes.{register_homes}
use Rattle.fall_stubs.specs.Exchange.{spill_items, restore_items}
use Rattle.fall_stubs.proofs.Parts.{both, goes_on}
use Rattle.block_make.specs.FragmentItems.{lines_items, moves_items}
use Rattle.block_make.specs.Prepared.{choice_in}
use Rattle.block_make.proofs.exits.regain.Goals as goal

pub returns : goal.returns
returns c =
    let p = c.args.p.now in
    let of = c.args.of.now in
    let sunk = lines_items (choice_in of) of.split.sunk in
    let moves = moves_items (choice_in of) (λ v. true) in
    let spilled = spill_items register_homes in
    let restored = restore_items c.args.label in
    let first = c.in_ok-emit_lines.ensures ∙ ap (λ set. p ++ lines_items (choice_in of) set) c.as_slice.ensures in
    goes_on _ c.restore.ensures.ok (λ h. both p c.emit_lines.new.p c.restore.new.p sunk (moves ++ (spilled ++ restored)) first
    (both c.emit_lines.new.p c.emit_moves.new.p c.restore.new.p moves (spilled ++ restored) c.in_ok-emit_moves.ensures (both c.emit_moves.new.p c.spill.new.p c.restore.new.p spilled restored c.in_ok-spill.ensures.ok h)))

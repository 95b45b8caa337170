use Rattle.std.proofs.Common.{◌≡◌, ℕ, ◌^◌, ◌<◌, ◌++◌, Bool, true, List, ◌∙◌, ap, sym, subst}
use Rattle.reg_place.specs.Places.{is_in}
use Rattle.ia_encode.specs.declared.item.Item.{Item}
use Rattle.ia_encode.specs.Items.{AreValid, size_of_items}
use Rattle.block_make.specs.Choices.{Choice}
use Rattle.block_make.specs.FragmentItems.{lines_items, exit_items, items_of}
use Rattle.block_make.specs.Laws.{AreWords}
use Rattle.block_make.specs.Prepared.{choice_in, is_done}
use Rattle.block_make.proofs.Emitted.{as_placed}
use Rattle.block_make.proofs.Fragments.{short, items_are, all_valid, all_short}
use Rattle.block_make.proofs.Placing.{body_done}
use Rattle.block_make.proofs.fragment.items_of.Goals as goal

pub emit_lines-requires-clause-done : goal.emit_lines-requires-clause-done
emit_lines-requires-clause-done c =
    let s = c.in_ok-prepared.prepared.split in
    subst (λ (set : List Bool). (i : ℕ) → is_in set i ≡ true → is_done s i ≡ true) (sym c.as_slice-2.ensures) (body_done s)

pub returns-clause-items : goal.returns-clause-items
unfolding items_of
returns-clause-items c =
    let exe = c.args.exe.now in
    let key = c.args.key.now in
    let p = c.in_ok-prepared.prepared in
    items_are exe key (choice_in p) c.new-piece.result c.emit_lines.new.p c.emit_exit.new.p c.as_slice-2.result.now c.new-piece.ensures c.as_slice-2.ensures c.in_ok-emit_lines.ensures c.in_ok-emit_exit.ensures
    ∙ ap (λ (d : Choice). lines_items d d.split.body ++ exit_items exe key d d.block.exit) c.in_ok-prepared.ensures.choice

pub returns-clause-valid : goal.returns-clause-valid
returns-clause-valid c =
    let exe = c.args.exe.now in
    let key = c.args.key.now in
    let p = c.in_ok-prepared.prepared in
    let w : AreWords key.exits = subst AreWords c.as_slice.ensures c.note_words.ensures in
    let e = items_are exe key (choice_in p) c.new-piece.result c.emit_lines.new.p c.emit_exit.new.p c.as_slice-2.result.now c.new-piece.ensures c.as_slice-2.ensures c.in_ok-emit_lines.ensures c.in_ok-emit_exit.ensures in
    subst AreValid (sym e) (all_valid (choice_in p) (as_placed p.block p.split p.places.items c.in_ok-prepared.ensures.prepared) exe key w)

pub returns-clause-short : goal.returns-clause-short
returns-clause-short c =
    let exe = c.args.exe.now in
    let key = c.args.key.now in
    let p = c.in_ok-prepared.prepared in
    let w : AreWords key.exits = subst AreWords c.as_slice.ensures c.note_words.ensures in
    let e = items_are exe key (choice_in p) c.new-piece.result c.emit_lines.new.p c.emit_exit.new.p c.as_slice-2.result.now c.new-piece.ensures c.as_slice-2.ensures c.in_ok-emit_lines.ensures c.in_ok-emit_exit.ensures in
    subst (λ (is : List Item). size_of_items is < 2 ^ 32) (sym e)
    (all_short (choice_in p) (as_placed p.block p.split p.places.items c.in_ok-prepared.ensures.prepared) (short c.round_trip.ensures c.encoding_length.ensures) exe key w c.requires.few)

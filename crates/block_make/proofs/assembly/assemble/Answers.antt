use Rattle.std.proofs.Common.{◌≡◌, ◌<◌, ◌≤◌, ℕ, ◌++◌, All, List, Option, length, get_or, ◌∙◌, sym, ap, subst, arith}
use Rattle.std.specs.Prelude.{if◌then◌else◌, slice_get}
use Rattle.std.proofs.lemmas.List.{with_items_is}
use Rattle.ia_encode.specs.declared.item.Item.{Item}
use Rattle.ia_encode.specs.Items.{is_label, dest_at}
use Rattle.block_make.specs.declared.fragment.Fix.{Fix}
use Rattle.block_make.specs.FragmentCode.{OpenCode, open_items, fixes_of, fix_of}
use Rattle.block_make.specs.Labels.{IsItem, IsInside, noted_or, offset_in, blank_bytes, local_of, closed}
use Rattle.block_make.proofs.Assembling.{HasLengths, no_item, item_valid, stands_more, all_inside, all_fixes, all_closed}
use Rattle.block_make.proofs.assembly.assemble.Goals as goal

pub write_open-requires : goal.write_open-requires
write_open-requires c =
    let i = c.loop-index.index in
    let e = c.items-items.ensures in
    let t = c.loop-index-test.true in
    let l : i < length c.items-items.result.now = omega arith in
    subst (λ (xs : List Item). i < length xs → IsItem (get_or xs i no_item)) (sym e) (λ k. item_valid c.args.piece.now i no_item k c.requires.valid) l

pub loop-index-preserved : goal.loop-index-preserved
loop-index-preserved c =
    let i = c.loop-index.index in
    let piece = c.args.piece.now in
    let e = c.items-items.ensures in
    let t = c.loop-index-test.true in
    let l : i < length c.items-items.result.now = omega arith in
    let m : i < length piece = subst (λ (xs : List Item). i < length xs) e l in
    let lengths : HasLengths = record { jcc = c.direct_lengths.ensures.jcc; jmp = c.direct_lengths.ensures.jmp } in
    let labels = c.loop-index.labels.items in
    let bytes = c.loop-index.bytes.items in
    let fixes = c.loop-index.fixes.items in
    let locals = c.loop-index.locals.items in
    let at = length bytes in
    let y = get_or c.items-items.result.now i no_item in
    let n : c.len-at.result ≡ at = (let a = c.len-at.ensures in let o = c.loop-index.bytes.ok.0 in omega (arith, a, o)) in
    stands_more lengths piece i no_item labels c.note_label.new.labels.items bytes c.write_open.new.bytes.items fixes c.note_fix.new.fixes.items locals c.note_local.new.locals.items m
    (λ k other. c.in_ok-note_label.ensures k other
    ∙ ap (λ (a : ℕ). noted_or (if is_label k y then a else other) (slice_get labels k)) n
    ∙ ap (λ (is : List Item). noted_or (if is_label k (get_or is i no_item) then at else other) (slice_get labels k)) e)
    (c.in_ok-write_open.ensures ∙ ap (λ (is : List Item). bytes ++ blank_bytes (get_or is i no_item)) e)
    (c.in_ok-note_fix.ensures ∙ ap (λ (k : ℕ). fixes ++ fix_of k y) n ∙ ap (λ (is : List Item). fixes ++ fix_of at (get_or is i no_item)) e)
    (c.in_ok-note_local.ensures ∙ ap (λ (k : ℕ). locals ++ local_of k y) n ∙ ap (λ (is : List Item). locals ++ local_of at (get_or is i no_item)) e)
    c.loop-index.invariant

pub close-requires-clause-inside : goal.close-requires-clause-inside
close-requires-clause-inside c =
    let i = c.loop-index.index in
    let piece = c.args.piece.now in
    let t = c.loop-index-test.false in
    let k : length c.items-items.result.now ≤ i = omega (arith, t) in
    let l : length piece ≤ i = subst (λ (xs : List Item). length xs ≤ i) c.items-items.ensures k in
    let bytes = c.loop-index.bytes.items in
    let inside = all_inside piece c.loop-index.labels.items bytes c.loop-index.fixes.items c.loop-index.locals.items i l c.loop-index.invariant in
    subst (λ (bs : List ℕ). All (IsInside (length bs)) c.as_slice-2.result.now) (sym c.as_mut_slice.ensures.value)
    (subst (λ (ps : List (ℕ × ℕ)). All (IsInside (length bytes)) ps) (sym c.as_slice-2.ensures.value) inside)

pub returns : goal.returns
returns c =
    let i = c.loop-index.index in
    let piece = c.args.piece.now in
    let t = c.loop-index-test.false in
    let k : length c.items-items.result.now ≤ i = omega (arith, t) in
    let l : length piece ≤ i = subst (λ (xs : List Item). length xs ≤ i) c.items-items.ensures k in
    let lengths : HasLengths = record { jcc = c.direct_lengths.ensures.jcc; jmp = c.direct_lengths.ensures.jmp } in
    let labels = c.loop-index.labels.items in
    let bytes = c.loop-index.bytes.items in
    let fixes = c.loop-index.fixes.items in
    let locals = c.loop-index.locals.items in
    let whole = open_items (dest_at (λ y. 0) 0 piece) 0 piece in
    let b : c.close.new.bytes ≡ whole = c.close.ensures
    ∙ ap (λ (ls : List (Option ℕ)). closed (offset_in ls) c.as_slice-2.result.now c.as_mut_slice.result.now) c.as_slice.ensures.value
    ∙ ap (λ (ps : List (ℕ × ℕ)). closed (offset_in labels) ps c.as_mut_slice.result.now) c.as_slice-2.ensures.value
    ∙ ap (λ (bs : List ℕ). closed (offset_in labels) locals bs) c.as_mut_slice.ensures.value
    ∙ all_closed piece labels bytes fixes locals i l c.loop-index.invariant lengths in
    let f : fixes ≡ fixes_of 0 piece = all_fixes piece labels bytes fixes locals i l c.loop-index.invariant in
    let code : List ℕ → List Fix → OpenCode = λ bs fs. record { bytes = bs; fixes = fs } in
    let kept : length c.close.new.bytes ≡ c.loop-index.bytes.len = (let a = c.close.auto in let o = c.loop-index.bytes.ok.0 in let v = ap (λ (bs : List ℕ). length bs) c.as_mut_slice.ensures.value in omega (arith, a, o, v)) in
    ap (λ (bs : List ℕ). code bs fixes) (with_items_is c.loop-index.bytes c.close.new.bytes kept ∙ b) ∙ ap (λ (fs : List Fix). code whole fs) f

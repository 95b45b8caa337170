use Rattle.std.proofs.Common.{◌≡◌, ◌+◌, ◌<◌, ◌≤◌, ◌++◌, All, List, length, map, append_assoc, length-append, sym, ap, ◌∙◌, subst, arith}
use Rattle.std.specs.List.Sorted.{IsStrictlyIncreasing}
use Rattle.ia_encode.specs.Items.{goes_to}
use Rattle.code_layout.specs.declared.place.TheConstants.{CODE_START, MAX_CODE}
use Rattle.std.specs.Prelude.{vec_len}
use Rattle.code_layout.specs.Layout.{Added, added_length, added_places, filled_from, layout_code, layout_places}
use Rattle.code_layout.specs.Places.{AddressesAscend, place_in}
use Rattle.cold_copy.specs.Linking.{stands_by, tail_copies}
use Rattle.cold_copy.proofs.Together.{code_by, put_together}
use Rattle.cold_copy.specs.Behind.{IsWithin}
use Rattle.cold_copy.proofs.tails.linked.Goals as goal

pub outs_of-requires-clause-copies : goal.outs_of-requires-clause-copies
outs_of-requires-clause-copies c = let r = c.requires.ready in omega (arith, r.again_at, r.turn_at, r.end, r.short)

pub outs_of-requires-clause-again : goal.outs_of-requires-clause-again
outs_of-requires-clause-again c = let r = c.requires.ready in omega (arith, r.again_at, r.turn_at, r.end, r.short)

pub outs_of-requires-clause-ascend : goal.outs_of-requires-clause-ascend
outs_of-requires-clause-ascend c = c.requires.ready.all_ascend

pub overflow_add-stands : goal.overflow_add-stands
overflow_add-stands c = let r = c.requires.ready in omega (arith, r.turn_at, r.end, r.short)

pub places-requires : goal.places-requires
places-requires c = record { fresh = c.requires.fresh }

pub places_of-requires : goal.places_of-requires
places_of-requires c = let r = c.requires.ready in omega (arith, ap added_length c.as_slice.ensures.value, r.again_at, r.turn_at, r.end, r.short)

pub of-requires : goal.of-requires
of-requires c =
    subst AddressesAscend (sym (c.in_ok-places_of.ensures ∙ ap (added_places (CODE_START + c.args.tail.now.at)) c.as_slice.ensures.value)) c.requires.ready.ascend

pub code_with-code-requires-clause-whole : goal.code_with-code-requires-clause-whole
code_with-code-requires-clause-whole c = c.requires.whole

pub code_with-code-requires-clause-fresh : goal.code_with-code-requires-clause-fresh
code_with-code-requires-clause-fresh c = c.requires.fresh

pub link_all-requires-clause-within : goal.link_all-requires-clause-within
link_all-requires-clause-within c = subst (λ ps. All (λ (a : Added). IsWithin a.code) ps) (sym c.as_slice-2.ensures.value) c.requires.ready.copies

pub link_all-requires-clause-room : goal.link_all-requires-clause-room
link_all-requires-clause-room c =
    let r = c.requires.ready in
    omega (arith, c.code_with-code.ensures.len, ap added_length c.as_slice-2.ensures.value, r.at, r.again_at, r.turn_at, r.end, r.short)

pub link_all-requires-clause-ascend : goal.link_all-requires-clause-ascend
link_all-requires-clause-ascend c = c.requires.ascend

pub link_all-requires-2-clause-within : goal.link_all-requires-2-clause-within
link_all-requires-2-clause-within c = subst (λ ps. All (λ (a : Added). IsWithin a.code) ps) (sym c.as_slice-3.ensures.value) c.requires.ready.again

pub link_all-requires-2-clause-ascend : goal.link_all-requires-2-clause-ascend
link_all-requires-2-clause-ascend c = c.requires.ascend

pub link_all-requires-3-clause-within : goal.link_all-requires-3-clause-within
link_all-requires-3-clause-within c = subst (λ ps. All (λ (a : Added). IsWithin a.code) ps) (sym c.as_slice-4.ensures.value) c.requires.ready.turn

pub link_all-requires-3-clause-ascend : goal.link_all-requires-3-clause-ascend
link_all-requires-3-clause-ascend c = c.requires.ascend

pub returns-clause-code : goal.returns-clause-code
returns-clause-code c =
    let r = c.requires.ready in
    let v = c.args.layout in
    let t = c.args.tail.now in
    let starts = c.args.starts.items in
    let blocks = c.in_ok-places.field-0 in
    let copies = c.of.result in
    let out = c.in_ok-out.out in
    let to = goes_to (stands_by (CODE_START + t.reentries.len) starts blocks copies) in
    let n0 = c.code_with-code.ensures.len ∙ sym r.at in
    let s1 = c.as_slice-2.ensures.value in
    let s2 = c.as_slice-3.ensures.value in
    let s3 = c.as_slice-4.ensures.value in
    let n1 : vec_len c.link_all.new.code ≡ t.copies.len = omega (arith, n0, c.in_ok-link_all.ensures.len, ap added_length s1, r.again_at) in
    let n2 : vec_len c.link_all-2.new.code ≡ t.reentries.len = omega (arith, n1, c.in_ok-link_all-2.ensures.len, ap added_length s2, r.turn_at) in
    let copied = c.of.ensures ∙ c.in_ok-places_of.ensures ∙ ap (added_places (CODE_START + t.at)) c.as_slice.ensures.value in
    put_together to (layout_code (place_in out) v) c.link_all.new.code.items c.link_all-2.new.code.items c.link_all-3.new.code.items
    (vec_len c.code_with-code.result) (vec_len c.link_all.new.code) (vec_len c.link_all-2.new.code) t.at t.copies.len t.reentries.len
    c.as_slice-2.result.now c.as_slice-3.result.now c.as_slice-4.result.now t.copies.pieces.items t.reentries.pieces.items t.turn.pieces.items
    (c.in_ok-link_all.ensures.code ∙ ap (λ z. z ++ filled_from to (CODE_START + vec_len c.code_with-code.result) c.as_slice-2.result.now) c.code_with-code.ensures.code)
    c.in_ok-link_all-2.ensures.code c.in_ok-link_all-3.ensures.code n0 n1 n2 s1 s2 s3
    ∙ ap (λ b. code_by v starts t b copies out) c.in_ok-places.ensures
    ∙ ap (λ k. code_by v starts t (layout_places v) k out) copied
    ∙ ap (λ o. code_by v starts t (layout_places v) (tail_copies t) o) c.in_ok-out.ensures

use Rattle.std.proofs.Common.{◌≡◌, true, ◌<◌, ◌≤◌, ◌∙◌, ap, length, arith, vec_len}
use Rattle.std.proofs.lemmas.Bool.{not-false}
use Rattle.reg_place.proofs.First.{put_length}
use Rattle.reg_place.proofs.Steps.{few, low_to, placed_read}
use Rattle.reg_place.proofs.placing.place.Goals as goal

pub last_uses-requires : goal.last_uses-requires
last_uses-requires c =
    let f = few c.args.b.now c.args.s.now c.requires.split c.as_slice.result.now (c.as_slice.ensures.value ∙ c.in_ok-steps.ensures) in
    let n = c.requires.few in
    record { few = omega (arith, f, n) }

pub index-requires : goal.index-requires
index-requires c =
    let n = c.in_ok-last.ensures.length in
    let l : c.loop-at.at < length c.deref-step-items.result.now = omega arith in
    let m : length c.args.b.now.lines ≤ vec_len c.in_ok-last.last = omega (arith, n) in
    low_to c.args.b.now c.args.s.now c.requires.split c.deref-step-items.result.now (c.deref-step-items.ensures.value ∙ c.in_ok-steps.ensures) c.loop-at.at _ l (vec_len c.in_ok-last.last) m

pub numbered-requires : goal.numbered-requires
numbered-requires c =
    let e = c.deref-step-items.ensures.value ∙ c.in_ok-steps.ensures in
    let f = few c.args.b.now c.args.s.now c.requires.split c.deref-step-items.result.now e in
    let n = c.requires.few in
    let w = c.first_free-k.ensures.within in
    let i = c.loop-at.invariant.few in
    omega (arith, f, n, w, i)

pub index_mut-requires : goal.index_mut-requires
index_mut-requires c =
    let n = c.loop-at.invariant.len in
    let l : c.loop-at.at < length c.deref-step-items.result.now = omega arith in
    let m : length c.args.b.now.lines ≤ vec_len c.loop-at.places = omega (arith, n) in
    low_to c.args.b.now c.args.s.now c.requires.split c.deref-step-items.result.now (c.deref-step-items.ensures.value ∙ c.in_ok-steps.ensures) c.loop-at.at _ l (vec_len c.loop-at.places) m

pub loop-at-preserved : goal.loop-at-preserved
loop-at-preserved c =
    let b = c.args.b.now in
    let s = c.args.s.now in
    let i = c.loop-at.invariant in
    let e = c.deref-step-items.ensures.value ∙ c.in_ok-steps.ensures in
    let l : c.loop-at.at < length c.deref-step-items.result.now = omega arith in
    let given : c.gives.result ≡ true = search (not-false) in
    let within = c.first_free-k.ensures.within in
    let grew = (put_length c.loop-at.busy.items c.first_free-k.result c.index.result.now (omega arith)).2 in
    let held = ap length c.in_ok-hold.ensures in
    record {
      len = i.len;
      few = let f = i.few in omega (arith, f, grew, held);
      now = placed_read b s c.deref-step-items.result.now e c.loop-at.at _ l c.requires.split c.in_ok-last.last.items c.as_slice.result.now c.in_ok-last.ensures.length (c.as_slice.ensures.value ∙ c.in_ok-steps.ensures) c.in_ok-last.ensures.last
          c.loop-at.busy.items c.as_slice-in-loop-at.result.now c.hold.new.busy.items c.loop-at.places.items c.first_free-k.result c.index.result.now c.numbered.result c.gives.result c.gives.ensures given
          c.as_slice-in-loop-at.ensures.value c.first_free-k.ensures.value c.index.ensures c.in_ok-hold.ensures c.numbered.ensures i.now;
    }

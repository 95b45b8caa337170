use Rattle.std.proofs.Common.{ap, ◌∙◌, arith, drop}
use Rattle.code_layout.specs.Layout.{LayoutView}
use Rattle.code_layout.specs.Growth.{IsNext}
use Rattle.session_core.specs.Session.{fresh}
use Rattle.session_core.proofs.Ordered.{from_here, count_one, so_many, counted}
use Rattle.session_core.proofs.Laying.{kept_inside, kept_is, fixes_in, more_added, more_codes}
use Rattle.session_core.proofs.laid.laid_out.Goals as goal

pub fragment_of-requires-clause-inside : goal.fragment_of-requires-clause-inside
fragment_of-requires-clause-inside g c = λ e. kept_inside c.args.exe.now c.args.before.now c.args.kept.now c.place_from-at.result c.requires.codes (c.is_kept-kept_there.ensures.there e).0

pub fragment_of-requires-clause-kept : goal.fragment_of-requires-clause-kept
fragment_of-requires-clause-kept g c = λ e.
    let t = c.is_kept-kept_there.ensures.there e in
    kept_is c.args.exe.now c.args.before.now c.args.kept.now c.place_from-at.result c.key-item.result c.requires.codes t.0 t.1

pub put-requires-clause-order : goal.put-requires-clause-order
put-requires-clause-order g c =
    let next : IsNext c.args.exe.now c.args.keys.now c.loop-key.layout c.loop-key.key-index c.key-item.result =
    record { inside = c.loop-key-test.true; is = c.key-item.is; added = c.loop-key.invariant.added } in
    c.layouts_grow.ensures.order c.args.exe.now c.args.keys.now c.loop-key.layout c.loop-key.key-index c.key-item.result next c.requires.order

pub put-requires-clause-inside : goal.put-requires-clause-inside
put-requires-clause-inside g c =
    let next : IsNext c.args.exe.now c.args.keys.now c.loop-key.layout c.loop-key.key-index c.key-item.result =
    record { inside = c.loop-key-test.true; is = c.key-item.is; added = c.loop-key.invariant.added } in
    fixes_in c.args.exe.now c.key-item.result c.in_ok-fragment.fragment c.in_ok-fragment.ensures.code
    (c.layouts_grow.ensures.fixes c.args.exe.now c.args.keys.now c.loop-key.layout c.loop-key.key-index c.key-item.result next c.requires.whole)

pub loop-key-preserved : goal.loop-key-preserved
loop-key-preserved g c =
    let inv = c.loop-key.invariant in
    let l = c.loop-key-test.true in
    let is = c.key-item.is in
    let keys = c.args.keys.now in
    let i = c.loop-key.key-index in
    let key = c.key-item.result in
    let rest = c.place_from-at.ensures.rest (drop i keys) (from_here keys i key l is c.requires.order) in
    record {
      entry = ap (λ (v : LayoutView). v.entry) c.in_ok-put.ensures.added ∙ inv.entry;
      known = ap (λ (v : LayoutView). v.known) c.in_ok-put.ensures.added ∙ inv.known;
      added = more_added c.args.exe.now keys i key l is c.loop-key.layout c.put.new.layout c.in_ok-fragment.fragment c.in_ok-fragment.ensures.code c.in_ok-put.ensures.added inv.added;
      unspent = ap (λ (v : LayoutView). v.spent) c.in_ok-put.ensures.added ∙ inv.unspent;
      short = c.in_ok-put.ensures.short;
      fragments = more_codes c.args.exe.now keys i key l is c.loop-key.fragments.items c.keep.new.fragments.items c.in_ok-fragment.fragment c.in_ok-fragment.ensures.code c.in_ok-keep.ensures inv.fragments;
      within = c.place_from-at.ensures.within;
      count = count_one keys i key l is (drop c.loop-key.at c.args.before.now) (drop c.place_from-at.result c.args.before.now) c.loop-key.made c.one_unless-one.result
          (fresh c.args.before.now keys) c.is_kept-kept_there.result rest c.is_kept-kept_there.ensures.value c.one_unless-one.ensures.value inv.count;
      few = omega (arith, c.one_unless-one.ensures.few, inv.few);
      ticks = omega (arith, c.in_ok-fragment.ensures.done, c.one_unless-one.ensures.value, inv.ticks);
    }

pub returns-in_err-fragment-clause-at_most : goal.returns-in_err-fragment-clause-at_most
returns-in_err-fragment-clause-at_most g c =
    let inv = c.loop-key.invariant in
    let l = c.loop-key-test.true in
    let is = c.key-item.is in
    let keys = c.args.keys.now in
    let i = c.loop-key.key-index in
    let key = c.key-item.result in
    let rest = c.place_from-at.ensures.rest (drop i keys) (from_here keys i key l is c.requires.order) in
    let m = so_many keys i key l is (drop c.loop-key.at c.args.before.now) (drop c.place_from-at.result c.args.before.now) c.loop-key.made
    (fresh c.args.before.now keys) c.is_kept-kept_there.result rest c.is_kept-kept_there.ensures.value inv.count in
    omega (arith, c.fragment_of.ensures.few, inv.ticks, m)

pub returns-in_err-put-clause-at_most : goal.returns-in_err-put-clause-at_most
returns-in_err-put-clause-at_most g c =
    let inv = c.loop-key.invariant in
    let l = c.loop-key-test.true in
    let is = c.key-item.is in
    let keys = c.args.keys.now in
    let i = c.loop-key.key-index in
    let key = c.key-item.result in
    let rest = c.place_from-at.ensures.rest (drop i keys) (from_here keys i key l is c.requires.order) in
    let m = so_many keys i key l is (drop c.loop-key.at c.args.before.now) (drop c.place_from-at.result c.args.before.now) c.loop-key.made
    (fresh c.args.before.now keys) c.is_kept-kept_there.result rest c.is_kept-kept_there.ensures.value inv.count in
    omega (arith, c.fragment_of.ensures.few, inv.ticks, m)

pub returns-in_err-keep-clause-at_most : goal.returns-in_err-keep-clause-at_most
returns-in_err-keep-clause-at_most g c =
    let inv = c.loop-key.invariant in
    let l = c.loop-key-test.true in
    let is = c.key-item.is in
    let keys = c.args.keys.now in
    let i = c.loop-key.key-index in
    let key = c.key-item.result in
    let rest = c.place_from-at.ensures.rest (drop i keys) (from_here keys i key l is c.requires.order) in
    let m = so_many keys i key l is (drop c.loop-key.at c.args.before.now) (drop c.place_from-at.result c.args.before.now) c.loop-key.made
    (fresh c.args.before.now keys) c.is_kept-kept_there.result rest c.is_kept-kept_there.ensures.value inv.count in
    omega (arith, c.fragment_of.ensures.few, inv.ticks, m)

pub returns-clause-made : goal.returns-clause-made
returns-clause-made g c =
    counted (drop c.loop-key.at c.args.before.now) c.args.keys.now c.loop-key.key-index c.loop-key.made (fresh c.args.before.now c.args.keys.now) c.loop-key-test.false c.loop-key.invariant.count

pub returns-clause-done : goal.returns-clause-done
returns-clause-done g c =
    let m = counted (drop c.loop-key.at c.args.before.now) c.args.keys.now c.loop-key.key-index c.loop-key.made (fresh c.args.before.now c.args.keys.now) c.loop-key-test.false c.loop-key.invariant.count in
    omega (arith, m, c.loop-key.invariant.ticks)

pub returns-clause-at_most : goal.returns-clause-at_most
returns-clause-at_most g c =
    let m = counted (drop c.loop-key.at c.args.before.now) c.args.keys.now c.loop-key.key-index c.loop-key.made (fresh c.args.before.now c.args.keys.now) c.loop-key-test.false c.loop-key.invariant.count in
    omega (arith, m, c.loop-key.invariant.ticks)

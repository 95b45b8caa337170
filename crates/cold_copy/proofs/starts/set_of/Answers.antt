use Rattle.std.proofs.Common.{◌≡◌, ◌+◌, ◌||◌, drop, get_or, sym, ap, ◌∙◌}
use Rattle.std.specs.Ordering.{nat_cmp}
use Rattle.std.specs.BTreeSet.{contains}
use Rattle.std.proofs.lemmas.List.{drop_more}
use Rattle.block_cut.specs.Transfers.{is_among}
use Rattle.cold_copy.proofs.Members.{one_more}
use Rattle.cold_copy.proofs.starts.set_of.Goals as goal

pub loop-out-preserved : goal.loop-out-preserved
loop-out-preserved c y =
    let all = c.args.outs.now in
    let i = c.loop-out.out-index in
    one_more c.loop-out.set c.insert.new.self (get_or all i 0) c.in_ok-insert.ensures.updates (drop (i + 1) all) y
    ∙ ap (λ l. contains nat_cmp c.loop-out.set y || is_among l y) (sym (drop_more all i 0 c.loop-out-test.true))
    ∙ c.loop-out.invariant y

use Rattle.std.proofs.Common.{◌+◌, sym, subst}
use Rattle.guest_mem.proofs.Growing.{IsFilled, filled-none, filled-more}
use Rattle.guest_mem.proofs.area.zero_pages.Goals as goal

pub loop-done-init : goal.loop-done-init
loop-done-init c = subst (IsFilled c.args.first c.args.first 0 c.args.size) (sym c.new-pages.ensures.items) (filled-none c.args.first c.args.size c.requires)

pub loop-done-preserved : goal.loop-done-preserved
loop-done-preserved c =
    subst (IsFilled c.args.first 4096 (c.loop-done.done + c.min-count.result) c.args.size) (sym c.in_ok-push.ensures.items)
    (filled-more c.args.first c.loop-done.room c.loop-done.done c.args.size c.min-count.result c.loop-done.pages.items c.in_ok-zero_page.field-0
    c.loop-done.invariant c.loop-done-test.true c.min-count.ensures c.in_ok-zero_page.ensures)

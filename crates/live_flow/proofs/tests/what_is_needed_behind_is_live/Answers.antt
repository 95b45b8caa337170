use Rattle.std.proofs.Common.{◌∙◌, List, sym, subst}
use Rattle.live_flow.specs.declared.row.LiveRow.{LiveRow}
use Rattle.live_flow.specs.Live.{StartsAscend, NextAreStarts}
use Rattle.live_flow.proofs.Examples.{ascend, starts}
use Rattle.live_flow.proofs.tests.what_is_needed_behind_is_live.Goals as goal

pub live-requires-clause-ascending : goal.live-requires-clause-ascending
live-requires-clause-ascending g c = let P : List LiveRow → Type 0 = λ t. StartsAscend t in subst P (sym (c.as_slice.ensures.value ∙ c.in_ok-rows.ensures)) ascend

pub live-requires-clause-starts : goal.live-requires-clause-starts
live-requires-clause-starts g c = let P : List LiveRow → Type 0 = λ t. NextAreStarts t in subst P (sym (c.as_slice.ensures.value ∙ c.in_ok-rows.ensures)) starts

use Rattle.std.proofs.Common.{ℕ, List, [], ◌++◌, ap, ◌∙◌}
use Rattle.demo_gen.proofs.Steps.{all_parts}
use Rattle.demo_gen.proofs.generate.demo_exe.Goals as goal

pub returns : goal.returns
returns c = all_parts c.args.count _ _ _ _ _ _
    (c.in_ok-extend_from_slice.ensures.items ∙ ap (λ ls. ls ++ c.flat_headers.result) c.in_ok-out.ensures.items ∙ ap (λ (h : List ℕ). [] ++ h) c.flat_headers.ensures)
    c.in_ok-push.ensures.items c.in_ok-push_word.ensures c.in_ok-push_calls.ensures c.in_ok-push_end.ensures c.in_ok-push_functions.ensures

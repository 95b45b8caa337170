use Rattle.std.proofs.Common.{◌≡◌, ◌∙◌, ap, rules, string_bytes}
use Rattle.br_outside.proofs.Firsts.{found-set, found-push}
use Rattle.br_outside.proofs.pairs.put_pair.Goals as goal

pub returns-in-Some-clause-ok : goal.returns-in-Some-clause-ok
returns-in-Some-clause-ok c =
    let place = c.in-Some.ensures in
    let first = rw c.deref.ensures.value at place.first in
    let less = rw c.deref.ensures.value at place.within in
    let e : c.in_ok-content.content.items ≡ c.args.bytes.now = search rules in
    rw (← e) (found-set _ _ _ (c.index_mut.result.now.0, c.in_ok-content.content) less first (ap (λ r. string_bytes r.0) c.index_mut.ensures.value ∙ first.here _))

pub returns-clause-ok : goal.returns-clause-ok
returns-clause-ok c =
    let none = rw c.deref.ensures.value at c.in_default.ensures.first in
    let e : c.in_ok-content.content.items ≡ c.args.bytes.now = search rules in
    rw (c.in_ok-push.ensures.items, ← e) (found-push _ _ (c.in_ok-name.name, c.in_ok-content.content) none c.in_ok-name.ensures.ok)

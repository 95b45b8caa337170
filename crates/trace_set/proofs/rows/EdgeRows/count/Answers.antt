use Rattle.std.proofs.Common.{◌≡◌, ◌≤◌, [], length, get_or, inl, refl, ap, sym, ◌∙◌, arith}
use Rattle.std.proofs.lemmas.Iterator.Consumers.{count_from_yields_List, YieldsList-from_first}
use Rattle.trace_set.proofs.Kept.{column_there, column_small, count_none, count_some}
use Rattle.trace_set.proofs.rows.EdgeRows.count.Goals as goal

pub column-requires : goal.column-requires
column-requires c = column_there c.args.self.now c.args.edge c.in-Some.column.now c.requires c.facts.ensures (sym c.in-Some.ensures.value)

pub count-requires-clause-fits : goal.count-requires-clause-fits
count-requires-clause-fits c =
    let s : length (get_or c.args.self.now.links.columns c.in-Some.column.now []) ≤ 16777216 = column_small c.args.self.now.links c.in-Some.column.now c.facts.ensures in
    let l : length c.column.result ≡ length (get_or c.args.self.now.links.columns c.in-Some.column.now []) = ap length c.column.ensures in
    inl (omega (arith, s, l))

pub overflow_cast-result : goal.overflow_cast-result
overflow_cast-result c =
    let s : length (get_or c.args.self.now.links.columns c.in-Some.column.now []) ≤ 16777216 = column_small c.args.self.now.links c.in-Some.column.now c.facts.ensures in
    let n : c.count.result ≡ length c.column.result = count_from_yields_List c.column.result c.count.result c.count.ensures.ran (YieldsList-from_first (λ x. x) (λ w. w) c.column.result refl) in
    let l : length c.column.result ≡ length (get_or c.args.self.now.links.columns c.in-Some.column.now []) = ap length c.column.ensures in
    omega (arith, s, n, l)

pub returns-in-None : goal.returns-in-None
returns-in-None c = count_none c.args.self.now c.args.edge c.requires (sym c.in-None.ensures.value)

pub returns-in-Some : goal.returns-in-Some
returns-in-Some c =
    let n : c.count.result ≡ length c.column.result = count_from_yields_List c.column.result c.count.result c.count.ensures.ran (YieldsList-from_first (λ x. x) (λ w. w) c.column.result refl) in
    n ∙ ap length c.column.ensures ∙ count_some c.args.self.now c.args.edge c.in-Some.column.now c.requires c.facts.ensures (sym c.in-Some.ensures.value)

use Rattle.std.proofs.Common.{◌≡◌, ◌<◌, List, sym, ◌∙◌, subst}
use Rattle.std.proofs.Common.{Vec, Global}
use Rattle.std.specs.Prelude.{IfOk, Result, Ok, vec_capacity}
use Rattle.std.specs.declared.alloc.AllocError.{AllocError}
use Rattle.std.specs.BTreeMap.{keys}
use Rattle.std.proofs.lemmas.Iterator.{items_from_collect}
use Rattle.std.proofs.lemmas.Iterator.Consumers.{YieldsList-from_copied, YieldsList-from_rest}
use Rattle.trace_file.specs.Edges.{Edge, IsEdges, IsSetOf}
use Rattle.trace_set.specs.Rows.{uses_in, shown_rows}
use Rattle.trace_set.proofs.Uses.{keys_are}
use Rattle.trace_set.proofs.Kept.{edges_are}
use Rattle.trace_set.proofs.rows.EdgeRows.edges.Goals as goal

-- the list is that of the keys
listed : (r : Result (Vec Edge Global) AllocError) (v : Vec Edge Global) (ks : List Edge) → r ≡ Ok v → IfOk r (λ w. w.items ≡ ks) → v.items ≡ ks
listed r v ks e h = rw e at h

pub of_list-requires : goal.of_list-requires
of_list-requires c =
    let h = items_from_collect c.collect.result c.collect.ensures.ran (YieldsList-from_copied {s = c.copied.result} (YieldsList-from_rest (keys c.args.self.now.names) (c.copied.ensures.source ∙ c.keys.ensures.rest))) in
    let q : c.in_ok-list.list.items ≡ keys c.args.self.now.names = listed c.collect.result c.in_ok-list.list (keys c.args.self.now.names) c.in_ok-list.was h in
    subst IsEdges (sym q) (edges_are c.args.self.now c.requires c.facts.ensures c.len-ordered.ensures.ordered)

pub returns-clause-value : goal.returns-clause-value
returns-clause-value c =
    let h = items_from_collect c.collect.result c.collect.ensures.ran (YieldsList-from_copied {s = c.copied.result} (YieldsList-from_rest (keys c.args.self.now.names) (c.copied.ensures.source ∙ c.keys.ensures.rest))) in
    let q : c.in_ok-list.list.items ≡ keys c.args.self.now.names = listed c.collect.result c.in_ok-list.list (keys c.args.self.now.names) c.in_ok-list.was h in
    subst (IsSetOf (λ e. 0 < uses_in e (shown_rows c.args.self.now))) (sym (c.of_list.ensures ∙ q))
    (keys_are c.args.self.now.links c.args.self.now.columns.items c.args.self.now.names c.args.self.now.spare.items (vec_capacity c.args.self.now.spare) c.requires.0 c.len-ordered.ensures.ordered)

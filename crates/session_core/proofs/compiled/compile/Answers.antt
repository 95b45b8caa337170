use Rattle.std.proofs.Common.{◌+◌, ◌<◌, ◌≤◌, length, sym, ap, ◌∙◌, subst, arith}
use Rattle.std.specs.List.Sorted.{IsStrictlyIncreasing}
use Rattle.std.proofs.lemmas.List.Elements.{All-same}
use Rattle.std.proofs.lemmas.Result.{err_from_is_err_and}
use Rattle.elf_read.proofs.Accepted.{original_is_guest}
use Rattle.flow_graph.specs.declared.error.TheConstants.{MAX_BLOCKS}
use Rattle.block_make.specs.Keys.{IsKey}
use Rattle.code_layout.specs.declared.place.TheConstants.{MAX_CODE}
use Rattle.code_layout.specs.Keys.{keys_of}
use Rattle.code_layout.specs.Linked.{has_key}
use Rattle.code_layout.specs.Layout.{IsWhole, code_length, layout_of}
use Rattle.session_core.specs.Session.{fresh}
use Rattle.session_core.specs.Kept.{starts_of_keys, codes_of}
use Rattle.session_core.proofs.Follow.{nodes_are}
use Rattle.session_core.proofs.compiled.compile.Goals as goal

pub keys_from-requires-clause-guest : goal.keys_from-requires-clause-guest
keys_from-requires-clause-guest g c = original_is_guest c.args.exe.now c.requires.original

pub keys_from-requires-clause-graph : goal.keys_from-requires-clause-graph
keys_from-requires-clause-graph g c =
    let exe = c.args.exe.now in
    let last = c.args.caches.now.last in
    (last, nodes_are c.one_graph.ensures exe last c.args.caches.now.graph (original_is_guest exe c.requires.original) c.requires.graph)

pub laid_out-requires-clause-guest : goal.laid_out-requires-clause-guest
laid_out-requires-clause-guest g c = original_is_guest c.args.exe.now c.requires.original

pub laid_out-requires-clause-entry : goal.laid_out-requires-clause-entry
laid_out-requires-clause-entry g c =
    let exe = c.args.exe.now in
    let last = c.args.caches.now.last in
    let nodes = nodes_are c.one_graph.ensures exe last c.args.caches.now.graph (original_is_guest exe c.requires.original) c.requires.graph in
    let keys = c.as_slice-2.ensures.value ∙ c.in_ok-keys.ensures last nodes in
    c.is_entry_known-known.ensures last nodes ∙ sym (ap (λ k. has_key k exe.entry) keys)

pub laid_out-requires-clause-each : goal.laid_out-requires-clause-each
laid_out-requires-clause-each g c =
    let exe = c.args.exe.now in
    let last = c.args.caches.now.last in
    let guest = original_is_guest exe c.requires.original in
    let nodes = nodes_are c.one_graph.ensures exe last c.args.caches.now.graph guest c.requires.graph in
    let keys = c.as_slice-2.ensures.value ∙ c.in_ok-keys.ensures last nodes in
    All-same (IsKey exe) c.as_slice-2.result.now (keys_of exe last) keys
    (c.keys_are_keys.ensures.each exe last guest c.len-in_order.ensures.edges.order (subst (λ n. length n ≤ MAX_BLOCKS) nodes c.requires.few))

pub laid_out-requires-clause-order : goal.laid_out-requires-clause-order
laid_out-requires-clause-order g c =
    let exe = c.args.exe.now in
    let last = c.args.caches.now.last in
    let guest = original_is_guest exe c.requires.original in
    let nodes = nodes_are c.one_graph.ensures exe last c.args.caches.now.graph guest c.requires.graph in
    let keys = c.as_slice-2.ensures.value ∙ c.in_ok-keys.ensures last nodes in
    subst (λ k. IsStrictlyIncreasing (starts_of_keys k)) (sym keys) (c.keys_are_keys.ensures.ascend exe last guest)

pub laid_out-requires-clause-whole : goal.laid_out-requires-clause-whole
laid_out-requires-clause-whole g c =
    let exe = c.args.exe.now in
    let last = c.args.caches.now.last in
    let guest = original_is_guest exe c.requires.original in
    let nodes = nodes_are c.one_graph.ensures exe last c.args.caches.now.graph guest c.requires.graph in
    let keys = c.as_slice-2.ensures.value ∙ c.in_ok-keys.ensures last nodes in
    subst (λ k. IsWhole (layout_of exe k)) (sym keys) (c.keys_are_keys.ensures.whole exe last guest)

pub laid_out-requires-clause-few : goal.laid_out-requires-clause-few
laid_out-requires-clause-few g c =
    let exe = c.args.exe.now in
    let last = c.args.caches.now.last in
    let nodes = nodes_are c.one_graph.ensures exe last c.args.caches.now.graph (original_is_guest exe c.requires.original) c.requires.graph in
    let keys = c.as_slice-2.ensures.value ∙ c.in_ok-keys.ensures last nodes in
    subst (λ n. n ≤ MAX_BLOCKS) (ap length nodes ∙ sym (ap length keys ∙ c.layouts_build.ensures.count exe last)) c.requires.few

pub returns-clause-layout : goal.returns-clause-layout
returns-clause-layout g c =
    let exe = c.args.exe.now in
    let last = c.args.caches.now.last in
    let nodes = nodes_are c.one_graph.ensures exe last c.args.caches.now.graph (original_is_guest exe c.requires.original) c.requires.graph in
    let keys = c.as_slice-2.ensures.value ∙ c.in_ok-keys.ensures last nodes in
    c.in_ok-laid.ensures.layout ∙ ap (layout_of exe) keys

pub returns-clause-keys : goal.returns-clause-keys
returns-clause-keys g c =
    c.in_ok-keys.ensures c.args.caches.now.last
    (nodes_are c.one_graph.ensures c.args.exe.now c.args.caches.now.last c.args.caches.now.graph (original_is_guest c.args.exe.now c.requires.original) c.requires.graph)

pub returns-clause-fragments : goal.returns-clause-fragments
returns-clause-fragments g c =
    let exe = c.args.exe.now in
    let last = c.args.caches.now.last in
    let nodes = nodes_are c.one_graph.ensures exe last c.args.caches.now.graph (original_is_guest exe c.requires.original) c.requires.graph in
    let keys = c.as_slice-2.ensures.value ∙ c.in_ok-keys.ensures last nodes in
    c.in_ok-laid.ensures.fragments ∙ ap (codes_of exe) keys

pub returns-clause-made : goal.returns-clause-made
returns-clause-made g c =
    let exe = c.args.exe.now in
    let last = c.args.caches.now.last in
    let nodes = nodes_are c.one_graph.ensures exe last c.args.caches.now.graph (original_is_guest exe c.requires.original) c.requires.graph in
    let keys = c.as_slice-2.ensures.value ∙ c.in_ok-keys.ensures last nodes in
    c.in_ok-laid.ensures.made ∙ ap (fresh c.args.before.now) keys

pub returns-clause-done : goal.returns-clause-done
returns-clause-done g c =
    let exe = c.args.exe.now in
    let last = c.args.caches.now.last in
    let nodes = nodes_are c.one_graph.ensures exe last c.args.caches.now.graph (original_is_guest exe c.requires.original) c.requires.graph in
    let keys = c.as_slice-2.ensures.value ∙ c.in_ok-keys.ensures last nodes in
    c.in_ok-laid.ensures.done ∙ ap (λ k. c.args.steps.now + fresh c.args.before.now k) keys

pub returns-clause-at_most : goal.returns-clause-at_most
returns-clause-at_most g c =
    let exe = c.args.exe.now in
    let last = c.args.caches.now.last in
    let nodes = nodes_are c.one_graph.ensures exe last c.args.caches.now.graph (original_is_guest exe c.requires.original) c.requires.graph in
    let keys = c.as_slice-2.ensures.value ∙ c.in_ok-keys.ensures last nodes in
    subst (λ k. c.laid_out.new.steps ≤ c.args.steps.now + fresh c.args.before.now k) keys c.laid_out.ensures.at_most

pub returns-clause-short : goal.returns-clause-short
returns-clause-short g c =
    let exe = c.args.exe.now in
    let last = c.args.caches.now.last in
    let nodes = nodes_are c.one_graph.ensures exe last c.args.caches.now.graph (original_is_guest exe c.requires.original) c.requires.graph in
    let keys = c.as_slice-2.ensures.value ∙ c.in_ok-keys.ensures last nodes in
    λ t. (let l = (c.layouts_build.ensures.long exe last).1 t in
    let e = ap code_length c.in_ok-laid.ensures.layout ∙ ap (λ k. code_length (layout_of exe k)) keys in
    omega (arith, l, e, c.in_ok-laid.ensures.short))

pub returns-in_err-laid-clause-at_most : goal.returns-in_err-laid-clause-at_most
returns-in_err-laid-clause-at_most g c =
    let exe = c.args.exe.now in
    let last = c.args.caches.now.last in
    let nodes = nodes_are c.one_graph.ensures exe last c.args.caches.now.graph (original_is_guest exe c.requires.original) c.requires.graph in
    let keys = c.as_slice-2.ensures.value ∙ c.in_ok-keys.ensures last nodes in
    subst (λ k. c.laid_out.new.steps ≤ c.args.steps.now + fresh c.args.before.now k) keys c.laid_out.ensures.at_most

pub returns-in_err-laid-clause-long : goal.returns-in_err-laid-clause-long
returns-in_err-laid-clause-long g c =
    let exe = c.args.exe.now in
    let last = c.args.caches.now.last in
    let nodes = nodes_are c.one_graph.ensures exe last c.args.caches.now.graph (original_is_guest exe c.requires.original) c.requires.graph in
    let keys = c.as_slice-2.ensures.value ∙ c.in_ok-keys.ensures last nodes in
    let p = err_from_is_err_and c.from_residual-in_err-laid.result c.from_residual-in_err-laid.ensures.1 in
    rw (p.1, p.2) (λ e. (c.layouts_build.ensures.long exe last).0 (subst (λ k. MAX_CODE < code_length (layout_of exe k)) keys (c.in_err-laid.ensures.long e)))

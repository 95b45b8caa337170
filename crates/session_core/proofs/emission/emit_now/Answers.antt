use Rattle.std.proofs.Common.{◌+◌, ◌≤◌, length, sym, ap, ◌∙◌, subst, arith}
use Rattle.std.specs.List.Sorted.{IsStrictlyIncreasing}
use Rattle.std.proofs.lemmas.Result.{err_from_is_err_and}
use Rattle.elf_read.proofs.Accepted.{original_is_guest}
use Rattle.flow_graph.specs.declared.error.TheConstants.{MAX_BLOCKS}
use Rattle.flow_graph.specs.GraphOf.{graph_of}
use Rattle.code_layout.specs.Keys.{keys_of}
use Rattle.code_layout.specs.Image.{built_of, HasTooManyBlocks, IsTooLong}
use Rattle.code_layout.specs.Layout.{LayoutView, IsWhole, built_by}
use Rattle.session_core.specs.Session.{fresh}
use Rattle.session_core.specs.Kept.{starts_of_keys, codes_of}
use Rattle.session_core.proofs.Follow.{nodes_are}
use Rattle.session_core.proofs.Laying.{added_count}
use Rattle.session_core.proofs.emission.emit_now.Goals as goal

pub follow-requires-clause-guest : goal.follow-requires-clause-guest
follow-requires-clause-guest g c = original_is_guest c.args.exe.now c.requires.original

pub image-requires-clause-whole : goal.image-requires-clause-whole
image-requires-clause-whole g c =
    subst IsWhole (sym c.in_ok-compiled.ensures.layout)
    (c.keys_are_keys.ensures.whole c.args.exe.now c.follow.new.caches.last (original_is_guest c.args.exe.now c.requires.original))

pub image-requires-clause-few : goal.image-requires-clause-few
image-requires-clause-few g c =
    let exe = c.args.exe.now in
    let last = c.follow.new.caches.last in
    let nodes = nodes_are c.one_graph.ensures exe last c.follow.new.caches.graph (original_is_guest exe c.requires.original) c.follow.ensures.after in
    let e = ap (λ (v : LayoutView). length v.added) c.in_ok-compiled.ensures.layout ∙ added_count c.layouts_build.ensures exe last in
    subst (λ n. n ≤ MAX_BLOCKS) (ap length nodes ∙ sym e) c.in_ok-follow.ensures.few

pub returns-clause-file : goal.returns-clause-file
returns-clause-file g c =
    let exe = c.args.exe.now in
    let last = c.follow.new.caches.last in
    c.in_ok-file.ensures
    ∙ ap (built_by exe) c.in_ok-compiled.ensures.layout
    ∙ c.layouts_build.ensures.built exe last c.in_ok-compiled.ensures.short
    ∙ ap (built_of exe) (c.in_ok-follow.ensures.last ∙ c.in_ok-edges.ensures.value)

pub returns-clause-keys : goal.returns-clause-keys
returns-clause-keys g c = c.in_ok-compiled.ensures.keys ∙ ap (keys_of c.args.exe.now) (c.in_ok-follow.ensures.last ∙ c.in_ok-edges.ensures.value)

pub returns-clause-fragments : goal.returns-clause-fragments
returns-clause-fragments g c = c.in_ok-compiled.ensures.fragments ∙ ap (codes_of c.args.exe.now) (sym c.in_ok-compiled.ensures.keys)

pub returns-clause-ascend : goal.returns-clause-ascend
returns-clause-ascend g c =
    subst (λ k. IsStrictlyIncreasing (starts_of_keys k)) (sym c.in_ok-compiled.ensures.keys)
    (c.keys_are_keys.ensures.ascend c.args.exe.now c.follow.new.caches.last (original_is_guest c.args.exe.now c.requires.original))

pub returns-clause-made : goal.returns-clause-made
returns-clause-made g c =
    c.in_ok-compiled.ensures.made ∙ ap (λ e. fresh c.args.before.now (keys_of c.args.exe.now e)) (c.in_ok-follow.ensures.last ∙ c.in_ok-edges.ensures.value)

pub returns-clause-done : goal.returns-clause-done
returns-clause-done g c =
    c.in_ok-compiled.ensures.done ∙ ap (λ e. c.args.steps.now + fresh c.args.before.now (keys_of c.args.exe.now e)) (c.in_ok-follow.ensures.last ∙ c.in_ok-edges.ensures.value)

pub returns-clause-at_most : goal.returns-clause-at_most
returns-clause-at_most g c =
    subst (λ e. c.compile.new.steps ≤ c.args.steps.now + fresh c.args.before.now (keys_of c.args.exe.now e)) (c.in_ok-follow.ensures.last ∙ c.in_ok-edges.ensures.value) c.compile.ensures.at_most

pub returns-clause-few : goal.returns-clause-few
returns-clause-few g c =
    let exe = c.args.exe.now in
    let last = c.follow.new.caches.last in
    let nodes = nodes_are c.one_graph.ensures exe last c.follow.new.caches.graph (original_is_guest exe c.requires.original) c.follow.ensures.after in
    let e = ap length (nodes ∙ ap (graph_of exe) (c.in_ok-follow.ensures.last ∙ c.in_ok-edges.ensures.value)) in
    λ h. omega (arith, h, e, c.in_ok-follow.ensures.few)

pub returns-clause-short : goal.returns-clause-short
returns-clause-short g c = λ h.
    c.in_ok-compiled.ensures.short (subst (IsTooLong c.args.exe.now) (sym (c.in_ok-follow.ensures.last ∙ c.in_ok-edges.ensures.value)) h)

pub returns-in_err-file-clause-at_most : goal.returns-in_err-file-clause-at_most
returns-in_err-file-clause-at_most g c =
    subst (λ e. c.compile.new.steps ≤ c.args.steps.now + fresh c.args.before.now (keys_of c.args.exe.now e)) (c.in_ok-follow.ensures.last ∙ c.in_ok-edges.ensures.value) c.compile.ensures.at_most

pub returns-in_err-compiled-clause-at_most : goal.returns-in_err-compiled-clause-at_most
returns-in_err-compiled-clause-at_most g c =
    subst (λ e. c.compile.new.steps ≤ c.args.steps.now + fresh c.args.before.now (keys_of c.args.exe.now e)) (c.in_ok-follow.ensures.last ∙ c.in_ok-edges.ensures.value) c.compile.ensures.at_most

pub returns-in_err-follow-clause-blocks : goal.returns-in_err-follow-clause-blocks
returns-in_err-follow-clause-blocks g c =
    let p = err_from_is_err_and c.from_residual-in_err-follow.result c.from_residual-in_err-follow.ensures.1 in
    rw (p.1, p.2) (λ e. subst (HasTooManyBlocks c.args.exe.now) c.in_ok-edges.ensures.value (c.in_err-follow.ensures.blocks e))

pub returns-in_err-compiled-clause-code : goal.returns-in_err-compiled-clause-code
returns-in_err-compiled-clause-code g c =
    let exe = c.args.exe.now in
    let last = c.follow.new.caches.last in
    let nodes = nodes_are c.one_graph.ensures exe last c.follow.new.caches.graph (original_is_guest exe c.requires.original) c.follow.ensures.after in
    let last_is = c.in_ok-follow.ensures.last ∙ c.in_ok-edges.ensures.value in
    let n = ap length (nodes ∙ ap (graph_of exe) last_is) in
    let p = err_from_is_err_and c.from_residual-in_err-compiled.result c.from_residual-in_err-compiled.ensures.1 in
    rw (p.1, p.2) (λ e. (λ h. omega (arith, h, n, c.in_ok-follow.ensures.few), subst (IsTooLong exe) last_is (c.in_err-compiled.ensures.long e)))

use Rattle.std.proofs.Common.{◌≡◌, ◌<◌, ◌≤◌, List, Result, Ok, Err, IfOk, length, map, sym, ap, ◌∙◌, subst, arith}
use Rattle.std.specs.List.Sorted.{IsStrictlyIncreasing}
use Rattle.std.proofs.lemmas.List.Elements.{All-same}
use Rattle.std.proofs.lemmas.Result.{IfErr-weaker}
use Rattle.elf_read.proofs.Accepted.{original_is_guest}
use Rattle.ssa_form.specs.declared.form.BlockKey.{BlockKey}
use Rattle.flow_graph.specs.declared.error.TheConstants.{MAX_BLOCKS}
use Rattle.block_make.specs.Keys.{IsKey}
use Rattle.code_layout.specs.declared.place.TheConstants.{MAX_CODE}
use Rattle.code_layout.specs.declared.built.BuildError.TheVariants.{Code}
use Rattle.code_layout.specs.Keys.{keys_of}
use Rattle.code_layout.specs.Linked.{has_key}
use Rattle.code_layout.specs.Image.{IsTooLong}
use Rattle.code_layout.specs.Layout.{IsWhole, code_length, layout_of}
use Rattle.code_layout.proofs.laid.laid_out.Goals as goal

-- what is known of a value by two clauses
both : {X Y : Type 0} (r : Result X Y) (P Q R : X → Type 0) → ((x : X) → P x → Q x → R x) → IfOk r P → IfOk r Q → IfOk r R
both (Ok x) P Q R f p q = f x p q
both (Err e) P Q R f p q = tt

pub keys_of-requires-clause-guest : goal.keys_of-requires-clause-guest
keys_of-requires-clause-guest c = original_is_guest c.args.exe.now c.requires.original

pub keys_of-requires-clause-graph : goal.keys_of-requires-clause-graph
keys_of-requires-clause-graph c = (c.args.edges.now, c.requires.graph)

pub layout_of-requires-clause-guest : goal.layout_of-requires-clause-guest
layout_of-requires-clause-guest c = original_is_guest c.args.exe.now c.requires.original

pub layout_of-requires-clause-entry : goal.layout_of-requires-clause-entry
layout_of-requires-clause-entry c =
    let exe = c.args.exe.now in
    let keys = c.as_slice.ensures.value ∙ c.in_ok-keys.ensures c.args.edges.now c.requires.graph in
    c.is_entry_known-known.ensures c.args.edges.now c.requires.graph ∙ sym (ap (λ k. has_key k exe.entry) keys)

pub layout_of-requires-clause-each : goal.layout_of-requires-clause-each
layout_of-requires-clause-each c =
    let exe = c.args.exe.now in
    let keys = c.as_slice.ensures.value ∙ c.in_ok-keys.ensures c.args.edges.now c.requires.graph in
    let few = subst (λ g. length g ≤ MAX_BLOCKS) c.requires.graph c.requires.few in
    All-same (IsKey exe) c.as_slice.result.now (keys_of exe c.args.edges.now) keys
    (c.keys_are_keys.ensures.each exe c.args.edges.now (original_is_guest exe c.requires.original) c.len-in_order.ensures.edges.order few)

pub layout_of-requires-clause-order : goal.layout_of-requires-clause-order
layout_of-requires-clause-order c =
    let exe = c.args.exe.now in
    let keys = c.as_slice.ensures.value ∙ c.in_ok-keys.ensures c.args.edges.now c.requires.graph in
    subst (λ (k : List BlockKey). IsStrictlyIncreasing (map (λ (key : BlockKey). key.start) k)) (sym keys)
    (c.keys_are_keys.ensures.ascend exe c.args.edges.now (original_is_guest exe c.requires.original))

pub layout_of-requires-clause-whole : goal.layout_of-requires-clause-whole
layout_of-requires-clause-whole c =
    let exe = c.args.exe.now in
    let keys = c.as_slice.ensures.value ∙ c.in_ok-keys.ensures c.args.edges.now c.requires.graph in
    subst (λ k. IsWhole (layout_of exe k)) (sym keys) (c.keys_are_keys.ensures.whole exe c.args.edges.now (original_is_guest exe c.requires.original))

pub returns-clause-short : goal.returns-clause-short
returns-clause-short c =
    let exe = c.args.exe.now in
    let ks = c.as_slice.result.now in
    let keys = c.as_slice.ensures.value ∙ c.in_ok-keys.ensures c.args.edges.now c.requires.graph in
    both c.layout_of.result (λ l. l ≡ layout_of exe ks) (λ l. code_length l ≤ MAX_CODE) (λ l. IsTooLong exe c.args.edges.now → ⊥)
    (λ l e s long. let m = (c.layouts_build.ensures.long exe c.args.edges.now).1 long in
    let n = ap code_length e ∙ ap (λ k. code_length (layout_of exe k)) keys in
    omega (arith, m, n, s))
    c.layout_of.ensures.layout c.layout_of.ensures.short

pub returns-clause-long : goal.returns-clause-long
returns-clause-long c =
    let exe = c.args.exe.now in
    let ks = c.as_slice.result.now in
    let keys = c.as_slice.ensures.value ∙ c.in_ok-keys.ensures c.args.edges.now c.requires.graph in
    IfErr-weaker c.layout_of.result (λ e. e ≡ Code → MAX_CODE < code_length (layout_of exe ks)) (λ e. e ≡ Code → IsTooLong exe c.args.edges.now)
    (λ e long is. (c.layouts_build.ensures.long exe c.args.edges.now).0 (subst (λ n. MAX_CODE < n) (ap (λ k. code_length (layout_of exe k)) keys) (long is)))
    c.layout_of.ensures.long

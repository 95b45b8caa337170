use Rattle.std.proofs.Common.{◌≡◌, ◌≤◌, length, sym, ap, ◌∙◌, subst}
use Rattle.std.proofs.lemmas.List.{length-map}
use Rattle.elf_read.proofs.Accepted.{original_is_guest}
use Rattle.ssa_form.specs.declared.form.BlockKey.{BlockKey}
use Rattle.flow_graph.specs.declared.error.TheConstants.{MAX_BLOCKS}
use Rattle.block_make.specs.FragmentCode.{coded}
use Rattle.code_layout.specs.Keys.{keys_of}
use Rattle.code_layout.specs.Layout.{LayoutView, IsWhole, built_by}
use Rattle.build_core.proofs.image.build.Goals as goal

pub graph_of-requires : goal.graph_of-requires
graph_of-requires c = original_is_guest c.args.exe.now c.requires

pub image-requires-clause-whole : goal.image-requires-clause-whole
image-requires-clause-whole c =
    subst IsWhole (sym c.in_ok-layout.ensures.layout)
    (c.keys_are_keys.ensures.whole c.args.exe.now c.args.edges.now (original_is_guest c.args.exe.now c.requires))

pub image-requires-clause-few : goal.image-requires-clause-few
image-requires-clause-few c =
    let exe = c.args.exe.now in
    let e = ap (λ (v : LayoutView). length v.added) c.in_ok-layout.ensures.layout
    ∙ length-map (keys_of exe c.args.edges.now) (λ (key : BlockKey). record { start = key.start; code = coded exe key })
    ∙ c.layouts_build.ensures.count exe c.args.edges.now in
    subst (λ n. n ≤ MAX_BLOCKS) (ap length c.in_ok-graph.ensures.graph ∙ sym e) c.in_ok-graph.ensures.few

pub returns-clause-built : goal.returns-clause-built
returns-clause-built c =
    c.into_built.ensures
    ∙ c.in_ok-image.ensures
    ∙ ap (built_by c.args.exe.now) c.in_ok-layout.ensures.layout
    ∙ c.layouts_build.ensures.built c.args.exe.now c.args.edges.now c.in_ok-layout.ensures.short

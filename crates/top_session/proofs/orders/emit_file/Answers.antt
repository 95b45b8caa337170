use Rattle.std.proofs.Common.{◌∙◌}
use Rattle.code_layout.specs.Image.{built_of}
use Rattle.session_core.specs.Session.{live_edges}
use Rattle.top_build.proofs.ImageStored.{built_passes, answered, blocks_pass_limit, code_passes_limit}
use Rattle.top_session.proofs.orders.emit_file.Goals as goal

pub returns-in-Ok-clause-emits : goal.returns-in-Ok-clause-emits
returns-in-Ok-clause-emits c =
    let b = built_of c.args.session.now.exe (live_edges c.args.session.now) in
    (answered b _ (c.into_built.ensures ∙ c.in-Ok.ensures.built) (built_passes b c.in-Ok.ensures.few c.in-Ok.ensures.short), c.in-Ok.ensures.after)

pub returns-in-Err-Blocks-clause-emits : goal.returns-in-Err-Blocks-clause-emits
returns-in-Err-Blocks-clause-emits c = blocks_pass_limit (built_of c.args.session.now.exe (live_edges c.args.session.now)) (c.in-Err-Blocks.ensures.blocks c.in-Err-Blocks.field-0-is)

pub returns-in-Err-Code-clause-emits : goal.returns-in-Err-Code-clause-emits
returns-in-Err-Code-clause-emits c =
    let h = c.in-Err-Code.ensures.code c.in-Err-Code.field-0-is in code_passes_limit (built_of c.args.session.now.exe (live_edges c.args.session.now)) h.0 h.1

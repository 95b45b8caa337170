use Rattle.std.proofs.Common.{◌<◌, Err, ap, subst}
use Rattle.block_make.specs.FragmentCode.{OpenCode}
use Rattle.code_layout.specs.declared.place.TheConstants.{MAX_CODE}
use Rattle.code_layout.specs.Layout.{code_length, with_added}
use Rattle.session_core.proofs.laid.put.Goals as goal

pub returns-in-Err-TooLong-clause-long : goal.returns-in-Err-TooLong-clause-long
returns-in-Err-TooLong-clause-long g c = λ e.
    subst (λ (code : OpenCode). MAX_CODE < code_length (with_added c.args.layout.now c.args.start code)) c.fragment.ensures
    (c.in-Err-TooLong.ensures.long.0 (ap Err c.in-Err-TooLong.field-0-is))

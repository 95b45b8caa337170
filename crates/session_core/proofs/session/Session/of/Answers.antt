use Rattle.elf_read.proofs.Accepted.{original_is_guest}
use Rattle.session_core.proofs.session.Session.of.Goals as goal

pub no_caches-requires : goal.no_caches-requires
no_caches-requires g c = original_is_guest c.args.exe c.requires

use Rattle.std.proofs.Common.{map, string_bytes}
use Rattle.word_reader.specs.Reads.{asked_of}
use Rattle.binrec.proofs.WordsFit.{fit_read}
use Rattle.binrec.proofs.words.read_command.Goals as goal

pub returns-in-Ok-clause-fitting : goal.returns-in-Ok-clause-fitting
returns-in-Ok-clause-fitting c = fit_read (map string_bytes c.args.words.now) (asked_of c.in-Ok.command) c.in-Ok.ensures

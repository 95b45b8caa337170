use Rattle.word_reader.proofs.NamesStand as lemmas
use Rattle.word_reader.proofs.law.names_stand.Goals as goal

pub returns : goal.returns
returns c = lemmas.names_stand

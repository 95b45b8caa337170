use Rattle.sim_laws.proofs.FewerMarks as lemmas
use Rattle.sim_laws.proofs.marks.fewer_marks.Goals as goal

pub returns : goal.returns
returns c = record { run = lemmas.fewer_marks; states = lemmas.marks_alone }

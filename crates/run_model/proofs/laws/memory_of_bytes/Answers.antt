use Rattle.br_word.specs.Memory.{bytes_of}
use Rattle.run_model.proofs.KeptRegions.{load_small, word_bytes, written_bytes}
use Rattle.run_model.proofs.laws.memory_of_bytes.Goals as goal

pub returns : goal.returns
returns c = record { load = load_small; store = λ at n v rs ss h e. written_bytes at (bytes_of n v) rs ss (word_bytes n v) h e }

use Rattle.acq_words.proofs.PlainLists as plain
use Rattle.acq_words.proofs.laws.example_is_plain.Goals as goal

pub returns : goal.returns
returns c = plain.example_is_plain

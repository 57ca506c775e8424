use Rattle.acq_words.proofs.PlainLists as plain
use Rattle.acq_words.proofs.laws.plain_lists_are_taken.Goals as goal

pub returns : goal.returns
returns c = plain.plain_lists_are_taken

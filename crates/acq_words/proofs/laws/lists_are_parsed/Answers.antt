use Rattle.acq_words.proofs.Lists as lists
use Rattle.acq_words.proofs.laws.lists_are_parsed.Goals as goal

pub returns : goal.returns
returns c = lists.lists_are_parsed

use Rattle.propagators.proofs.Words.{no_words}
use Rattle.propagators.proofs.waiting.Waiting.empty.Goals as goal

pub returns : goal.returns
returns c = no_words

use Rattle.voc_read.proofs.OneReading.{one_language}
use Rattle.voc_read.proofs.laws.no_two_languages.Goals as goal

pub returns : goal.returns
returns c = one_language

use Rattle.language.proofs.OneLanguage.{one_built}
use Rattle.language.proofs.laws.built_is_one.Goals as goal

pub returns : goal.returns
returns c = one_built

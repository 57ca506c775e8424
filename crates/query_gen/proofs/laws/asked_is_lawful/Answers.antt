use Rattle.query_gen.proofs.Prelude.{found_is_lawful}
use Rattle.query_gen.proofs.Told.{asked_is_lawful}
use Rattle.query_gen.proofs.laws.asked_is_lawful.Goals as goal

pub returns : goal.returns
returns c = asked_is_lawful found_is_lawful

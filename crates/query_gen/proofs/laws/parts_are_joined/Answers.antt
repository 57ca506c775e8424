use Rattle.query_gen.proofs.Parts.{parts_are_joined}
use Rattle.query_gen.proofs.laws.parts_are_joined.Goals as goal

pub returns : goal.returns
returns c = parts_are_joined

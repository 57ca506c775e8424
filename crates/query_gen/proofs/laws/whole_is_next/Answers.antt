use Rattle.query_gen.proofs.Parts.{whole_is_next}
use Rattle.query_gen.proofs.laws.whole_is_next.Goals as goal

pub returns : goal.returns
returns c = whole_is_next

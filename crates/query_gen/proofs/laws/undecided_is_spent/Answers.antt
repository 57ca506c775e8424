use Rattle.query_gen.proofs.Prelude.{absent_is_implied, spent_is_long}
use Rattle.query_gen.proofs.Told.{undecided_is_spent}
use Rattle.query_gen.proofs.laws.undecided_is_spent.Goals as goal

pub returns : goal.returns
returns c = undecided_is_spent absent_is_implied spent_is_long

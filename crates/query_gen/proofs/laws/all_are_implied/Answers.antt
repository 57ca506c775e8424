use Rattle.query_gen.proofs.Prelude.{absent_is_implied}
use Rattle.query_gen.proofs.Told.{all_are_implied}
use Rattle.query_gen.proofs.laws.all_are_implied.Goals as goal

pub returns : goal.returns
returns c = all_are_implied absent_is_implied

use Rattle.query_gen.proofs.Prelude.{absent_stays}
use Rattle.query_gen.proofs.Marking.{marks_stay}
use Rattle.query_gen.proofs.laws.marks_stay.Goals as goal

pub returns : goal.returns
returns c = marks_stay absent_stays

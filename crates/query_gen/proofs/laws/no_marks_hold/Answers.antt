use Rattle.query_gen.proofs.Marking.{no_marks_hold}
use Rattle.query_gen.proofs.laws.no_marks_hold.Goals as goal

pub returns : goal.returns
returns c = no_marks_hold

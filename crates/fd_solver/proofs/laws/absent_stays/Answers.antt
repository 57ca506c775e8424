use Rattle.fd_solver.proofs.Outcomes.{absent_stays}
use Rattle.fd_solver.proofs.laws.absent_stays.Goals as goal

pub returns : goal.returns
returns c = absent_stays

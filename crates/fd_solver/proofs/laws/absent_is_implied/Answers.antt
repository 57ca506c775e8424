use Rattle.fd_solver.proofs.Outcomes.{absent_is_implied}
use Rattle.fd_solver.proofs.laws.absent_is_implied.Goals as goal

pub returns : goal.returns
returns c = absent_is_implied

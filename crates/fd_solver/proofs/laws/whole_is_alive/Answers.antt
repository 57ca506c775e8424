use Rattle.fd_solver.proofs.Outcomes.{whole_is_alive}
use Rattle.fd_solver.proofs.laws.whole_is_alive.Goals as goal

pub returns : goal.returns
returns c = whole_is_alive

use Rattle.fd_solver.proofs.Outcomes.{alive_is_allowed}
use Rattle.fd_solver.proofs.laws.alive_is_allowed.Goals as goal

pub returns : goal.returns
returns c = alive_is_allowed

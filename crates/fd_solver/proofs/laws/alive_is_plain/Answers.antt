use Rattle.fd_solver.proofs.Outcomes.{alive_is_plain}
use Rattle.fd_solver.proofs.laws.alive_is_plain.Goals as goal

pub returns : goal.returns
returns c = alive_is_plain

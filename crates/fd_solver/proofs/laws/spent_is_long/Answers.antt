use Rattle.fd_solver.proofs.Outcomes.{spent_is_long}
use Rattle.fd_solver.proofs.laws.spent_is_long.Goals as goal

pub returns : goal.returns
returns c = spent_is_long

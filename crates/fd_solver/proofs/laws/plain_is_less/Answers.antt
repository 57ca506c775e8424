use Rattle.fd_solver.proofs.Outcomes.{plain_is_less}
use Rattle.fd_solver.proofs.laws.plain_is_less.Goals as goal

pub returns : goal.returns
returns c = plain_is_less

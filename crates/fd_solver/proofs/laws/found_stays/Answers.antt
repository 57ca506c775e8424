use Rattle.fd_solver.proofs.Outcomes.{found_stays}
use Rattle.fd_solver.proofs.laws.found_stays.Goals as goal

pub returns : goal.returns
returns c = found_stays

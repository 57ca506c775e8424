use Rattle.fd_solver.proofs.Outcomes.{found_is_lawful}
use Rattle.fd_solver.proofs.laws.found_is_lawful.Goals as goal

pub returns : goal.returns
returns c = found_is_lawful

use Rattle.propagators.proofs.Entailing.{none_entailed}
use Rattle.propagators.proofs.entailed.Entailed.none.Goals as goal

pub returns : goal.returns
returns c = λ arcs p f. none_entailed arcs p f

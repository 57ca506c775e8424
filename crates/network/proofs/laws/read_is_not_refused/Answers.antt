use Rattle.network.proofs.laws.read_is_not_refused.Goals as goal

pub returns : goal.returns
returns c = λ l bytes network fault read refused. cc

use Rattle.session_store.proofs.replay.replay.Goals as goal
use Rattle.shared_lemmas.proofs.Read.{none_given}

pub returns-in_err-records-clause-lang : goal.returns-in_err-records-clause-lang
returns-in_err-records-clause-lang c = none_given _ _ c.from_residual.result c.from_residual.ensures.1

pub returns-in_err-records-clause-plan : goal.returns-in_err-records-clause-plan
returns-in_err-records-clause-plan c = none_given _ _ c.from_residual.result c.from_residual.ensures.1

pub returns-in_err-records-clause-stands : goal.returns-in_err-records-clause-stands
returns-in_err-records-clause-stands c = none_given _ _ c.from_residual.result c.from_residual.ensures.1

pub returns-in_err-records-clause-settled : goal.returns-in_err-records-clause-settled
returns-in_err-records-clause-settled c = none_given _ _ c.from_residual.result c.from_residual.ensures.1

pub returns-in_err-records-clause-places : goal.returns-in_err-records-clause-places
returns-in_err-records-clause-places c = none_given _ _ c.from_residual.result c.from_residual.ensures.1

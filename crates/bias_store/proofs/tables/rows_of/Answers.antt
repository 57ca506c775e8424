use Rattle.bias_store.proofs.tables.rows_of.Goals as goal
use Rattle.shared_lemmas.proofs.Read.{none_given}

pub returns-in_err-rows : goal.returns-in_err-rows
returns-in_err-rows c = none_given _ _ c.from_residual.result c.from_residual.ensures.1

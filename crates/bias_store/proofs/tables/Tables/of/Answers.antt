use Rattle.bias_store.proofs.tables.Tables.of.Goals as goal
use Rattle.shared_lemmas.proofs.Read.{none_given}

pub returns-in_err-begin : goal.returns-in_err-begin
returns-in_err-begin c = none_given _ _ c.from_residual.result c.from_residual.ensures.1

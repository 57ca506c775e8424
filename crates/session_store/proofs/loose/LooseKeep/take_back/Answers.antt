use Rattle.session_store.proofs.Prelude.{refl, inl, none_done, false_is_not_true}
use Rattle.session_store.proofs.Stores.{want_of_memory}
use Rattle.session_store.proofs.loose.LooseKeep.take_back.Goals as goal

pub returns-in_err-records-clause-refused : goal.returns-in_err-records-clause-refused
returns-in_err-records-clause-refused g c = want_of_memory _ _ c.from_residual.result c.from_residual.ensures.1 (refl, refl, refl)

pub returns-in_err-records-clause-leaves : goal.returns-in_err-records-clause-leaves
returns-in_err-records-clause-leaves g c = record { raised = none_done _ _ c.from_residual.result c.from_residual.ensures.1; stays_raised = inl refl; unwritten = λ no. refl; written = λ w. absurd (false_is_not_true w) }

pub returns-clause-leaves : goal.returns-clause-leaves
returns-clause-leaves g c = record { raised = refl; stays_raised = inl refl; unwritten = λ no. refl; written = λ w. absurd (false_is_not_true w) }

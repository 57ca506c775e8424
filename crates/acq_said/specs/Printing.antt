-- What `cnf` says of a session.
use Rattle.std.specs.Prelude.{◌∷◌, ◌++◌}
use Rattle.acq_said.specs.Prelude.{ℕ, List, [], Result, Ok, Err, codes, CnfFault}
use Rattle.acq_said.specs.Saying.{Saying, saying}
use Rattle.acq_loop.specs.declared.ending.Ending.TheVariants as ending

-- the text of the clauses, or that it is too large
abbrev pub clauses_said : Result (List ℕ) CnfFault → Saying
clauses_said (Ok text) = saying text ending.Done
clauses_said (Err fault) = saying (codes "refused cnf too large" ++ 10 ∷ []) ending.CnfTooLarge

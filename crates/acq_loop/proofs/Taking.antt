-- What is left of a source.
use Rattle.acq_loop.proofs.Prelude.{ℕ, List, [], Option, TakesSome, takes_none}

-- nothing was taken
pub takes_same : (left : Option (List ℕ)) → TakesSome left left
takes_same left = ([], takes_none left)

-- What holds where a call ends with an error.
use Rattle.session_store.proofs.Prelude.{Result, Ok, Err, IsErrAnd}
use Rattle.std.specs.Result.{IfOk}

-- What holds where a call ends with an error, whatever error it is or by which one.
use Rattle.std.proofs.Common.{◌≡◌, Result, Ok, Err, IfOk, IfErr, subst}
use Rattle.std.specs.Result.{IsErrAnd}

-- of the error, by what is known of it
pub refusal : {T E : Type 0} (P Q : E → Type 0) (r : Result T E) → IsErrAnd r Q → ((e : E) → Q e → P e) → IfErr r P
refusal P Q (Ok x) failed says = tt
refusal P Q (Err e) failed says = says e failed

-- where it is this error
pub ended_by : {T E : Type 0} (P : Type 0) (Q : E → Type 0) (r : Result T E) (e : E) → IsErrAnd r Q → (Q e → P) → r ≡ Err e → P
ended_by P Q (Ok x) e failed says is = absurd failed
ended_by P Q (Err y) e failed says is =
    let same : y ≡ e = cc in
    says (subst Q same failed)

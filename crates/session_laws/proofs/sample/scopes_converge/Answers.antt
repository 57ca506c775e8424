use Rattle.session_laws.proofs.Prelude.{refl, None, set_where, covered_converged, read_on}
use Rattle.session_laws.proofs.ExampleLanguages.{equal_or_not_is}
use Rattle.session_laws.proofs.ScopeByScope.{scopes_are_covered}
use Rattle.session_laws.proofs.sample.scopes_converge.Goals as goal

pub returns : goal.returns
unfolding set_where read_on
returns c =
    let covered = scopes_are_covered _ _ _ None equal_or_not_is refl refl in
    record { language = equal_or_not_is; converged = covered_converged _ _ _ equal_or_not_is covered.0 covered.1 }

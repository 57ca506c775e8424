use Rattle.session_laws.proofs.ScopeByScope.{scopes_are_covered}
use Rattle.session_laws.proofs.laws.scopes_are_covered.Goals as goal

pub returns : goal.returns
returns c = scopes_are_covered

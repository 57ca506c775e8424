use Rattle.session_laws.proofs.ScopeByScope.{scopes_never_over}
use Rattle.session_laws.proofs.laws.scopes_never_over.Goals as goal

pub returns : goal.returns
returns c = scopes_never_over

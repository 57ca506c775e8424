use Rattle.session_store.proofs.Prelude.{sym, subst, IsStorable}
use Rattle.session_store.proofs.held.Held.event.Goals as goal

pub returns-clause-storable : goal.returns-clause-storable
returns-clause-storable c = subst IsStorable (sym c.widened-question.ensures) c.requires.storable

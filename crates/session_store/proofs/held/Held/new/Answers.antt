use Rattle.session_store.proofs.Prelude.{All-weaker, IsStorableEvent, IsWide}
use Rattle.session_store.proofs.Storables.{storable_wide}
use Rattle.session_store.proofs.held.Held.new.Goals as goal

pub returns-clause-sound : goal.returns-clause-sound
returns-clause-sound c = record { stands = c.requires.stands; few = c.requires.few; wide = All-weaker IsStorableEvent IsWide storable_wide c.args.events.items c.requires.storable; places = c.requires.places }

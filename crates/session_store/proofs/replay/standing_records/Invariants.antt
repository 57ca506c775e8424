use Rattle.session_store.proofs.Prelude.{AreStandingNumbers}
use Rattle.session_store.proofs.replay.standing_records.Given as goal

abbrev pub invariant-loop-i : goal.invariant-loop-i
invariant-loop-i l = AreStandingNumbers l.events.items l.i l.records.items

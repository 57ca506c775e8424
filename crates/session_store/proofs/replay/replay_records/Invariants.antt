use Rattle.session_store.proofs.Prelude.{knowledge_of, recorded, IsReplayed}
use Rattle.session_store.proofs.replay.replay_records.Given as goal

abbrev pub invariant-loop-record : goal.invariant-loop-record
invariant-loop-record l = IsReplayed (knowledge_of l.fn.session).lang (knowledge_of l.fn.session).plan (recorded l.fn.events.items) l.record-index l.session

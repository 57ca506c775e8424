use Rattle.acq_said.proofs.Prelude.{◌≡◌, take, variable_count, all_seen, recorded}
use Rattle.acq_said.proofs.certifying.entries_of.Given as goal

abbrev pub invariant-loop-record : goal.invariant-loop-record
invariant-loop-record l = l.entries.items ≡ all_seen (variable_count l.lang) (take l.record-index (recorded l.events.items))

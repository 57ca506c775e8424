use Rattle.acq_said.proofs.Prelude.{◌≡◌, ◌++◌, take, string_bytes, variable_count, all_seen, recorded, answer_lines}
use Rattle.acq_said.proofs.shows.push_events.Given as goal

abbrev pub invariant-loop-i : goal.invariant-loop-i
invariant-loop-i l = string_bytes l.text ≡ string_bytes l.initial.text ++ answer_lines l.lang 1 (all_seen (variable_count l.lang) (take l.i (recorded l.events.items)))

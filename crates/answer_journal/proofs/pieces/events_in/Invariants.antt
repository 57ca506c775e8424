use Rattle.answer_journal.proofs.Prelude.{◌≤◌, ◌<◌, ◌+◌, ◌-◌, ℕ, List, length, Record, MOST_RECORDS, AreRecordsRead}
use Rattle.answer_journal.proofs.RecordLoop.{Went}
use Rattle.answer_journal.proofs.pieces.events_in.Given as goal

abbrev pub invariant-records : goal.invariant-records
invariant-records l = record {
  read : (start : ℕ) (records : List Record) → AreRecordsRead records start l.at l.initial.events.items l.initial.raised → Went start records l.piece l.rest (l.at + (length l.piece - length l.rest)) l.events.items l.raised;
  few : length l.events.items < MOST_RECORDS;
  shorter : length l.rest ≤ length l.piece;
}

abbrev pub decreases-records : goal.decreases-records
decreases-records l = length l.rest

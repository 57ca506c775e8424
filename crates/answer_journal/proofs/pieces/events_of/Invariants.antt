use Rattle.answer_journal.proofs.Prelude.{◌≡◌, ◌≤◌, ◌+◌, ◌-◌, ◌*◌, ℕ, List, Some, length, TakesPieces, MOST_RECORDS, IsOnlyRead}
use Rattle.answer_journal.proofs.RecordLoop.{HasRead}
use Rattle.answer_journal.proofs.pieces.events_of.Given as goal

abbrev pub invariant-pieces : goal.invariant-pieces
invariant-pieces g l = record {
  read : HasRead l.start l.at l.events.items l.raised (g.D.Disk.content l.initial.disk);
  only_read : IsOnlyRead g.D.Disk l.initial.disk l.disk;
  calls : (x : List ℕ) → g.D.Disk.content l.initial.disk ≡ Some x → TakesPieces (length l.initial.buffer) x → 4194047 * g.D.Disk.calls l.disk + l.start ≤ 4194047 * g.D.Disk.calls l.initial.disk + l.at;
}

-- so many bytes the events and the record that raises the journal have at most
abbrev pub decreases-pieces : goal.decreases-pieces
decreases-pieces g l = l.start + 264 * MOST_RECORDS + 7 - l.at

use Rattle.std.proofs.Common.{rules}
use Rattle.acq_io.proofs.memory.MemSourceSource.read.Goals as goal

pub returns-then-fails_now-clause-err : goal.returns-then-fails_now-clause-err
returns-then-fails_now-clause-err c = search rules

pub returns-then-fails_now-clause-unread : goal.returns-then-fails_now-clause-unread
returns-then-fails_now-clause-unread c = search rules

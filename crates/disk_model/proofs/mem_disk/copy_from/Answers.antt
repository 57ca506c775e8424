use Rattle.std.proofs.Common.{rules}
use Rattle.disk_model.proofs.mem_disk.copy_from.Goals as goal

pub returns-then-at-bytes-clause-count : goal.returns-then-at-bytes-clause-count
returns-then-at-bytes-clause-count c = search rules

pub returns-then-at-bytes-clause-copied : goal.returns-then-at-bytes-clause-copied
returns-then-at-bytes-clause-copied c = search rules

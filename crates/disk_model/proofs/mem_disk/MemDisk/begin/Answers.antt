use Rattle.std.proofs.Common.{rules}
use Rattle.disk_model.proofs.mem_disk.MemDisk.begin.Goals as goal

pub returns-then-is_due-clause-counted : goal.returns-then-is_due-clause-counted
returns-then-is_due-clause-counted c = search rules

pub returns-then-is_due-clause-kept : goal.returns-then-is_due-clause-kept
returns-then-is_due-clause-kept c = search rules

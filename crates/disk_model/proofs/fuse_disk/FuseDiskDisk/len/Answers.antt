use Rattle.std.proofs.Common.{rules}
use Rattle.disk_model.proofs.fuse_disk.FuseDiskDisk.len.Goals as goal

pub returns-clause-one_call : goal.returns-clause-one_call
returns-clause-one_call c = search rules

pub returns-clause-once : goal.returns-clause-once
returns-clause-once c = search rules

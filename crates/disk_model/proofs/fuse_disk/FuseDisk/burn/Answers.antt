use Rattle.std.proofs.Common.{rules}
use Rattle.disk_model.proofs.fuse_disk.FuseDisk.burn.Goals as goal

pub returns-then-self-eq0 : goal.returns-then-self-eq0
returns-then-self-eq0 c = search rules

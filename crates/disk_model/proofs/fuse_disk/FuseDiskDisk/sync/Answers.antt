use Rattle.disk_model.proofs.Prelude.{Some, ap, ◌∙◌, content_of}
use Rattle.disk_model.proofs.fuse_disk.FuseDiskDisk.sync.Goals as goal

pub returns-clause-durable : goal.returns-clause-durable
returns-clause-durable c bytes told = c.sync.ensures.durable bytes (ap (λ d. Some (content_of d)) c.burn.ensures.same ∙ told)

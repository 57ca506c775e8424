use Rattle.std.proofs.Common.{length}
use Rattle.disk_model.specs.Images.{torn-same}
use Rattle.acquire.proofs.file.SystemFileNamedFile.write_all.Goals as goal

pub returns-clause-crash : goal.returns-clause-crash
returns-clause-crash g c f left = (f, tt, torn-same f c.args.at (length c.args.bytes.now))

use Rattle.std.proofs.Common.{◌∙◌, Some, ap, arith}
use Rattle.file_disk.proofs.Lengths.{length_told}
use Rattle.file_disk.proofs.file_disk.FileDiskDisk.write_at.Goals as goal

pub returns-in-Err-clause-written : goal.returns-in-Err-clause-written
returns-in-Err-clause-written g c bytes told =
    let done = c.write_all.ensures.written bytes told in
    record { now = done.now; tells = ap g.F.NamedFile.content c.fault-in-Err.ensures.file ∙ done.tells; torn = done.torn; whole = tt }

pub returns-in-Ok-clause-seen : goal.returns-in-Ok-clause-seen
returns-in-Ok-clause-seen g c now told =
    let long = length_told c.args.at c.args.bytes.now now c.in-Some.length tt (g.F.NamedFile.content c.args.self.now.file) (g.F.NamedFile.content c.write_all.new.self)
    c.in-Ok.ensures.silent c.in-Some.ensures.told c.requires c.in-Ok.ensures.written told in
    ap Some (omega arith)

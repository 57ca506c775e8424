use Rattle.acq_io.proofs.LineLemmas.{line_of-line, line_of-cut, line_of-long}
use Rattle.acq_io.proofs.laws.lines_are_read.Goals as goal

pub returns : goal.returns
returns c = record { whole = line_of-line; cut = line_of-cut; long = line_of-long }

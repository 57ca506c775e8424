use Rattle.acq_io.proofs.LineLemmas.{first_line_of-line, first_line_of-only, first_line_of-long}
use Rattle.acq_io.proofs.laws.first_lines_are_read.Goals as goal

pub returns : goal.returns
returns c = record { whole = first_line_of-line; only = first_line_of-only; long = first_line_of-long }

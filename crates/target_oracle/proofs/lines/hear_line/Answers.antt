use Rattle.std.proofs.Common.{rules}
use Rattle.target_oracle.proofs.lines.hear_line.Goals as goal

pub returns-in-Line-clause-hears : goal.returns-in-Line-clause-hears
returns-in-Line-clause-hears g c = search rules

pub returns-in-Line-clause-called : goal.returns-in-Line-clause-called
returns-in-Line-clause-called g c = search rules

pub returns-in-End-clause-hears : goal.returns-in-End-clause-hears
returns-in-End-clause-hears g c = search rules

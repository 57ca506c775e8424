use Rattle.target_oracle.proofs.Hearings.{line_tells, last_tells}
use Rattle.target_oracle.proofs.lines.hear_last.Goals as goal

pub returns-in-Some-clause-tells : goal.returns-in-Some-clause-tells
returns-in-Some-clause-tells g c = λ written. line_tells c.args.k 0 (g.S.Source.left c.args.source.now) (g.S.Source.left c.hear_line.new.source) written c.in-Some.told c.in-Some.ensures.hears

pub returns-in-None-clause-tells : goal.returns-in-None-clause-tells
returns-in-None-clause-tells g c = λ written. last_tells c.args.k (g.S.Source.left c.args.source.now) (g.S.Source.left c.hear_line.new.source) written c.in-None.ensures.hears

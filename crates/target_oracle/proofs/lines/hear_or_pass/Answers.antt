use Rattle.target_oracle.proofs.Prelude.{suc}
use Rattle.target_oracle.proofs.Hearings.{line_tells, maybe_tells}
use Rattle.target_oracle.proofs.lines.hear_or_pass.Goals as goal

pub returns-in-Some-clause-tells : goal.returns-in-Some-clause-tells
returns-in-Some-clause-tells g c = λ patience.
    line_tells c.args.k (suc patience) (g.S.Source.left c.args.source.now) (g.S.Source.left c.hear_line.new.source) (g.K.Sink.written c.args.sink.now) c.in-Some.told c.in-Some.ensures.hears

pub returns-in-None-clause-tells : goal.returns-in-None-clause-tells
returns-in-None-clause-tells g c =
    maybe_tells c.args.k (g.S.Source.left c.args.source.now) (g.S.Source.left c.hear_line.new.source) (g.K.Sink.written c.args.sink.now) (g.K.Sink.written c.pass_line.new.sink) c.pass_line.result c.in-None.ensures.hears c.pass_line.ensures.cut

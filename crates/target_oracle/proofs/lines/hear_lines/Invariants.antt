use Rattle.target_oracle.proofs.Prelude.{◌≤◌, [], AddsOn, HasCalled, TakesSome, PassedBy}
use Rattle.target_oracle.proofs.lines.hear_lines.Given as goal

abbrev pub invariant-loop-passed : goal.invariant-loop-passed
invariant-loop-passed g l = record {
  passed : PassedBy l.fn.k 999 l._passed (g.S.Source.left l.initial.source) (g.K.Sink.written l.initial.sink) (g.S.Source.left l.source) (g.K.Sink.written l.sink);
  takes : TakesSome (g.S.Source.left l.initial.source) (g.S.Source.left l.source);
  adds : AddsOn (g.K.Sink.written l.initial.sink) (g.K.Sink.written l.sink) [];
  called : HasCalled (g.S.Source.faults l.initial.source) (g.S.Source.faults l.source) (g.S.Source.late l.initial.source) (g.S.Source.late l.source) ⊥;
  later_sink : g.K.Sink.faults l.initial.sink ≤ g.K.Sink.faults l.sink;
}

use Rattle.acq_io.proofs.Prelude.{◌≤◌, ◌-◌, length, Takes, HasCalled, LacksNewline}
use Rattle.acq_io.proofs.whole.read_first_line.Given as goal

abbrev pub invariant-loop-line : goal.invariant-loop-line
invariant-loop-line g l = record {
  taken : Takes (g.S.Source.left l.initial.source) (g.S.Source.left l.source) l.line.items;
  one_line : LacksNewline l.line.items;
  few : length l.line.items ≤ l.most;
  called : HasCalled (g.S.Source.faults l.initial.source) (g.S.Source.faults l.source) (g.S.Source.late l.initial.source) (g.S.Source.late l.source) ⊥;
}

abbrev pub decreases-loop-line : goal.decreases-loop-line
decreases-loop-line g l = l.most - length l.line.items

use Rattle.acq_io.proofs.Prelude.{◌≤◌, ◌-◌, length, Takes, HasCalled, LacksNewline}
use Rattle.acq_io.proofs.lines.read_line.Given as goal

abbrev pub invariant-loop-byte : goal.invariant-loop-byte
invariant-loop-byte g l = record {
  taken : Takes (g.S.Source.left l.initial.source) (g.S.Source.left l.source) l.line;
  one_line : LacksNewline l.line;
  short : length l.line ≤ 256;
  called : HasCalled (g.S.Source.faults l.initial.source) (g.S.Source.faults l.source) (g.S.Source.late l.initial.source) (g.S.Source.late l.source) ⊥;
}

abbrev pub decreases-loop-byte : goal.decreases-loop-byte
decreases-loop-byte g l = 256 - length l.line

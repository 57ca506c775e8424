use Rattle.acq_io.proofs.Prelude.{◌≡◌, ◌≤◌, ◌+◌, ◌-◌, length, Takes, HasCalled}
use Rattle.acq_io.proofs.whole.read_all.Given as goal

abbrev pub invariant-loop-all : goal.invariant-loop-all
invariant-loop-all g l = record {
  taken : Takes (g.S.Source.left l.initial.source) (g.S.Source.left l.source) l.all.items;
  few : length l.all.items ≤ l.most;
  room : length l.place ≡ 4096;
  called : HasCalled (g.S.Source.faults l.initial.source) (g.S.Source.faults l.source) (g.S.Source.late l.initial.source) (g.S.Source.late l.source) ⊥;
}

abbrev pub decreases-loop-all : goal.decreases-loop-all
decreases-loop-all g l = l.most + 1 - length l.all.items

use Rattle.rel_table.proofs.Prelude.{take, All, Above, TruthTable}
use Rattle.rel_table.proofs.closing.place_among.Given as goal

abbrev pub invariant-loop-at : goal.invariant-loop-at
invariant-loop-at l = All (λ (t : TruthTable). Above t.truth l.table.truth) (take l.at l.ordered)

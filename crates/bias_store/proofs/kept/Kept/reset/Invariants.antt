use Rattle.bias_store.proofs.Prelude.{◌≡◌}
use Rattle.bias_store.proofs.Filled.{IsFilled}
use Rattle.bias_store.proofs.kept.Kept.reset.Given as goal

abbrev pub invariant-loop-s : goal.invariant-loop-s
invariant-loop-s l = record {
  filled : IsFilled l.fn.lang l.self-inside.relations l.s l.self-inside.count;
  tables : l.self-inside.tables ≡ l.initial.self-inside.tables;
}

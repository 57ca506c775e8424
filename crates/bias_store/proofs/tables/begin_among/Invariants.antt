use Rattle.bias_store.proofs.tables.begin_among.Given as goal

abbrev pub invariant-loop-class : goal.invariant-loop-class
invariant-loop-class l = Unit {0}

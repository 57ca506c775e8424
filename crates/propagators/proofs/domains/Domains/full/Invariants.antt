use Rattle.propagators.proofs.Filled.{AreFilled}
use Rattle.propagators.proofs.domains.Domains.full.Given as goal

abbrev pub invariant-loop-v : goal.invariant-loop-v
invariant-loop-v l = AreFilled l.lang l.v l.sets

use Rattle.propagators.proofs.Prelude.{[], ◌∷◌, ones_of, continues}
use Rattle.propagators.proofs.Sweeping.{IsSweeping}
use Rattle.propagators.proofs.supports.in_three.Given as goal

abbrev pub invariant-loop-rest : goal.invariant-loop-rest
invariant-loop-rest l = IsSweeping l.fn.first l.rest (ones_of l.fn.second ∷ ones_of l.fn.last ∷ []) (continues l.fn.table l.fn.holding l.fn.at) l.a (ones_of l.b ∷ ones_of l.c ∷ [])

abbrev pub decreases-loop-rest : goal.decreases-loop-rest
decreases-loop-rest l = l.rest

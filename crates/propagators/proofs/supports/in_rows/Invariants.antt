use Rattle.propagators.proofs.Prelude.{[], ◌∷◌, ones_of, goes_by}
use Rattle.propagators.proofs.Sweeping.{IsSweeping}
use Rattle.propagators.proofs.supports.in_rows.Given as goal

abbrev pub invariant-loop-rest : goal.invariant-loop-rest
invariant-loop-rest l = IsSweeping l.fn.first l.rest (ones_of l.fn.last ∷ []) (goes_by l.rows l.fn.holding) l.a (ones_of l.b ∷ [])

abbrev pub decreases-loop-rest : goal.decreases-loop-rest
decreases-loop-rest l = l.rest

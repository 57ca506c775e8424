use Rattle.propagators.proofs.Prelude.{[], ◌∷◌, ones_of, continues}
use Rattle.propagators.proofs.Sweeping.{IsBarren}
use Rattle.propagators.proofs.supports.is_any_in_two.Given as goal

abbrev pub invariant-loop-rest : goal.invariant-loop-rest
invariant-loop-rest l = IsBarren l.fn.first l.rest (ones_of l.fn.last ∷ []) (continues l.fn.table l.fn.holding l.fn.at)

abbrev pub decreases-loop-rest : goal.decreases-loop-rest
decreases-loop-rest l = l.rest

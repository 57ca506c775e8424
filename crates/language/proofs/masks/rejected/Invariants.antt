use Rattle.language.proofs.Prelude.{◌≡◌, ◌==◌, bit_at, rejected_of}
use Rattle.language.proofs.masks.rejected.Given as goal

abbrev pub invariant-loop-x : goal.invariant-loop-x
invariant-loop-x l = l.rejected ≡ rejected_of l.x (λ x. bit_at l.mask x == 1)

use Rattle.language.proofs.Prelude.{◌≡◌, length, digits}
use Rattle.language.proofs.apart.number_in.Given as goal

abbrev pub invariant-loop-rest : goal.invariant-loop-rest
invariant-loop-rest l = digits l.number l.rest ≡ digits 0 l.fn.set

abbrev pub decreases-loop-rest : goal.decreases-loop-rest
decreases-loop-rest l = length l.rest

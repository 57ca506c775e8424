use Rattle.language.proofs.Prelude.{◌≡◌, take}
use Rattle.language.proofs.scopes.set_of.Given as goal

abbrev pub invariant-loop-v : goal.invariant-loop-v
invariant-loop-v l = l.set ≡ take l.v-index l.variables

use Rattle.propagators.proofs.Prelude.{◌≡◌, take, false, list_any, has}
use Rattle.propagators.proofs.revising.touches.Given as goal

abbrev pub invariant-loop-v : goal.invariant-loop-v
invariant-loop-v l = list_any (has l.fn.set) (take l.v-index l.scope) ≡ false

use Rattle.arrayvec.specs.ArrayVec.{array_vec_len}
use Rattle.language.proofs.Prelude.{◌≡◌, ◌+◌, ◌≤◌, ◌++◌, length, take, not, filter, numbers, has}
use Rattle.language.proofs.lang.Language.order_of.Given as goal

abbrev pub invariant-loop-v : goal.invariant-loop-v
invariant-loop-v l = record { put : l.order.items ≡ take l.v-index l.scope; few : array_vec_len l.order ≡ l.v-index }

abbrev pub invariant-loop-v-2 : goal.invariant-loop-v-2
invariant-loop-v-2 l = record { put : l.order.items ≡ l.members ++ filter (λ v. not (has l.members v)) (take l.v (numbers l.v-end)); few : array_vec_len l.order ≤ length l.members + l.v }

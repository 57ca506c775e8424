use Rattle.multi_tree.proofs.Prelude.{◌≡◌, take, false, list_any, is_within}
use Rattle.multi_tree.proofs.listing.first_within.Given as goal

abbrev pub invariant-loop-v : goal.invariant-loop-v
invariant-loop-v l = list_any (λ v. is_within v.variables l.fn.set) (take l.v-index l.list) ≡ false

use Rattle.target_oracle.proofs.Prelude.{◌≡◌, map, filter, numbers}
use Rattle.std.specs.Prelude.{vec_items}
use Rattle.target_oracle.specs.Listing.{is_first}
use Rattle.target_oracle.proofs.net.lists_of.Given as goal

abbrev pub invariant-loop-v : goal.invariant-loop-v
invariant-loop-v l = map vec_items l.lists.items ≡ map (λ v. filter (is_first l.lang v) l.network) (numbers l.v)

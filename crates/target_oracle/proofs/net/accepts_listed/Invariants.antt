use Rattle.target_oracle.proofs.Prelude.{◌≡◌, length, list_all, map}
use Rattle.std.specs.Prelude.{vec_items}
use Rattle.assign.specs.Assignment.{variables_of}
use Rattle.target_oracle.specs.Listing.{accepts_at}
use Rattle.target_oracle.proofs.net.accepts_listed.Given as goal

abbrev pub invariant-loop-v : goal.invariant-loop-v
invariant-loop-v l = list_all (accepts_at l.lang (map vec_items l.lists) l.q) (variables_of l.q) ≡ list_all (accepts_at l.lang (map vec_items l.lists) l.q) l.left

abbrev pub decreases-loop-v : goal.decreases-loop-v
decreases-loop-v l = length l.left

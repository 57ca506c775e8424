use Rattle.target_oracle.proofs.Prelude.{◌≡◌, take, filter}
use Rattle.target_oracle.specs.Listing.{is_first}
use Rattle.target_oracle.proofs.net.list_of.Given as goal

abbrev pub invariant-loop-c : goal.invariant-loop-c
invariant-loop-c l = l.list.items ≡ filter (is_first l.lang l.v) (take l.c-index l.network)

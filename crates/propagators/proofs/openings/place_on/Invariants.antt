use Rattle.propagators.proofs.Prelude.{◌≡◌, ◌-◌, ◌^◌, ◌<◌, ◌≤◌, ℕ, [], take, slice_index_or, slice_set, HasOne, firsts_on}
use Rattle.rel_table.specs.Relation.{place}
use Rattle.propagators.proofs.openings.place_on.Given as goal

abbrev pub invariant-loop-j : goal.invariant-loop-j
invariant-loop-j l = record {
  at : l.at ≡ place l.d (take l.j (slice_set (firsts_on l.doms l.scope) (l.from - 1) 0));
  small : l.at < 64 ^ l.j;
  fixed : (k : ℕ) → l.from ≤ k → k < l.j → HasOne (slice_index_or l.doms (slice_index_or l.scope k 0) []);
}

use Rattle.propagators.proofs.Prelude.{◌≡◌, ◌^◌, ◌<◌, ℕ, [], take, slice_index_or, HasOne, firsts_on}
use Rattle.rel_table.specs.Relation.{place}
use Rattle.propagators.proofs.openings.opening_of.Given as goal

abbrev pub invariant-loop-place : goal.invariant-loop-place
invariant-loop-place l = record {
  at : l.at ≡ place l.d (take l.place (firsts_on l.doms l.scope));
  small : l.at < 64 ^ l.place;
  fixed : (k : ℕ) → k < l.place → HasOne (slice_index_or l.doms (slice_index_or l.scope k 0) []);
}

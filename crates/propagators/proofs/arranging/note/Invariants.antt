use Rattle.propagators.proofs.Prelude.{◌≡◌, ◌<◌, ◌*◌, ◌⊎◌, ℕ, true, length, slice_index_or, has, ones_of, is_with}
use Rattle.propagators.proofs.arranging.note.Given as goal

abbrev pub invariant-loop-v : goal.invariant-loop-v
invariant-loop-v l = record {
  long : length l.sets ≡ 128 * l.words;
  grows : (q b : ℕ) → has (ones_of (slice_index_or l.initial.sets q 0)) b ≡ true → has (ones_of (slice_index_or l.sets q 0)) b ≡ true;
  there : (j : ℕ) → j < l.v-index → is_with l.sets (slice_index_or l.scope j 0) l.i ≡ true;
  only : (v k : ℕ) → v < 128 → is_with l.sets v k ≡ true → (is_with l.initial.sets v k ≡ true) ⊎ ((k ≡ l.i) × (has l.scope v ≡ true));
}

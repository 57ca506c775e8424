use Rattle.propagators.proofs.Prelude.{◌≡◌, ◌<◌, ◌*◌, ◌⊎◌, ℕ, true, length, slice_index_or, has, Arc, conditions, Brief, IsApart, is_with}
use Rattle.propagators.proofs.arranging.note_rest.Given as goal

abbrev pub invariant-loop-i : goal.invariant-loop-i
invariant-loop-i l = record {
  long : length l.sets ≡ 128 * l.words;
  noted : (k v : ℕ) (a : Arc) (b : Brief) → k < l.i → has (slice_index_or (conditions l.cons) k a).scope v ≡ true → (is_with l.sets v k ≡ true) ⊎ ((k < length l.briefs) × IsApart (slice_index_or l.briefs k b));
}

use Rattle.language.proofs.Prelude.{◌≡◌, ℕ, [], ◌<◌, map, take, length, All, slice_index_or, truths}
use Rattle.language.proofs.narrow.numbers_among.Given as goal

abbrev pub invariant-loop-table : goal.invariant-loop-table
invariant-loop-table l = record {
  below : All (λ k. k < length l.tables) l.numbers.items;
  are : map (λ (k : ℕ). slice_index_or (truths l.tables) k []) l.numbers.items ≡ truths (take l.table-index l.chosen);
}

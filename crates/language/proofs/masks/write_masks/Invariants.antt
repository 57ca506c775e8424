use Rattle.language.proofs.Prelude.{◌≡◌, length, go_together}
use Rattle.language.proofs.PairMasking.{AreMasksBelow, AreOutside}
use Rattle.language.proofs.masks.write_masks.Given as goal

abbrev pub invariant-loop-x : goal.invariant-loop-x
invariant-loop-x l = record {
  rows_long : length l.rows ≡ length l.fn.rows;
  columns_long : length l.columns ≡ length l.fn.columns;
  rows : AreMasksBelow l.table.value_count (go_together l.table.value_count l.table.truth) l.rows l.at l.x;
  columns : AreMasksBelow l.table.value_count (λ y x. go_together l.table.value_count l.table.truth x y) l.columns l.at l.x;
  other_rows : AreOutside l.fn.rows l.rows l.at;
  other_columns : AreOutside l.fn.columns l.columns l.at;
}

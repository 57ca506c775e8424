use Rattle.language.proofs.Prelude.{◌&&◌, ◌≡◌, ℕ, ◌+◌, ◌*◌, ◌∙◌, subst, ◌==◌, slice_index_or, bit_at, go_together, rejected_of, most_of, is_running}
use Rattle.language.proofs.PairMasking.{bounds_from, running_from}
use Rattle.language.proofs.masks.write_table.Goals as goal

pub returns-clause-masks : goal.returns-clause-masks
returns-clause-masks c =
    let d = c.value_count-d.ensures.is in
    record {
      by_row = c.write_masks.ensures.rows;
      by_column = c.write_masks.ensures.columns;
      first = subst (λ (n : ℕ). c.most_rejected.result ≡ most_of (λ x. rejected_of n (λ y. bit_at (slice_index_or c.write_masks.new.columns (64 * c.args.t + x) 0) y == 1)) n) d c.most_rejected.ensures
          ∙ bounds_from c.args.table.now.value_count (λ y x. go_together c.args.table.now.value_count c.args.table.now.truth x y) c.write_masks.new.columns (64 * c.args.t) c.write_masks.ensures.columns;
      second = subst (λ (n : ℕ). c.most_rejected-2.result ≡ most_of (λ x. rejected_of n (λ y. bit_at (slice_index_or c.write_masks.new.rows (64 * c.args.t + x) 0) y == 1)) n) d c.most_rejected-2.ensures
          ∙ bounds_from c.args.table.now.value_count (go_together c.args.table.now.value_count c.args.table.now.truth) c.write_masks.new.rows (64 * c.args.t) c.write_masks.ensures.rows;
      chain = subst (λ (n : ℕ). c.is_chain.result ≡ (is_running n (λ x y. bit_at (slice_index_or c.write_masks.new.rows (64 * c.args.t + x) 0) y == 1) && is_running n (λ y x. bit_at (slice_index_or c.write_masks.new.columns (64 * c.args.t + y) 0) x == 1))) d c.is_chain.ensures
          ∙ (λ i. running_from c.args.table.now.value_count (go_together c.args.table.now.value_count c.args.table.now.truth) c.write_masks.new.rows (64 * c.args.t) c.write_masks.ensures.rows i
          && running_from c.args.table.now.value_count (λ y x. go_together c.args.table.now.value_count c.args.table.now.truth x y) c.write_masks.new.columns (64 * c.args.t) c.write_masks.ensures.columns i);
    }

use Rattle.propagators.proofs.Prelude.{◌≤◌, ◌<◌, ℕ, Bool, false, sym, subst, ◌==◌, slice_index_or, bit_at, rejected_of, is_wanted, IsBounded, by_table}
use Rattle.propagators.proofs.Masking.{sides, bounded_by, bounded_held}
use Rattle.propagators.proofs.pairs.bounds_of.Goals as goal

pub returns-then-holding : goal.returns-then-holding
returns-then-holding c = λ pairs are.
    subst (λ (h : Bool). IsBounded c.args.lang.now.value_count (by_table c.args.lang.now pairs c.args.table h) c.pair_bounds-bounds.result) (sym c.if-holding.true)
    (bounded_held c.args.lang.now pairs c.args.table c.pair_bounds-bounds.result (c.pair_bounds-bounds.ensures.first pairs are) (c.pair_bounds-bounds.ensures.second pairs are) (c.pair_bounds-bounds.ensures.chain pairs are))

pub returns : goal.returns
returns c = λ pairs are.
    subst (λ (h : Bool). IsBounded c.args.lang.now.value_count (by_table c.args.lang.now pairs c.args.table h) (record { first = c.most_rejected.result; second = c.most_rejected-2.result; is_chain = c.pair_bounds-bounds.result.is_chain })) (sym c.if-holding.false)
    (bounded_by c.args.lang.now pairs c.args.table false c.pair_rows.result.now c.pair_columns.result.now _
    (sides c.args.lang.now pairs c.args.table false c.pair_rows.result.now c.pair_columns.result.now (c.pair_rows.ensures.masks pairs are) (c.pair_columns.ensures.masks pairs are))
    (subst (λ (d : ℕ). (y : ℕ) → y < d → rejected_of d (λ x. is_wanted false (bit_at (slice_index_or c.pair_columns.result.now y 0) x == 1)) ≤ c.most_rejected.result) c.d.ensures.is c.most_rejected.ensures)
    (subst (λ (d : ℕ). (x : ℕ) → x < d → rejected_of d (λ y. is_wanted false (bit_at (slice_index_or c.pair_rows.result.now x 0) y == 1)) ≤ c.most_rejected-2.result) c.d-2.ensures.is c.most_rejected-2.ensures)
    (c.pair_bounds-bounds.ensures.chain pairs are))

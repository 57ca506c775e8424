use Rattle.propagators.proofs.Prelude.{◌∙◌, ◌&&◌, ◌||◌, ap, inl, inr, ◌==◌, slice_index_or, bit_at, both_ways, has, ones_of, is_wanted, ones_of-zero}
use Rattle.propagators.proofs.Chains.{chain_supported, none_supported, passing_part}
use Rattle.propagators.proofs.supports.in_chain.Goals as goal

pub returns-then-first-eq0-clause-supported : goal.returns-then-first-eq0-clause-supported
returns-then-first-eq0-clause-supported c = λ d accepted is chain below_first below_last. none_supported (ones_of c.args.first) (ones_of c.args.last) accepted (inl (ap ones_of c.if-first-eq0.true ∙ ones_of-zero))

pub returns-then-last-eq0-clause-supported : goal.returns-then-last-eq0-clause-supported
returns-then-last-eq0-clause-supported c = λ d accepted is chain below_first below_last. none_supported (ones_of c.args.first) (ones_of c.args.last) accepted (inr (ap ones_of c.if-last-eq0.true ∙ ones_of-zero))

pub returns-then-first-eq0-clause-last : goal.returns-then-first-eq0-clause-last
returns-then-first-eq0-clause-last c = λ y h. absurd (both_ways _ (ap (λ ys. has ys y) ones_of-zero) h)

pub returns-then-last-eq0-clause-first : goal.returns-then-last-eq0-clause-first
returns-then-last-eq0-clause-first c = λ x h. absurd (both_ways _ (ap (λ xs. has xs x) ones_of-zero) h)

pub returns-clause-first : goal.returns-clause-first
returns-clause-first c = passing_part (ones_of c.args.first) (ones_of c.with_either-a.result) (λ x. is_wanted c.args.holding (bit_at (slice_index_or c.args.columns.now c.from.result 0) x == 1)) (λ x. is_wanted c.args.holding (bit_at (slice_index_or c.args.columns.now c.from-2.result 0) x == 1)) c.with_either-a.ensures

pub returns-clause-last : goal.returns-clause-last
returns-clause-last c = passing_part (ones_of c.args.last) (ones_of c.with_either.result) (λ y. is_wanted c.args.holding (bit_at (slice_index_or c.args.rows.now c.from-3.result 0) y == 1)) (λ y. is_wanted c.args.holding (bit_at (slice_index_or c.args.rows.now c.from-4.result 0) y == 1)) c.with_either.ensures

pub returns-clause-supported : goal.returns-clause-supported
returns-clause-supported c = λ d accepted is chain below_first below_last.
    chain_supported d accepted (ones_of c.args.first) (ones_of c.args.last) (ones_of c.with_either-a.result) (ones_of c.with_either.result) c.least_value-2.result c.greatest_value-2.result c.least_value.result c.greatest_value.result
    (λ x y. is_wanted c.args.holding (bit_at (slice_index_or c.args.rows.now x 0) y == 1))
    (λ y x. is_wanted c.args.holding (bit_at (slice_index_or c.args.columns.now y 0) x == 1))
    chain below_first below_last
    (record { first = c.least_value-2.ensures.there; last = c.greatest_value-2.ensures.there; low = c.least_value-2.ensures.least; high = c.greatest_value-2.ensures.greatest })
    (record { first = c.least_value.ensures.there; last = c.greatest_value.ensures.there; low = c.least_value.ensures.least; high = c.greatest_value.ensures.greatest })
    is.row is.column
    (λ x. c.with_either-a.ensures x ∙ (λ i. (has (ones_of c.args.first) x && is_wanted c.args.holding (bit_at (slice_index_or c.args.columns.now (c.from.ensures i) 0) x == 1)) || (has (ones_of c.args.first) x && is_wanted c.args.holding (bit_at (slice_index_or c.args.columns.now (c.from-2.ensures i) 0) x == 1))))
    (λ y. c.with_either.ensures y ∙ (λ i. (has (ones_of c.args.last) y && is_wanted c.args.holding (bit_at (slice_index_or c.args.rows.now (c.from-3.ensures i) 0) y == 1)) || (has (ones_of c.args.last) y && is_wanted c.args.holding (bit_at (slice_index_or c.args.rows.now (c.from-4.ensures i) 0) y == 1))))

use Rattle.propagators.proofs.Prelude.{[], ◌∷◌, ones_of, goes_by, by_pair}
use Rattle.propagators.proofs.Masking.{sides, by_rows}
use Rattle.propagators.proofs.ByMasks.{pair_part, rows_supported}
use Rattle.propagators.proofs.supports.in_pair.Goals as goal

pub returns-then-pair-clause-supported : goal.returns-then-pair-clause-supported
returns-then-pair-clause-supported c = λ pairs are bounded. c.in_chain.ensures.supported c.args.lang.now.value_count (by_pair c.args.lang.now pairs c.args.pair)
    (sides c.args.lang.now pairs c.args.pair.table c.args.pair.holding c.pair_rows-rows.result.now c.pair_columns.result.now (c.pair_rows-rows.ensures.masks pairs are) (c.pair_columns.ensures.masks pairs are))
    (bounded.chain c.if-pair.true)

pub returns-else-pair-clause-first : goal.returns-else-pair-clause-first
returns-else-pair-clause-first c = (pair_part (ones_of c.args.first) (ones_of c.args.last) (ones_of c.in_rows.result.0) (ones_of c.in_rows.result.1) (goes_by c.pair_rows-rows.result.now c.args.pair.holding) c.in_rows.ensures).0

pub returns-else-pair-clause-last : goal.returns-else-pair-clause-last
returns-else-pair-clause-last c = (pair_part (ones_of c.args.first) (ones_of c.args.last) (ones_of c.in_rows.result.0) (ones_of c.in_rows.result.1) (goes_by c.pair_rows-rows.result.now c.args.pair.holding) c.in_rows.ensures).1

pub returns-else-pair-clause-supported : goal.returns-else-pair-clause-supported
returns-else-pair-clause-supported c = λ pairs are bounded below_first below_last.
    rows_supported c.args.lang.now.value_count (by_pair c.args.lang.now pairs c.args.pair) c.args.pair.holding c.pair_rows-rows.result.now (ones_of c.args.first) (ones_of c.args.last) (ones_of c.in_rows.result.0 ∷ ones_of c.in_rows.result.1 ∷ [])
    (by_rows c.args.lang.now pairs c.args.pair.table c.args.pair.holding c.pair_rows-rows.result.now (c.pair_rows-rows.ensures.masks pairs are)) below_first below_last c.in_rows.ensures

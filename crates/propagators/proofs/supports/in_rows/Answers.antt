use Rattle.propagators.proofs.Prelude.{◌∙◌, ◌∷◌, ℕ, List, [], ap, sym, ◌==◌, slice_index_or, bit_at, has, ones_of, is_wanted, goes_by, ones_of-zero}
use Rattle.propagators.proofs.Sweeping.{sweep_begin, sweep_step, sweep_end, one_supported, supported_beside, both_true, part_true}
use Rattle.propagators.proofs.supports.in_rows.Goals as goal

pub loop-rest-init : goal.loop-rest-init
loop-rest-init c = sweep_begin c.args.first (ones_of c.args.last ∷ []) (goes_by c.args.rows.now c.args.holding) (ones_of 0 ∷ []) (ones_of-zero, tt)

pub loop-rest-preserved : goal.loop-rest-preserved
loop-rest-preserved c =
    sweep_step c.args.first c.loop-rest.rest (ones_of c.args.last) [] (goes_by c.args.rows.now c.args.holding) c.loop-rest.a (ones_of c.loop-rest.b ∷ []) c.least_value-x.result c.without_value-rest.result c.passing-below.result c.with_value-a.result [] (ones_of c.either-b.result ∷ [])
    c.loop-rest.invariant c.least_value-x.ensures.there c.without_value-rest.ensures.has
    (supported_beside (ones_of c.args.last ∷ []) (λ (tuple : List ℕ). goes_by c.args.rows.now c.args.holding (c.least_value-x.result ∷ tuple)) (ones_of c.loop-rest.b ∷ []) (ones_of c.passing-below.result ∷ [])
    (one_supported (ones_of c.args.last) (ones_of c.passing-below.result) (λ (tuple : List ℕ). goes_by c.args.rows.now c.args.holding (c.least_value-x.result ∷ tuple))
    (λ y there. c.passing-below.ensures y ∙ both_true _ _ there ∙ ap (λ x. is_wanted c.args.holding (bit_at (slice_index_or c.args.rows.now x 0) y == 1)) c.from.ensures)
    (λ y h. part_true (has (ones_of c.args.last) y) _ (sym (c.passing-below.ensures y) ∙ h))))
    c.with_value-a.ensures (c.either-b.ensures, tt)

pub returns : goal.returns
returns c = sweep_end c.args.first c.loop-rest.rest (ones_of c.args.last ∷ []) (goes_by c.args.rows.now c.args.holding) c.loop-rest.a (ones_of c.loop-rest.b ∷ []) c.loop-rest-test.false c.loop-rest.invariant

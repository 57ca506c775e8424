use Rattle.propagators.proofs.Prelude.{◌+◌, ◌*◌, ◌∙◌, ap, sym, ones_of, truth_at, is_wanted, continues}
use Rattle.propagators.proofs.Sweeping.{one_supported, both_true, part_true}
use Rattle.propagators.proofs.supports.in_one.Goals as goal

pub returns : goal.returns
returns c = one_supported (ones_of c.args.last) (ones_of c.passing.result) (continues c.args.table.now c.args.holding c.args.at)
    (λ y there. c.passing.ensures y ∙ both_true _ _ there
    ∙ ap (is_wanted c.args.holding) (c.row.ensures y (c.requires.last y there) ∙ ap (λ d. truth_at c.args.table.now (c.args.at * d + y)) (c.from.ensures ∙ c.value_count.ensures.is)))
    (λ y there. part_true _ _ (sym (c.passing.ensures y) ∙ there))

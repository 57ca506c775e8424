use Rattle.language.proofs.Prelude.{false, ◌+◌, ◌*◌, ap, ◌∙◌, arith, ◌==◌, slice_index_or, bit_at}
use Rattle.language.proofs.Fields.{lawful_here}
use Rattle.language.proofs.PairMasking.{window, masks_here}
use Rattle.language.proofs.lang.Language.pair_columns.Goals as goal

pub returns-clause-masks : goal.returns-clause-masks
returns-clause-masks c pairs are x y low y_low =
    let few = (lawful_here c.self.inside c.self.invariant c.args.self.now c.self.view_is).few_values in
    let at = c.from-at.ensures in
    ap (λ m. bit_at m y == 1) (
    window c.deref.result.now (64 * c.from-at.result) _ x (omega arith) (omega arith)
    ∙ (λ i. slice_index_or (c.deref.ensures.value i) (64 * at i + x) 0))
    ∙ (masks_here c.self.inside c.self.invariant c.args.self.now c.self.view_is pairs c.args.table (record { first = 0; second = 0; is_chain = false }) c.requires are).by_column x y low y_low

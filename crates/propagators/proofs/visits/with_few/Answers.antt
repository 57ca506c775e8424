use Rattle.propagators.proofs.Prelude.{◌∙◌, ap, sym, refl, has}
use Rattle.propagators.proofs.Cutting.{not_with}
use Rattle.propagators.proofs.visits.with_few.Goals as goal

pub returns-else-has_more-clause-grows : goal.returns-else-has_more-clause-grows
returns-else-has_more-clause-grows c = λ u few none. (not_with c.args.set c.args.v u few (ap (λ xs. has xs u) (sym c.with.ensures) ∙ none)).0

pub returns-else-has_more-clause-more : goal.returns-else-has_more-clause-more
returns-else-has_more-clause-more c = λ none. absurd ((not_with c.args.set c.args.v c.args.v c.requires.few (ap (λ xs. has xs c.args.v) (sym c.with.ensures) ∙ none)).1 refl)

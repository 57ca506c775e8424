use Rattle.propagators.proofs.Prelude.{[], ◌∙◌, ap, sym, subst, ◌==◌, slice_index_or, slice_set, filter, IsFamilyOf}
use Rattle.propagators.proofs.OnScope.{read_set, seen_set}
use Rattle.propagators.proofs.Pruned.{filter_has}
use Rattle.propagators.proofs.Filled.{family_set}
use Rattle.propagators.proofs.domains.Domains.fix.Goals as goal

pub returns-clause-is : goal.returns-clause-is
returns-clause-is c =
    seen_set c.self.inside.sets c.self.inside.size c.args.self.now c.args.v c.only_value.result c.self.view_is c.requires.known
    ∙ ap (slice_set c.args.self.now c.args.v) (c.only_value.ensures ∙ ap (filter (λ x. c.args.value == x)) (read_set c.self.inside.sets c.self.inside.size c.args.self.now c.args.v c.self.view_is c.requires.known))

pub returns-clause-family : goal.returns-clause-family
returns-clause-family c = λ l is.
    subst (IsFamilyOf l) (sym (returns-clause-is c))
    (family_set l c.args.self.now c.args.v (filter (λ x. c.args.value == x) (slice_index_or c.args.self.now c.args.v [])) c.requires.known
    (λ x h. (filter_has (λ y. c.args.value == y) (slice_index_or c.args.self.now c.args.v []) x h).0) is)

use Rattle.propagators.proofs.Prelude.{◌∙◌, [], length, ap, subst, sym, nat_lt, slice_index_or, ltb-true, IsSet}
use Rattle.propagators.proofs.Loose.{ones_of-set}
use Rattle.propagators.proofs.OnScope.{read_set}
use Rattle.propagators.proofs.domains.Domains.has_more.Goals as goal

pub returns-clause-is : goal.returns-clause-is
returns-clause-is c = c.are_more.ensures.is ∙ ap (λ xs. nat_lt c.args.most (length xs)) (read_set c.self.inside.sets c.self.inside.size c.args.self.now c.args.v c.self.view_is c.requires)

pub returns-clause-more : goal.returns-clause-more
returns-clause-more c = λ more.
    (let same = read_set c.self.inside.sets c.self.inside.size c.args.self.now c.args.v c.self.view_is c.requires in
    record {
      set = subst IsSet same (ones_of-set (slice_index_or c.self.inside.sets c.args.v 0));
      more = ltb-true c.args.most (length (slice_index_or c.args.self.now c.args.v [])) (sym (c.are_more.ensures.is ∙ ap (λ xs. nat_lt c.args.most (length xs)) same) ∙ more);
      low = c.are_more.ensures.few more;
    })

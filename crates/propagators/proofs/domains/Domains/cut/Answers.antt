use Rattle.propagators.proofs.Prelude.{◌<◌, sym, subst, arith, slice_index_or, family_size}
use Rattle.propagators.proofs.OnScope.{read_set, seen_set, size_falls, within_masks}
use Rattle.propagators.proofs.domains.Domains.cut.Goals as goal

pub returns-clause-is : goal.returns-clause-is
returns-clause-is c = seen_set c.self.inside.sets c.self.inside.size c.args.self.now c.args.v c.args.values c.self.view_is c.requires.known

pub returns-clause-less : goal.returns-clause-less
returns-clause-less c = λ changed.
    subst (λ g. family_size g < family_size c.args.self.now) (sym (seen_set c.self.inside.sets c.self.inside.size c.args.self.now c.args.v c.args.values c.self.view_is c.requires.known))
    (size_falls c.args.self.now c.args.v (slice_index_or c.self.inside.sets c.args.v 0) c.args.values c.requires.known
    (read_set c.self.inside.sets c.self.inside.size c.args.self.now c.args.v c.self.view_is c.requires.known)
    (c.self.invariant.small c.args.v 0 (let long = within_masks c.self.inside.sets c.self.inside.size c.args.self.now c.self.view_is in let low = c.requires.known in omega arith)) c.ranges.values.fits c.requires.within changed)

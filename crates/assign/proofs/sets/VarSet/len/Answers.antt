use Rattle.assign.proofs.Prelude.{length, ◌∙◌, ap, sym, subst, arith, lit≤, Rises}
use Rattle.assign.proofs.Masks.{length-members_of, rises_members, rises_few}
use Rattle.assign.proofs.sets.VarSet.len.Goals as goal

pub returns-clause-count : goal.returns-clause-count
returns-clause-count c = sym (length-members_of c.self.inside.mask c.self.invariant) ∙ ap length c.self.view_is

pub returns-clause-few : goal.returns-clause-few
returns-clause-few c = let few = rises_few 0 c.args.self (lit≤ tt) (subst (Rises 0) c.self.view_is (rises_members c.self.inside.mask)) in omega arith

pub returns-clause-set : goal.returns-clause-set
returns-clause-set c = subst (Rises 0) c.self.view_is (rises_members c.self.inside.mask)

use Rattle.language.proofs.Prelude.{ap, map, given_by, listed_in}
use Rattle.language.proofs.Lawful.{on_ok, none_ordered, refused_so}
use Rattle.language.proofs.scopes.scopes_in.Goals as goal

pub returns-in-All-clause-ordered : goal.returns-in-All-clause-ordered
returns-in-All-clause-ordered c = on_ok c.all_scopes.result _ (none_ordered c.args.n (map given_by c.args.rels.now) (listed_in c.args.part.now) (ap listed_in c.in-All.is))

pub returns-in-All-clause-refused : goal.returns-in-All-clause-refused
returns-in-All-clause-refused c = refused_so c.args.n (map given_by c.args.rels.now) (listed_in c.args.part.now) c.all_scopes.result (ap listed_in c.in-All.is) c.all_scopes.ensures.many

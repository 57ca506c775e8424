use Rattle.language.proofs.Stated.{one_ordered}
use Rattle.language.proofs.scopes.is_ordered.Goals as goal

pub returns-in-len1 : goal.returns-in-len1
returns-in-len1 c = one_ordered c.args.variables.now c.in-len1.len_at_least c.in-len1.len_below

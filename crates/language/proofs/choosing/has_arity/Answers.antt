use Rattle.language.proofs.Prelude.{◌∙◌}
use Rattle.language.proofs.Used.{any_given}
use Rattle.language.proofs.choosing.has_arity.Goals as goal

pub returns : goal.returns
returns c = c.is_used.ensures ∙ any_given c.args.arity c.args.rels.now

use Rattle.propagators.proofs.Prelude.{◌∙◌, ap, not}
use Rattle.propagators.proofs.Words.{either_empty}
use Rattle.propagators.proofs.waiting.Waiting.is_empty.Goals as goal

pub returns : goal.returns
returns c = c.is_empty.ensures ∙ ap not (either_empty c.self.inside.low c.self.inside.high c.args.self c.self.view_is c.either.result c.either.ensures c.self.invariant.low_small c.self.invariant.high_small)

use Rattle.propagators.proofs.Words.{either_words}
use Rattle.propagators.proofs.waiting.Waiting.union.Goals as goal

pub returns : goal.returns
returns c = either_words c.self.inside.low c.self.inside.high c.other.inside.low c.other.inside.high c.either.result c.either-2.result c.args.self c.args.other c.self.view_is c.other.view_is c.either.ensures c.either-2.ensures

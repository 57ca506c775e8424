use Rattle.bias_store.proofs.Picked.{none_of_none}
use Rattle.bias_store.proofs.tables.violated_on.Goals as goal

pub returns-then-relations-eq0 : goal.returns-then-relations-eq0
returns-then-relations-eq0 c = none_of_none c.args.lang.now c.args.s c.args.q.now c.args.relations c.if-relations-eq0.true

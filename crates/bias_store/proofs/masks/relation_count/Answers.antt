use Rattle.bias_store.proofs.Prelude.{sym, length-ones_of}
use Rattle.bias_store.proofs.masks.relation_count.Goals as goal

pub returns : goal.returns
returns c = sym (length-ones_of c.args.relations c.ranges.relations.fits)

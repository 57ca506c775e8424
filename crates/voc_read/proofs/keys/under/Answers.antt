use Rattle.voc_read.proofs.Prelude.{view}
use Rattle.voc_read.proofs.Widths.{widest-found}
use Rattle.voc_read.proofs.keys.under.Goals as goal

pub returns-clause-part : goal.returns-clause-part
returns-clause-part c = rw c.ok_or.ensures.value (widest-found c.args.key.now (view c.args.value.now) c.get.result _ c.get.ensures)

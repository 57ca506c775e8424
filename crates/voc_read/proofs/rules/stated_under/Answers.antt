use Rattle.voc_read.proofs.Prelude.{sym, codes, view}
use Rattle.voc_read.proofs.Widths.{widest-get}
use Rattle.voc_read.proofs.rules.stated_under.Goals as goal

pub returns-in-None-Some-clause-part : goal.returns-in-None-Some-clause-part
returns-in-None-Some-clause-part c = widest-get (codes "formula") (view c.args.value.now) _ (sym c.in-None-Some.ensures')

pub returns-in-Some-None-clause-part : goal.returns-in-Some-None-clause-part
returns-in-Some-None-clause-part c = widest-get (codes "tuples") (view c.args.value.now) _ (sym c.in-Some-None.ensures)

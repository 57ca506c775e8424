use Rattle.voc_read.proofs.Prelude.{◌∙◌}
use Rattle.voc_read.proofs.Repeats.{position-texts_of}
use Rattle.voc_read.proofs.names.number_of.Goals as goal

pub returns-in-Some : goal.returns-in-Some
returns-in-Some c = c.in-Some.ensures.index ∙ position-texts_of c.args.name.now c.args.names.now.keys

pub returns-in-None : goal.returns-in-None
returns-in-None c = c.in-None.ensures.index ∙ position-texts_of c.args.name.now c.args.names.now.keys

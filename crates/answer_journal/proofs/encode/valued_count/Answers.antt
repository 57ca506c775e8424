use Rattle.answer_journal.proofs.Prelude.{◌∙◌, ap, length}
use Rattle.answer_journal.proofs.Valued.{counted}
use Rattle.answer_journal.proofs.encode.valued_count.Goals as goal

pub returns : goal.returns
returns c = c.len.ensures.count ∙ ap length c.vars.ensures ∙ counted c.args.question.now c.requires

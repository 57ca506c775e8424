use Rattle.answer_journal.proofs.EachFile.{each_is_free}
use Rattle.answer_journal.proofs.laws.each_is_free_or_refused.Goals as goal

pub returns : goal.returns
returns c = each_is_free

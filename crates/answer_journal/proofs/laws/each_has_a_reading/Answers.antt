use Rattle.answer_journal.proofs.EachFile.{each_reads}
use Rattle.answer_journal.proofs.laws.each_has_a_reading.Goals as goal

pub returns : goal.returns
returns c = each_reads

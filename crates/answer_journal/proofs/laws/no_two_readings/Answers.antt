use Rattle.answer_journal.proofs.Readings.{reads_once}
use Rattle.answer_journal.proofs.laws.no_two_readings.Goals as goal

pub returns : goal.returns
returns c = reads_once

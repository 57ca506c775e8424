-- Faults of the floors below, as those of a store. Want of memory is always its own.
use Rattle.answer_journal.specs.declared.fault.JFault.{JFault}
use Rattle.answer_journal.specs.declared.fault.JFault.TheVariants as journal
use Rattle.session_store.specs.declared.fault.SFault.{SFault}
use Rattle.session_store.specs.declared.fault.SFault.TheVariants.{Journal, Memory}

abbrev pub of_journal : JFault → SFault
of_journal journal.Memory = Memory
of_journal journal.SessionThere = Journal journal.SessionThere
of_journal journal.NoSession = Journal journal.NoSession
of_journal journal.NotAJournal = Journal journal.NotAJournal
of_journal (journal.Damaged at) = Journal (journal.Damaged at)
of_journal journal.TooManyRecords = Journal journal.TooManyRecords
of_journal journal.Full = Journal journal.Full
of_journal journal.DiskFault = Journal journal.DiskFault

-- Laws over the definitions alone: they cover every list of bytes.
use Rattle.std.specs.Prelude.{ℕ, ◌⊎◌, List}
use Rattle.answer_journal.specs.declared.fault.JFault.TheVariants.{NotAJournal, SessionThere}
use Rattle.answer_journal.specs.Journal.{HasNoSession, Reading, ReadsAs}
use Rattle.answer_journal.specs.Making.{CreateRefused}

-- each list of bytes says a session, or why it says none
abbrev pub EachHasAReading : Type 0
EachHasAReading = (bytes : List ℕ) → (r : Reading) × ReadsAs bytes r

-- over each list of bytes a journal is made, or refused for what they are
abbrev pub EachIsFreeOrRefused : Type 0
EachIsFreeOrRefused = (bytes : List ℕ) → HasNoSession bytes ⊎ CreateRefused bytes SessionThere
    ⊎ CreateRefused bytes NotAJournal

-- The run as which a command ends, of the bytes that it reads.
use Rattle.std.specs.Prelude.{◌≡◌}
use Rattle.acq_cli.specs.Prelude.{Closing, Collapsed, Converged, Ending, EndsAsSaid, Err, Event}
use Rattle.acq_cli.specs.Prelude.{ForSome, Gathered, IsRefusal, IsVocabulary, JournalFull, Language}
use Rattle.acq_cli.specs.Prelude.{LineTooLong, List, Ok, Option, Ran, Result, Runs, Saying}
use Rattle.acq_cli.specs.Prelude.{Suspended, Terms, Turns, Undecided, Unreadable, VocFault, []}
use Rattle.acq_cli.specs.Prelude.{closing_text, length, line_turn, saying, standing_on, voc_refused}
use Rattle.acq_cli.specs.Prelude.{ℕ}
use Rattle.acq_loop.specs.declared.ending.Ending.TheVariants as ending

-- ---- The events at its end

-- The run from some events on over these bytes, of which there is one, closes so, and has these
-- events then.
pub record IsRunTo (turns : Turns) (l : Language) (terms : Terms) (start events : List Event)
    (bytes : List ℕ) (closing : Closing) : Type 0 where
  pub run : Ran
  pub runs : Runs turns l terms start bytes run
  pub closes : run.closing ≡ closing
  pub has : run.events ≡ events

-- where what is left of the input is told
abbrev pub ClosesWith : Turns → Language → Terms → (start events : List Event) →
    (rest : Option (List ℕ)) → Closing → Type 0
ClosesWith turns l terms start events rest closing =
    ForSome rest (λ bytes. IsRunTo turns l terms start events bytes closing)

-- ---- How it ends

-- how the program ends where a run closes so after so many answers
abbrev pub closed_as : Closing → ℕ → Ending
closed_as Converged m = ending.Converged m
closed_as Collapsed m = ending.Collapsed m
closed_as Undecided m = ending.Undecided m
closed_as Suspended m = ending.Suspended m
closed_as LineTooLong m = ending.LineTooLong
closed_as Unreadable m = ending.Unreadable
closed_as JournalFull m = ending.JournalFull

-- the last lines of a run, and how it ends
abbrev pub closed_said : Language → Terms → Ran → Saying
closed_said l terms run = let t = standing_on l run.events in
    saying (closing_text l terms t run.closing) (closed_as run.closing (length t))

-- It ends as the run from these events on over these bytes, of which there is one.
abbrev pub EndsAsRun : Turns → Language → Terms → List Event → List ℕ → Ending → Type 0
EndsAsRun turns l terms events bytes end =
    EndsAsSaid (Runs turns l terms events bytes) (closed_said l terms) end

-- ---- A vocabulary's run

-- a language, and a run about it
pub record Tried : Type 0 where
  pub lang : Language
  pub run : Ran

-- what an input is to `try`: the language of its first line and the run of the lines behind it, or
-- why the vocabulary is refused
abbrev pub IsTrying : Terms → Gathered → Result Tried VocFault → Type 0
IsTrying terms first (Ok tried) = (line : List ℕ) × (first.got ≡ Ok line)
    × IsVocabulary line tried.lang × Runs line_turn tried.lang terms [] first.rest tried.run
IsTrying terms first (Err fault) = IsRefusal fault first.got

abbrev pub tried_said : Terms → Result Tried VocFault → Saying
tried_said terms (Ok tried) = closed_said tried.lang terms tried.run
tried_said terms (Err fault) = voc_refused fault

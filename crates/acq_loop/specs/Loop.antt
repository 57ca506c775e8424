-- What a turn and the loop begin with, and how they go on and end.
use Rattle.std.specs.Prelude.{◌≡◌, ◌≤◌}
use Rattle.acq_loop.specs.Prelude.{ℕ, Bool, true, false, IsTrue, List, Option, HasCalled, Rose}
use Rattle.acq_loop.specs.Prelude.{TakesSome, IsBudget, Assignment, Answer, Event, Language}
use Rattle.acq_loop.specs.Prelude.{standing_on, Place, Remembered, AreMarksFor, HasNoMarks}
use Rattle.acq_loop.specs.Prelude.{AreMadeFor, IsSettled, Turns}
use Rattle.acq_loop.specs.Driven.{Point, StepsTo, Drives, Remembers, TellsOpen}
use Rattle.acq_loop.specs.Due.{IsOneMore}
use Rattle.acq_loop.specs.Points.{point_of}
use Rattle.acq_loop.specs.declared.terms.Terms.{Terms}
use Rattle.acq_loop.specs.declared.driving.Drove.{Drove}
use Rattle.acq_loop.specs.declared.driving.Drove.TheVariants as drove

-- The count of faults never falls, and it has risen where a fault is told.
pub record CountsFaults (before now : ℕ) (told : Type 0) : Type 0 where
  pub later : before ≤ now
  pub rose : told → Rose before now

-- The input has an end of what it had, and where it failed it wasn't called again.
pub record HasRead (left left' : Option (List ℕ)) (before now late late' : ℕ) (told : Type 0) :
    Type 0 where
  pub takes : TakesSome left left'
  pub called : HasCalled before now late late' told

-- what is left of the input, and the faults of both
pub record HasReadAndWritten (left left' : Option (List ℕ)) (input input_now late late_now output
    output_now : ℕ) (read_told write_told : Type 0) : Type 0 where
  pub read : HasRead left left' input input_now late late_now read_told
  pub write : CountsFaults output output_now write_told

-- ---- what is begun with

-- What a turn begins with, after these answers and with this question put: none is put where
-- nothing is open, places and screen are made for the language, and the screen's marks are true.
pub record IsReadyToTurn (l : Language) (terms : Terms) (t : List Answer) (put : Option Assignment)
    (places : List Place) (marks : Remembered) : Type 0 where
  pub settled : IsSettled l terms.plan t put
  pub equipped : AreMadeFor l places
  pub made : AreMarksFor l marks
  pub hold : Remembers l terms t marks
  pub affordable : IsBudget terms.budget

-- what the loop begins with: the same, and no marks
pub record IsAtStart (l : Language) (terms : Terms) (t : List Answer) (put : Option Assignment)
    (places : List Place) (marks : Remembered) : Type 0 where
  pub settled : IsSettled l terms.plan t put
  pub equipped : AreMadeFor l places
  pub made : AreMarksFor l marks
  pub unmarked : HasNoMarks marks
  pub affordable : IsBudget terms.budget

-- ---- how it goes on and ends

-- A turn has gone on: its text and what it left begin each run from here, and there is one event
-- more.
pub record HasTurned (turns : Turns) (l : Language) (terms : Terms) (old new : Point) : Type 0 where
  pub steps : StepsTo turns l terms old new
  pub one_more : IsOneMore old.events new.events

-- The screen is made for the language, and where it is undecided it tells the open candidates.
pub record TellsCandidates (l : Language) (terms : Terms) (t : List Answer) (marks : Remembered)
    (how : Drove) : Type 0 where
  pub made : AreMarksFor l marks
  pub undecided : (m : ℕ) → how ≡ drove.Undecided m → TellsOpen l terms t marks

-- The loop has ended so: what it says is true, and so is what the screen tells.
pub record EndsAs (turns : Turns) (l : Language) (terms : Terms) (old new : Point)
    (marks : Remembered) (how : Drove) : Type 0 where
  pub ends : Drives turns l terms old new how
  pub tells : TellsCandidates l terms (standing_on l new.events) marks how

-- whether the loop ends so without a question
abbrev pub is_unasked : Drove → Bool
is_unasked (drove.Converged m) = true
is_unasked (drove.Collapsed m) = true
is_unasked (drove.Undecided m) = true
is_unasked how = false

-- After these events no question comes. So the loop ends, whatever source and sink tell.
pub record EndsUnasked (l : Language) (terms : Terms) (events : List Event) (marks : Remembered)
    (how : Drove) : Type 0 where
  pub ends : (turns : Turns) (left written : Option (List ℕ)) →
      EndsAs turns l terms (point_of events left written) (point_of events left written) marks how
  pub unasked : IsTrue (is_unasked how)

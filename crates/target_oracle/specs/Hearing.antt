-- What is known after a line, and after many.
use Rattle.std.specs.Prelude.{◌≡◌, ℕ, ◌+◌, List, true, false, Option, Some, None}
use Rattle.std.specs.Option.{option_map, ForSome}
use Rattle.acq_io.specs.Streams.{Adds, AddsFront}
use Rattle.target_oracle.specs.Turns.{turned_after, Reply, Said, TakenBack, Stopped, Ended}
use Rattle.target_oracle.specs.Turns.{Overlong, Unread}
use Rattle.target_oracle.specs.Lines.{Spoken, spoken, no_answer_text, hear}
use Rattle.target_oracle.specs.Tells.{Tells}
use Rattle.target_oracle.specs.declared.teacher.Told.{Told}
use Rattle.target_oracle.specs.declared.teacher.Told.TheVariants.{Yes, No, Back, Stop, End, TooLong}
use Rattle.target_oracle.specs.declared.teacher.Told.TheVariants.{Unreadable, ReadFault, WriteFault}
use Rattle.target_oracle.specs.declared.teacher.Told.TheVariants.{Memory}

-- what is told of a reply
abbrev pub told_of : Reply → Told
told_of (Said true) = Yes
told_of (Said false) = No
told_of TakenBack = Back
told_of Stopped = Stop
told_of Ended = End
told_of Overlong = TooLong
told_of Unread = Unreadable

-- where the source tells, its first line said this to question number k, and the bytes after it are
-- left
abbrev pub Speaks : ℕ → Option (List ℕ) → Option (List ℕ) → Option Reply → Type 0
Speaks k before now says = option_map (spoken k) before ≡ option_map (λ rest. let s : Spoken =
    record { says = says; rest = rest } in s) now

-- what one line told
abbrev pub Hears : ℕ → Option (List ℕ) → Option (List ℕ) → Told → Type 0
Hears k before now Yes = Speaks k before now (Some (Said true))
Hears k before now No = Speaks k before now (Some (Said false))
Hears k before now Back = Speaks k before now (Some TakenBack)
Hears k before now Stop = Speaks k before now (Some Stopped)
Hears k before now End = Speaks k before now (Some Ended)
Hears k before now TooLong = Speaks k before now (Some Overlong)
Hears k before now Unreadable = Speaks k before now (Some Unread)
Hears k before now ReadFault = Unit {0}
Hears k before now WriteFault = ⊥
Hears k before now Memory = ⊥

-- or it was no answer
abbrev pub HearsLine : ℕ → Option (List ℕ) → Option (List ℕ) → Option Told → Type 0
HearsLine k before now None = Speaks k before now None
HearsLine k before now (Some told) = Hears k before now told

-- this text could not be written whole
abbrev pub CutsOff : List ℕ → Option (List ℕ) → Option (List ℕ) → Told → Type 0
CutsOff text before now Yes = ⊥
CutsOff text before now No = ⊥
CutsOff text before now Back = ⊥
CutsOff text before now Stop = ⊥
CutsOff text before now End = ⊥
CutsOff text before now TooLong = ⊥
CutsOff text before now Unreadable = ⊥
CutsOff text before now ReadFault = ⊥
CutsOff text before now WriteFault = AddsFront before now text
CutsOff text before now Memory = now ≡ before

-- a line that is no answer was passed over, and that was written
pub record IsSkipped (k : ℕ) (bytes : List ℕ) (written left' written' : Option (List ℕ)) :
    Type 0 where
  pub says : (spoken k bytes).says ≡ None
  pub left : left' ≡ Some (spoken k bytes).rest
  pub put : Adds written written' no_answer_text

-- where the source tells
abbrev pub Passes : ℕ → (left written left' written' : Option (List ℕ)) → Type 0
Passes k left written left' written' =
    ForSome left (λ bytes. IsSkipped k bytes written left' written')

-- lines are heard after question number k, so many of which may be no answers
abbrev pub TellsOf : (k patience : ℕ) → (left written left' written' : Option (List ℕ)) → Told →
    Type 0
TellsOf k patience left written left' written' told =
    ForSome left (λ bytes. Tells (hear k patience bytes) written left' written' told)

-- so many lines were passed over, of the most that are
pub record HasSkipped (k most count : ℕ) (bytes : List ℕ)
    (written left' written' : Option (List ℕ)) : Type 0 where
  pub rest : List ℕ
  pub done : List ℕ
  pub left : left' ≡ Some rest
  pub put : Adds written written' done
  pub begins : (patience : ℕ) → patience + count ≡ most →
      hear k most bytes ≡ turned_after done (hear k patience rest)

abbrev pub PassedBy : (k most count : ℕ) → (left written left' written' : Option (List ℕ)) → Type 0
PassedBy k most count left written left' written' =
    ForSome left (λ bytes. HasSkipped k most count bytes written left' written')

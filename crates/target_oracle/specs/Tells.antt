-- What a teacher has written and left, by what it told.
use Rattle.std.specs.Prelude.{◌≡◌, ◌⊎◌, ℕ, List, true, false, Option, Some}
use Rattle.acq_io.specs.Streams.{Adds, AddsFront, AddsOn, TakesSome}
use Rattle.target_oracle.specs.Turns.{Turned, Said, TakenBack, Stopped, Ended, Overlong, Unread}
use Rattle.target_oracle.specs.Turns.{Reply}
use Rattle.target_oracle.specs.declared.teacher.Told.{Told}
use Rattle.target_oracle.specs.declared.teacher.Told.TheVariants.{Yes, No, Back, Stop, End, TooLong}
use Rattle.target_oracle.specs.declared.teacher.Told.TheVariants.{Unreadable, ReadFault, WriteFault}
use Rattle.target_oracle.specs.declared.teacher.Told.TheVariants.{Memory}

-- the turn's reply is this one, the bytes after it are left, and its text was written
pub record IsTurnOf (turned : Turned) (written left' written' : Option (List ℕ)) (reply : Reply) :
    Type 0 where
  pub heard : turned.heard.reply ≡ reply
  pub rest : left' ≡ Some turned.heard.rest
  pub text : Adds written written' turned.text

-- or a front of its text was
abbrev pub Tells : Turned → (written left' written' : Option (List ℕ)) → Told → Type 0
Tells turned written left' written' Yes = IsTurnOf turned written left' written' (Said true)
Tells turned written left' written' No = IsTurnOf turned written left' written' (Said false)
Tells turned written left' written' Back = IsTurnOf turned written left' written' TakenBack
Tells turned written left' written' Stop = IsTurnOf turned written left' written' Stopped
Tells turned written left' written' End = IsTurnOf turned written left' written' Ended
Tells turned written left' written' TooLong = IsTurnOf turned written left' written' Overlong
Tells turned written left' written' Unreadable = IsTurnOf turned written left' written' Unread
Tells turned written left' written' ReadFault = AddsFront written written' turned.text
Tells turned written left' written' WriteFault = AddsFront written written' turned.text
Tells turned written left' written' Memory = AddsFront written written' turned.text

-- What is left of a source is an end of what was left, and this text stood written before any of it
-- was taken.
pub record AsksFirst (left written left' written' : Option (List ℕ)) (text : List ℕ) : Type 0 where
  pub takes : TakesSome left left'
  pub first : (left' ≡ left) ⊎ AddsOn written written' text

-- What a run over a journal has done, and `run`.
use Rattle.std.specs.Prelude.{◌≡◌, ◌⊎◌, ◌+◌, ◌∷◌, ◌++◌}
use Rattle.acq_said.specs.Prelude.{ℕ, Bool, List, [], Option, Result, Ok, IfOk, OnErr, ForSome}
use Rattle.acq_said.specs.Prelude.{AreReadingCalls, DiskOf, Put, Assignment, Event, LeavesOnly}
use Rattle.acq_said.specs.Prelude.{Language, all_calls, IsRaisedOn, OpensWith, OpensWithin}
use Rattle.acq_said.specs.Prelude.{LeavesNow, Opened, SaysOpened, HavePlaces, Turns, Told, IsAdded}
use Rattle.acq_said.specs.Prelude.{Loses, point_of, terms_with, Ending}
use Rattle.acq_said.specs.Breaks.{BreaksRun}
use Rattle.acq_said.specs.Endings.{Tries}
use Rattle.acq_loop.specs.declared.ending.Ending.TheVariants as ending

-- the meanings of a disk
module _ {D : Type 0} (disk : DiskOf D) where
  -- The run of these turns goes on from some events, which are those of the journal where the disk
  -- tells its bytes, and else those of some bytes, and adds some. Where it tells them, a crash at
  -- any moment leaves what it might have left before, or those events and a front of the added
  -- ones. A crash at the end leaves all of them, and where the disk failed the event too whose
  -- adding failed, or not.
  pub record RunGoesOn (turns : Turns) (may : Language → Assignment → Told → Type 0) (budget : ℕ)
      (left written left' written' : Option (List ℕ)) (old new : D) (got : Result Ending Put) :
      Type 0 where
    pub of : Opened
    pub opens : ForSome (disk.content old) (λ bytes. SaysOpened bytes of)
    pub some : (bytes : List ℕ) × SaysOpened bytes of
    pub later : List Event
    pub added : IsAdded of.lang of.plan (may of.lang) of.events later
    pub tries : IfOk got (Tries turns of.lang
        (terms_with of.plan budget) of.events later left written left' written')
    pub part : OnErr got (BreaksRun turns of.lang
        (terms_with of.plan budget) of.events later left written left' written')
    -- the event whose adding failed: that of the reply to the question that came next
    pub last : List Event
    pub none_lost : (got ≡ Ok ending.DiskFault → ⊥) → last ≡ []
    pub one_lost : got ≡ Ok ending.DiskFault → (lost : Event) × (last ≡ lost ∷ [])
        × Loses turns of.lang (terms_with of.plan budget) (point_of of.events left written)
        (point_of later left' written') lost
    -- each event has its place, and so has the lost one
    pub all_places : HavePlaces of.lang of.plan (later ++ last)
    pub any_moment : ForSome (disk.content old) (λ _. LeavesOnly disk old new
        (λ c. disk.may_leave old c ⊎ OpensWithin of.plan of.voc of.events (later ++ last) c))
    pub now : ForSome (disk.content old) (λ _. LeavesNow disk (λ c. OpensWith of.plan of.voc later c
        ⊎ OpensWith of.plan of.voc (later ++ last) c) new)
    -- whether the journal was raised
    pub raised : Bool
    pub was_raised : ForSome (disk.content old) (λ bytes. IsRaisedOn bytes raised)
    -- the disk is called to open the journal and to add an event, and not between two of them
    pub calls : ForSome (disk.content old) (AreReadingCalls
        (5 + all_calls raised (added.more ++ last)) (disk.calls old) (disk.calls new))

-- What the calls of a keeper, one after another, have done to it and to its disk.
use Rattle.std.specs.Prelude.{◌≡◌, ◌⊎◌, ◌≤◌, ◌+◌, ℕ, Bool, true, false, IsTrue, IsFalse, List, ◌∷◌}
use Rattle.std.specs.Prelude.{[], ◌++◌, Option, All, Result, OnOk}
use Rattle.std.specs.Option.{ForSome}
use Rattle.assign.specs.Assignment.{Assignment}
use Rattle.assign.specs.declared.events.Event.{Event}
use Rattle.assign.specs.declared.events.Event.TheVariants as variant
use Rattle.assign.specs.declared.events.Plan.{Plan}
use Rattle.language.specs.Language.{Language}
use Rattle.language.specs.Answers.{standing_on}
use Rattle.disk_model.specs.declared.disk.Disk.{Ghosts as DiskOf}
use Rattle.disk_model.specs.Moments.{LeavesBehind, LeavesOnly}
use Rattle.answer_journal.specs.declared.fault.JFault.TheVariants as journal
use Rattle.session_core.specs.Settled.{IsSettled}
use Rattle.session_store.specs.Kept.{IsAddable, IsTried}
use Rattle.session_store.specs.Left.{OpensWith, OpensWithOrWithout, OpensWithin, LeavesNow}
use Rattle.session_store.specs.declared.fault.SFault.{SFault}
use Rattle.session_store.specs.declared.fault.SFault.TheVariants as store

-- ---- one call that adds an event

-- The event is the last, and another one may be added. Where the answers lead to where nothing is
-- open, no question is put.
pub record HasKept (l : Language) (plan : Plan) (before after : List Event) (event : Event)
    (put : Option Assignment) (live : Bool) : Type 0 where
  pub added : after ≡ before ++ event ∷ []
  pub settled : IsSettled l plan (standing_on l after) put
  pub is_live : IsTrue live

-- The events are those from before, and so is the question.
pub record IsUnmoved (before after : List Event) (was put : Option Assignment) : Type 0 where
  pub events : after ≡ before
  pub question : put ≡ was

-- Why an event isn't kept, and what follows of it: memory is wanting, or the disk failed.
abbrev pub IsNotKept : (unchanged lost : Type 0) → SFault → Type 0
IsNotKept unchanged lost store.Memory = unchanged
IsNotKept unchanged lost (store.Journal journal.DiskFault) = lost
IsNotKept unchanged lost other = ⊥

-- whether a journal is raised after an event, and after all of these: for a take-back it is raised
abbrev pub raised_by : Bool → Event → Bool
raised_by raised (variant.Answer question said) = raised
raised_by raised variant.Back = true

abbrev pub raised_after : Bool → List Event → Bool
raised_after raised [] = raised
raised_after raised (e ∷ events) = raised_after (raised_by raised e) events

-- how many calls of a disk the raising of a journal takes at most, and an event, where it is raised
-- already or isn't
abbrev pub calls_to_raise : Bool → ℕ
calls_to_raise true = 0
calls_to_raise false = 4

abbrev pub calls_for : Bool → Event → ℕ
calls_for raised (variant.Answer question said) = 4
calls_for raised variant.Back = 4 + calls_to_raise raised

-- and all of these: four for each, and four once where the first take-back has to raise it
abbrev pub all_calls : Bool → List Event → ℕ
all_calls raised [] = 0
all_calls raised (e ∷ events) = calls_for raised e + all_calls (raised_by raised e) events

-- What no call changes.
pub record HasSameTerms {K : Type 0} (lang : K → Language) (plan : K → Plan) (voc : K →
    List ℕ) (writes : K → Bool) (old new : K) : Type 0 where
  pub same_lang : lang new ≡ lang old
  pub same_plan : plan new ≡ plan old
  pub same_voc : voc new ≡ voc old
  pub same_writes : writes new ≡ writes old

-- ---- calls one after another

-- Events were added, each that of an answer or a take-back.
pub record IsGrown (before after : List Event) : Type 0 where
  pub more : List Event
  pub is : after ≡ before ++ more
  pub each : All IsAddable more

-- the meanings of a disk
module _ {D : Type 0} (disk : DiskOf D) where
  -- What a call that adds an event leaves of the disk. Where nothing is written, the disk isn't
  -- touched. Else after `Ok` the file opens with the event as its last, and a crash at any moment
  -- leaves the events from before, with it or without. An event that was added leaves the journal
  -- raised or not as it does, and one that wasn't may have left it so or hasn't changed it.
  pub record LeavesEvent {T E : Type 0} (writes was_raised is_raised : Bool) (plan : Plan)
      (voc : List ℕ) (before : List Event) (event : Event) (old new : D) (result : Result T E) :
      Type 0 where
    pub raised : OnOk result (is_raised ≡ raised_by was_raised event)
    pub stays_raised : (is_raised ≡ was_raised) ⊎ (is_raised ≡ raised_by was_raised event)
    pub unwritten : IsFalse writes → new ≡ old
    pub written : IsTrue writes →
        LeavesBehind disk (calls_for was_raised event) old new result (λ _.
        OpensWith plan voc (before ++ event ∷ [])) (λ _. OpensWithOrWithout plan voc before event)

  -- Since the disk was the old one, some events were added. A crash at any moment since then leaves
  -- those from before and a front of the new ones, and a crash now leaves all of them.
  pub record Persists (plan : Plan) (voc : List ℕ) (before after : List Event) (old new : D) :
      Type 0 where
    pub now : LeavesNow disk (OpensWith plan voc after) new
    pub any_moment : LeavesOnly disk old new (OpensWithin plan voc before after)

  -- No more calls were made than these events take, which were added, and the journal is raised or
  -- not as they leave it.
  pub record AreEventCalls (was_raised is_raised : Bool) (added : List Event) (old new : D) :
      Type 0 where
    pub raised : is_raised ≡ raised_after was_raised added
    pub few : disk.calls new ≤ disk.calls old + all_calls was_raised added

  -- These events were added, and then the disk failed while one more was, of which this is known:
  -- that of an answer to the question that is put, or a take-back. No more calls were made than
  -- they take with it. Where the disk told what it held, a crash leaves it as the last event, or
  -- leaves it out.
  pub record FailsWith (was_raised : Bool) (added : List Event) (plan : Plan) (voc : List ℕ)
      (before after : List Event) (put : Option Assignment) (is_lost : Event →
      Type 0) (old new : D) : Type 0 where
    pub event : Event
    pub tried : IsTried put event
    pub lost : is_lost event
    pub few : disk.calls new ≤ disk.calls old + all_calls was_raised (added ++ event ∷ [])
    pub now : ForSome (disk.content old) (λ _. (c : List ℕ) → disk.may_leave new c →
        OpensWithOrWithout plan voc after event c)
    pub any_moment : ForSome (disk.content old)
        (λ _. LeavesOnly disk old new (OpensWithin plan voc before (after ++ event ∷ [])))

-- What a crash may leave of a disk on which a session is kept.
use Rattle.std.specs.Prelude.{ℕ, ◌≡◌, ◌⊎◌, Bool, List, [], ◌∷◌, ◌++◌, Option, Some, None, IsSome}
use Rattle.std.specs.Prelude.{IsTrue, false, refl}
use Rattle.assign.specs.declared.events.Plan.{Plan}
use Rattle.assign.specs.declared.events.Event.{Event}
use Rattle.disk_model.specs.declared.disk.Disk.{Ghosts as DiskOf}
use Rattle.answer_journal.specs.End.{End, Sits}
use Rattle.answer_journal.specs.Journal.{Spells, ReadsAs, Session}

-- the content opens with this plan, these bytes of a vocabulary and these events
abbrev pub OpensWith : Plan → List ℕ → List Event → List ℕ → Type 0
OpensWith plan voc events content = Spells content plan voc events

-- the bytes of a file are read as this session with these events
abbrev pub SaysSession : List ℕ → Plan → List ℕ → List Event → Type 0
SaysSession bytes plan voc events = ReadsAs bytes (Session plan voc events)

-- it opens with these events, or with these and one more
abbrev pub OpensWithOrWithout : Plan → List ℕ → List Event → Event → List ℕ → Type 0
OpensWithOrWithout plan voc events event content = OpensWith plan voc events content
    ⊎ OpensWith plan voc (events ++ event ∷ []) content

-- It opens with the first of these events, and at least with those before.
pub record OpensWithin (plan : Plan) (voc : List ℕ) (before after : List Event) (content : List ℕ) :
    Type 0 where
  pub some : List Event
  pub rest : List Event
  pub is : after ≡ before ++ (some ++ rest)
  pub opens : OpensWith plan voc (before ++ some) content

-- It opens with these events, whatever comes behind them.
pub record HoldsAtLeast (plan : Plan) (voc : List ℕ) (events : List Event) (content : List ℕ) :
    Type 0 where
  pub more : List Event
  pub opens : OpensWith plan voc (events ++ more) content

-- whether the journal of these bytes is raised
pub record IsRaisedOn (bytes : List ℕ) (raised : Bool) : Type 0 where
  pub place : End
  pub behind : Sits place bytes
  pub is : raised ≡ place.raised

-- The disk tells what a read gives, and each content that a crash may leave now has P.
pub record LeavesNow {D : Type 0} (disk : DiskOf D) (P : List ℕ → Type 0) (new : D) : Type 0 where
  pub bytes : List ℕ
  pub tells : disk.content new ≡ Some bytes
  pub each : (c : List ℕ) → disk.may_leave new c → P c

-- for keepers that write nothing
pub false_is_not_true : IsTrue false → ⊥
false_is_not_true e = cc

-- what is told where something is
pub bytes_told : (content : Option (List ℕ)) → IsSome content →
    (bytes : List ℕ) × (content ≡ Some bytes)
bytes_told None is = absurd (false_is_not_true is)
bytes_told (Some bytes) is = (bytes, refl)

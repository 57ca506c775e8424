-- What a session over a journal is.
use Rattle.std.specs.Prelude.{ℕ, ◌≡◌, ◌+◌, Bool, IsTrue, List, [], length, Option, None}
use Rattle.std.specs.Option.{ForSome}
use Rattle.std.proofs.Common.{subst, sym}
use Rattle.assign.specs.Assignment.{Assignment}
use Rattle.assign.specs.declared.events.Event.{Event}
use Rattle.assign.specs.declared.events.Plan.{Plan}
use Rattle.language.specs.Language.{Language}
use Rattle.disk_model.specs.Disk.{Only}
use Rattle.answer_journal.specs.End.{End, Sits}
use Rattle.voc_read.specs.Vocabulary.{IsVocabulary}
use Rattle.session_store.specs.Held.{lang_held, plan_held, question_held, events_held, IsHeld}
use Rattle.session_store.specs.Left.{OpensWith}
use Rattle.session_store.specs.declared.store.Store.{Store}

abbrev pub lang_of : Store → Language
lang_of store = lang_held store.held

abbrev pub plan_of : Store → Plan
plan_of store = plan_held store.held

abbrev pub question_of : Store → Option Assignment
question_of store = question_held store.held

abbrev pub events_of : Store → List Event
events_of store = events_held store.held

-- the bytes of its vocabulary
abbrev pub voc_of : Store → List ℕ
voc_of store = store.voc.items

abbrev pub is_live_in : Store → Bool
is_live_in store = store.journal.live

abbrev pub is_raised_in : Store → Bool
is_raised_in store = store.journal.raised

-- The session stands where the events lead, its language is the reading of the vocabulary, and
-- while the store is live each event is a record.
pub record IsSound (store : Store) : Type 0 where
  pub held : IsHeld store.held
  pub read : IsVocabulary (voc_of store) (lang_of store)
  pub count : IsTrue (is_live_in store) → store.journal.records ≡ length (events_of store) + 1

-- A store of this plan and these bytes of a vocabulary, to which events may be added. It has none,
-- and no question is put.
pub record IsMadeOf (asked : Plan) (given : List ℕ) (store : Store) : Type 0 where
  pub plan : plan_of store ≡ asked
  pub voc : voc_of store ≡ given
  pub events : events_of store ≡ []
  pub idle : question_of store ≡ None
  pub live : IsTrue (is_live_in store)

-- The bytes open with the session and its events, the journal stands behind them, and a crash
-- leaves nothing else.
pub record IsThere (place : End) (plan : Plan) (voc : List ℕ) (events : List Event)
    (may_leave : List ℕ → Type 0) (bytes : List ℕ) : Type 0 where
  pub behind : Sits place bytes
  pub opens : OpensWith plan voc events bytes
  pub durable : Only bytes may_leave

-- a store that is live, and a disk that tells, belong together so; others always do
abbrev pub SitsOn : Store → Option (List ℕ) → (List ℕ → Type 0) → Type 0
SitsOn store content may_leave = IsTrue (is_live_in store) → ForSome content
    (IsThere store.journal (plan_of store) (voc_of store) (events_of store) may_leave)

-- each content that a crash may leave opens with the session and its events
pub opens_there : (place : End) (plan : Plan) (voc : List ℕ)
    (events : List Event) (may_leave : List ℕ → Type 0) (bytes c : List ℕ) →
    IsThere place plan voc events may_leave bytes → may_leave c → OpensWith plan voc events c
opens_there place plan voc events may_leave bytes c there left =
    subst (OpensWith plan voc events) (sym (there.durable c left)) there.opens

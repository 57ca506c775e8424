-- The names from outside that these proofs cite, passed on from one place. Declares nothing.
pub use Rattle.std.proofs.Common.{Bool, Err, IsSome, IsTrue, List, None, Ok, Option, Result, Some, [], ap, append_assoc, arith, cond, drop, false, get_or, inl, inr, length, length-append, length-take-le, map, nat_le, refl, replicate, subst, suc, sym, take, true, zero, ℕ, ⊎_elim, ◌&&◌, ◌*◌, ◌++◌, ◌+◌, ◌-◌, ◌<◌, ◌||◌, ◌∙◌, ◌∷◌, ◌≡◌, ◌≤◌, ◌⊎◌}
pub use Rattle.std.proofs.Math.Seq.{drop-cons, get_or-append_seam, take-append_seam, take-suc}
pub use Rattle.std.proofs.lemmas.Bool.{both_ways, cases_lt, cond-true, false_from_ne_true, lt-ltb, or_left}
pub use Rattle.std.proofs.lemmas.List.{append-nil, drop_all, get_or-append_right, get_or-map, get_or-replicate, get_or_past, length-map, length-replicate, map-append, take-append-drop, take-map, take_all}
pub use Rattle.std.proofs.lemmas.List.Elements.{All-append, All-cons, All-get_or, All-nil, All-take, All-weaker}
pub use Rattle.std.proofs.lemmas.Result.{IfErr-at_err, IfErr-weaker, IfOk-at_ok, err_from_is_err_and, on_ok_weaker}
pub use Rattle.std.specs.Option.{ForNone, ForSome, option_to_list}
pub use Rattle.std.specs.Prelude.{All, IfErr, IfNone, IfSome, IsErr, IsErrAnd, IsErrOf, IsFalse, OnOk, is_some}
pub use Rattle.answer_journal.specs.End.{End, HasNew, IsInPlace, IsOldOrNew, IsSame, Sits}
pub use Rattle.answer_journal.specs.Journal.{Damaged, NoSession, NotAJournal, Reading, ReadsAs, TooManyRecords}
pub use Rattle.answer_journal.specs.Making.{CreateRefused, IsCreating, StartsWith}
pub use Rattle.answer_journal.specs.Storable.{IsStorable, IsStorableEvent}
pub use Rattle.answer_journal.specs.declared.fault.JFault.{JFault}
pub use Rattle.std.proofs.lemmas.Option.{same_Some}
pub use Rattle.assign.proofs.EventLemmas.{cut_to-standing-push, standing-back, take-widened}
pub use Rattle.assign.specs.Assignment.{Assignment, is_same_assignment, value_of, widened}
pub use Rattle.assign.specs.Events.{Answer, cut_to, standing, standing_from, without_last}
pub use Rattle.assign.specs.declared.events.Event.{Event}
pub use Rattle.assign.specs.declared.events.Event.TheVariants.{Back}
pub use Rattle.assign.specs.declared.events.Plan.{Plan}
pub use Rattle.disk_model.proofs.Behind.{behind_as, none_done, nothing_behind, then_behind}
pub use Rattle.disk_model.specs.Disk.{Only, Rose}
pub use Rattle.disk_model.specs.Moments.{GoesOn, IsOnDisk, LeavesBehind, LeavesOnly, joined, started, weaker}
pub use Rattle.disk_model.specs.declared.disk.Disk.{Ghosts as DiskOf}
pub use Rattle.language.specs.Answers.{kept, standing_on}
pub use Rattle.language.specs.Language.{IsLanguage, IsQuestion, Language, variable_count}
pub use Rattle.session_core.specs.Settled.{IsSettled}
pub use Rattle.session_core.specs.Putting.{question_put}
pub use Rattle.session_core.specs.Standing.{IsAskedAfter, IsAskedIn, Stands, knowledge_of, open_in}
pub use Rattle.session_core.specs.declared.session.Session.{Session}
pub use Rattle.session_laws.proofs.Places.{questions_have_places}
pub use Rattle.session_laws.specs.Session.{At, Choosing, Halving, Idle, Course as Led, Over, State, Stray, Walking, begun, if_passes, is_just, is_lawful, open_question, replied, state_after, step, lead_on}
unfoldable pub use Rattle.session_laws.specs.Session.{read_on}
pub use Rattle.voc_read.specs.Vocabulary.{IsVocabulary}
unfoldable pub use Rattle.voc_read.specs.Vocabulary.{vocabulary_parts, refusal_of_vocabulary}
pub use Rattle.voc_read.specs.declared.fault.VocFault.{VocFault}
pub use Rattle.session_store.specs.Faults.{of_journal}
pub use Rattle.session_store.specs.Held.{IsHeld, IsWide, StandsIn, events_held, lang_held, lang_in, plan_held, plan_in, asked_of_session}
pub use Rattle.session_store.specs.Keeping.{AreEventCalls, FailsWith, IsGrown, IsNotKept, LeavesEvent, Persists, calls_for, all_calls, calls_to_raise, raised_after, raised_by}
pub use Rattle.session_store.specs.Kept.{IsAddable, IsTried, answer_event}
pub use Rattle.session_store.specs.Laws.{FrontsHavePlaces, HoldsAnswer, IsEmptyBack, IsFirstStray, RecordsAreAnswers, ReplayIsState, StrayIsFirst}
pub use Rattle.session_store.specs.Left.{HoldsAtLeast, LeavesNow, OpensWith, OpensWithOrWithout, OpensWithin, SaysSession, bytes_told, false_is_not_true}
pub use Rattle.session_store.specs.Opened.{SaysOpened, Opened, Opens, OpensAlways, OpensOnce, RefusesOpening, opened_as, wants_memory}
pub use Rattle.session_store.specs.Opening.{JournalNotOpened, NoLanguage, NotLed, NotMade, NotOpened}
pub use Rattle.session_store.specs.Replay.{AnswersHavePlaces, HasNoPlace, HavePlaces, IsAnswer, IsSettledAt, AreStandingNumbers, IsMoved, IsReplayed, IsStrayIn, MovesBy, MovesTo, NamesStray, Recorded, StaysAt, all_seen, answer_in, answer_to, empty_back, empty_back_from, is_past, recorded, recorded_from, replay, seen, standing_numbers, answer_step, unless_empty}
unfoldable pub use Rattle.session_store.specs.Replay.{replay_on}
pub use Rattle.session_store.specs.Store.{IsThere, SitsOn, events_of, opens_there, plan_of, question_of, voc_of}
pub use Rattle.session_store.specs.declared.fault.SFault.{SFault}
pub use Rattle.shared_lemmas.proofs.Read.{none_given}

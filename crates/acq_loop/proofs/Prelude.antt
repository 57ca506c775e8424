-- The names from outside that these proofs cite, passed on from one place. Declares nothing.
pub use Rattle.std.proofs.Common.{Bool, Err, IfErr, IsErrOf, IsFalse, List, None, Ok, OnErr, OnOk, Option, Result, Some, [], ap, append_assoc, arith, cond, false, get_or, inl, inr, is_some, length, length-append, refl, subst, suc, sym, take, true, zero, ℕ, ⊎_elim, ◌*◌, ◌++◌, ◌+◌, ◌-◌, ◌<◌, ◌^◌, ◌||◌, ◌∙◌, ◌∷◌, ◌≡◌, ◌≤◌, ◌⊎◌}
pub use Rattle.std.proofs.lemmas.Bool.{and_from, and_parts, cases_Bool, cases_lt, eq-eqb, eqb-true, false_from_ne_true}
pub use Rattle.std.proofs.lemmas.List.{append-nil, length-map, take-map}
pub use Rattle.std.proofs.lemmas.List.Elements.{All-append, All-cons, All-filter, All-head, All-nil, All-tail, filter_passes}
pub use Rattle.std.proofs.lemmas.List.Folds.{list_any_at}
pub use Rattle.std.specs.List.{filter, list_any}
pub use Rattle.std.specs.Option.{ForSome, option_map}
pub use Rattle.std.specs.Prelude.{All, Any, IfSome, IsTrue, not, slice_index_or, ◌&&◌, ◌==◌, ◌≢◌}
pub use Rattle.acq_io.proofs.CallLemmas.{called_as, called_none, called_not, called_on}
pub use Rattle.acq_io.proofs.TakenLemmas.{adds_none, adds_then, takes_none, takes_some_on}
pub use Rattle.assign.proofs.EventLemmas.{cut_to-standing-push, standing-back}
pub use Rattle.assign.specs.Assignment.{is_complete}
pub use Rattle.assign.specs.Events.{cut_to, without_last}
pub use Rattle.assign.specs.Sets.{has}
pub use Rattle.language.proofs.Members.{all_candidates, any-filter, any_number, find_some}
pub use Rattle.language.specs.Language.{IsLanguage, accepts, is_question, violates}
pub use Rattle.query_gen.proofs.Marking.{no_marks_hold}
pub use Rattle.query_gen.specs.Laws.{AllAreImplied, AskedIsLawful, MarksStay, UndecidedIsSpent}
pub use Rattle.query_gen.specs.declared.query.Query.TheVariants.{AllImplied, Ask}
pub use Rattle.session_core.specs.Putting.{question_put}
pub use Rattle.session_core.specs.Standing.{IsAskedAfter, IsAskedIn, Knows, PutAfter, Stands, knowledge_of, open_in}
pub use Rattle.session_core.specs.declared.knowledge.Knowledge.{Knowledge}
pub use Rattle.session_core.specs.declared.session.Session.{Session}
pub use Rattle.session_laws.proofs.Counted.{answers_are_at_most, answers_are_few, learned_are_few}
pub use Rattle.session_laws.proofs.Folds.{assignment_same, one_answer_more}
pub use Rattle.session_laws.proofs.States.{idle_is_in_step, implied_is_covered, over_means_none, same_state}
pub use Rattle.session_laws.specs.Laws.{Extends, OneAnswerMore, QuestionsHavePlaces, QuestionsHaveValues}
pub use Rattle.session_laws.specs.Session.{is_just, is_lawful, is_undecided, next_scope, step, lead_on}
unfoldable pub use Rattle.session_laws.specs.Session.{read_on}
pub use Rattle.session_laws.specs.Walk.{violates_some}
pub use Rattle.session_store.proofs.Keepers.{both_as, calls_one, event_calls, event_goes_on, event_left, event_now, fails_one, grown_none, grown_one, keeps_as, keeps_still, keeps_then, kept_failed, kept_faults, kept_memory, loses_none, loses_none_as, loses_nothing, persists_one, rose_later}
pub use Rattle.session_store.specs.Keeps.{IsKeeping, Keeps, OnlyPuts}
pub use Rattle.session_store.specs.Kept.{IsAddable, IsTried}
pub use Rattle.target_oracle.specs.Tells.{IsTurnOf}
pub use Rattle.target_oracle.specs.Turns.{Ended, Turned}
pub use Rattle.acq_loop.specs.Prelude.{Adds, AddsFront, Answer, AreMadeFor, AreMarksFor, AsksFirst, Assignment, At, Candidate, Choosing, Course, DiskOf, Event, Halving, HasCalled, Idle, IsCandidate, IsCovered, IsLawfulAfter, IsNetwork, IsQuestion, IsSettled, IsUndecided, KeepOf, Language, MarksHold, Multi, Over, Overlong, Plan, Quacq, Remembered, Reply, Said, Scopes, State, Stopped, Stray, TakenBack, TakesSome, Tells, Told, Turns, Unread, WalkEnd, Walking, agrees, answer_event, candidates, has_scope, is_among, is_open, is_spent, kept, network_in, next_query, numbers, open_question, outcome_of_candidate, scope_question, standing, standing_on, state_after, variable_count}
pub use Rattle.acq_loop.specs.Added.{IsAdded, IsTaught, MayAdd, MayEnd, MaySayNext}
pub use Rattle.acq_loop.specs.Closings.{closing_of, ending_of}
pub use Rattle.acq_loop.specs.Driven.{Drives, HasEnded, HasFound, IsCollapsed, IsDone, IsLeftOpen, IsOwned, IsPending, Loses, Point, Remembers, StepsTo, TellsOpen, next_lines}
pub use Rattle.acq_loop.specs.Due.{EventKept, IsDue, IsOneMore, NextIs, ended_by}
pub use Rattle.acq_loop.specs.Heard.{Forgets, HearsReply, MayKeep, end_on_fault, event_on, heard_of}
pub use Rattle.acq_loop.specs.Loop.{EndsAs, EndsUnasked, HasTurned, TellsCandidates, is_unasked}
pub use Rattle.acq_loop.specs.Points.{point_of, terms_with}
pub use Rattle.acq_loop.specs.Run.{Closing, Collapsed, Converged, Ends, JournalFull, LineTooLong, Next, Puts, Ran, Runs, Suspended, Undecided, Unreadable, after_text, answer, ended, event_heard, heard_on, idle_next, is_full, next_after, next_at, next_in, next_on, number_on, put_on, searched, Stretch, stretch, stretch_after, stretch_on, unless_full}
unfoldable pub use Rattle.acq_loop.specs.Run.{ran, stretch_of}
pub use Rattle.acq_loop.specs.Turn.{IsTurn, SaysNext, between_turns}
pub use Rattle.acq_loop.specs.declared.driving.Drove.{Drove}
pub use Rattle.acq_loop.specs.declared.driving.Entry.{Entry}
pub use Rattle.acq_loop.specs.declared.terms.Terms.{Terms}

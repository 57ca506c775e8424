-- The names from outside that these definitions use, passed on from one place. Declares nothing.
pub use Rattle.std.specs.Fmt.{decimal}
pub use Rattle.std.specs.List.{flat_map}
pub use Rattle.std.specs.Option.{ForSome, option_map, option_map_or}
pub use Rattle.std.specs.Prelude.{All, Bool, Err, IfSome, IsFalse, IsSome, IsTrue, List, None, Ok}
pub use Rattle.std.specs.Prelude.{Option, Result, Some, [], codes, false, filter, length, suc, true}
pub use Rattle.std.specs.Prelude.{zero, ℕ}
pub use Rattle.acq_io.specs.Streams.{Adds, AddsFront, HasCalled, Rose, TakesSome}
pub use Rattle.acq_io.specs.declared.streams.Put.{Put}
pub use Rattle.acq_words.specs.Request.{IsBudget}
pub use Rattle.assign.specs.Assignment.{Assignment}
pub use Rattle.assign.specs.Events.{Answer, standing}
pub use Rattle.assign.specs.Sets.{numbers}
pub use Rattle.assign.specs.declared.events.Event.{Event}
pub use Rattle.assign.specs.declared.events.Plan.{Plan}
pub use Rattle.assign.specs.declared.events.Plan.TheVariants.{Multi, Quacq, Scopes}
pub use Rattle.disk_model.specs.Disk.{Rose as DiskRose}
pub use Rattle.disk_model.specs.declared.disk.Disk.{Ghosts as DiskOf}
pub use Rattle.fd_solver.specs.Outcomes.{outcome_of_candidate}
pub use Rattle.fd_solver.specs.declared.outcome.Outcome.TheVariants.{Spent}
pub use Rattle.find_scope.specs.Bound.{log_up}
pub use Rattle.language.specs.Answers.{IsConverged, IsCovered, IsNetwork, NoneAgrees, agrees}
pub use Rattle.language.specs.Answers.{has_scope, kept, standing_on}
pub use Rattle.language.specs.Language.{HasSameSolutions, IsCandidate, IsImplied, IsQuestion}
pub use Rattle.language.specs.Language.{Language, candidates, variable_count}
pub use Rattle.language.specs.Search.{plain_size}
pub use Rattle.language.specs.Texts.{candidate_text}
pub use Rattle.language.specs.declared.candidates.Candidate.{Candidate}
pub use Rattle.network.specs.Texts.{network_text}
pub use Rattle.par_screen.specs.Eighths.{AreMadeFor}
pub use Rattle.query_gen.specs.Laws.{IsUndecided}
pub use Rattle.query_gen.specs.Marks.{HasNoMarks, AreMarksFor, MarksHold, Remembered, is_open}
pub use Rattle.query_gen.specs.Questions.{is_among, is_spent, next_query}
pub use Rattle.query_gen.specs.declared.place.Place.{Place}
pub use Rattle.query_gen.specs.declared.query.Query.{Query}
pub use Rattle.session_core.specs.Settled.{IsSettled}
pub use Rattle.session_laws.specs.Bound.{bound, greatest_arity}
pub use Rattle.session_laws.specs.Laws.{IsWalked, network_in}
pub use Rattle.session_laws.specs.Session.{At, Choosing, Halving, Idle, Over, Course, State, Stray}
pub use Rattle.session_laws.specs.Session.{Walking, open_question, scope_question, state_after}
pub use Rattle.session_laws.specs.Session.{walk_end}
pub use Rattle.session_laws.specs.Walk.{WalkEnd}
pub use Rattle.session_store.specs.Keeps.{LosesNone}
pub use Rattle.session_store.specs.Kept.{IsLawfulAfter, answer_event, event_for}
pub use Rattle.session_store.specs.Replay.{HavePlaces}
pub use Rattle.session_store.specs.declared.fault.SFault.{SFault}
pub use Rattle.session_store.specs.declared.keep.Keep.{Ghosts as KeepOf}
pub use Rattle.target_oracle.specs.NetTurns.{told_of_answer}
pub use Rattle.target_oracle.specs.Teaching.{TeachesOn}
pub use Rattle.target_oracle.specs.Tells.{AsksFirst, Tells}
pub use Rattle.target_oracle.specs.Turns.{Overlong, Reply, Said, Stopped, TakenBack, Turns, Unread}
pub use Rattle.target_oracle.specs.declared.teacher.Told.{Told}
pub use Rattle.voc_read.specs.FaultTexts.{fault_text}
pub use Rattle.voc_read.specs.declared.fault.VocFault.{VocFault}

-- The names from outside that these proofs cite, passed on from one place. Declares nothing.
pub use Rattle.std.proofs.Common.{Bool, Err, Global, List, None, Ok, Option, Result, Some, Vec, [], ap, append_assoc, arith, cond, drop, false, get_or, inl, inr, is_some, length, length-append, length-take-le, map, refl, rules, subst, suc, sym, take, tests, true, zero, ℕ, ⊎_elim, ◌++◌, ◌+◌, ◌-◌, ◌<◌, ◌∙◌, ◌∷◌, ◌≡◌, ◌≤◌, ◌⊎◌}
pub use Rattle.std.proofs.lemmas.Bool.{cases_lt, eq-eqb, leb-false}
pub use Rattle.std.proofs.lemmas.List.{append-nil, append_cancel_left, length-map, take_all}
pub use Rattle.std.proofs.lemmas.List.Elements.{All-cons, All-get_or, All-nil, All-weaker, filter-append}
pub use Rattle.std.specs.Fmt.{decimal}
pub use Rattle.std.specs.List.{flat_map, list_any}
pub use Rattle.std.specs.Option.{ForSome, option_map}
pub use Rattle.std.specs.Prelude.{All, IfOk, IfSome, IsErr, IsSome, MatchOption, MatchResult, OnErr, codes, filter, if◌then◌else◌, nat_le, ◌≢◌}
pub use Rattle.std.specs.String.{string_bytes}
pub use Rattle.acq_io.specs.Whole.{Gathered, Gives, TakesOfLine, first_line_of, gathered}
unfoldable pub use Rattle.acq_io.specs.Whole.{all_of}
pub use Rattle.acq_io.specs.declared.streams.Put.{Put}
pub use Rattle.acq_io.specs.declared.streams.Put.TheVariants.{Failed, Memory}
pub use Rattle.acq_io.specs.declared.whole.AllFault.{AllFault}
pub use Rattle.acq_loop.proofs.Nexts.{learned_is, some_of}
pub use Rattle.acq_loop.proofs.Reached.{IsReached, some_there}
pub use Rattle.acq_loop.proofs.Running.{IsWithin, room_not_full, room_unless, run_exists}
pub use Rattle.acq_loop.proofs.Standings.{carried, few_answers, reached, run_laws, stands_at}
pub use Rattle.acq_loop.specs.Added.{IsAdded, MayEnd}
pub use Rattle.acq_loop.specs.Closings.{closing_of, ending_of}
pub use Rattle.acq_loop.specs.Driven.{Drives, HasEnded, IsDone, Loses, Point, TellsOpen, next_lines}
pub use Rattle.acq_loop.specs.Points.{point_of, terms_with}
pub use Rattle.acq_loop.specs.Program.{ended_as}
pub use Rattle.acq_loop.specs.Run.{Closing, Collapsed, Converged, Ends, JournalFull, LineTooLong, Next, Puts, Ran, Runs, Suspended, Undecided, Unreadable, is_full, next_after, next_on}
pub use Rattle.acq_loop.specs.Texts.{closing_text, ending_line, learned_after, learned_in, open_candidates, open_line, refusal_text}
pub use Rattle.acq_loop.specs.declared.driving.Drove.{Drove}
pub use Rattle.acq_loop.specs.declared.ending.Ending.{Ending}
pub use Rattle.acq_loop.specs.declared.terms.Terms.{Terms}
pub use Rattle.answer_journal.specs.Calls.{AreReadingCalls}
pub use Rattle.assign.specs.Assignment.{Assignment}
pub use Rattle.assign.specs.Events.{Answer}
pub use Rattle.assign.specs.declared.events.Event.{Event}
pub use Rattle.assign.specs.declared.events.Plan.{Plan}
pub use Rattle.cert_check.specs.Certificate.{Certificate}
pub use Rattle.cert_check.specs.Checking.{verdict}
pub use Rattle.cert_check.specs.Making.{certificate_of, certificate_made}
pub use Rattle.cert_check.specs.WritingLaws.{HaveValues, IsConfirmed}
pub use Rattle.cert_check.specs.declared.fault.CertFault.{CertFault}
pub use Rattle.disk_model.specs.Moments.{LeavesOnly, joined, weaker}
pub use Rattle.disk_model.specs.declared.disk.Disk.{Ghosts as DiskOf}
pub use Rattle.language.specs.Answers.{IsCovered, IsNetwork, standing_on}
pub use Rattle.language.specs.Language.{IsLanguage, IsQuestion, Language, candidates, candidates_on, variable_count}
pub use Rattle.language.specs.declared.candidates.Candidate.{Candidate}
pub use Rattle.net_cnf.specs.Models.{model_of}
pub use Rattle.net_cnf.specs.Texts.{cnf_of}
pub use Rattle.net_cnf.specs.declared.fault.CnfFault.{CnfFault}
pub use Rattle.network.specs.Learned.{Learned}
pub use Rattle.network.specs.Texts.{network_text}
pub use Rattle.query_gen.specs.Marks.{AreMarksFor, Remembered, is_open}
pub use Rattle.session_core.specs.Standing.{IsAskedIn, Stands, knowledge_of, open_in}
pub use Rattle.session_core.specs.declared.session.Session.{Session}
pub use Rattle.session_laws.specs.Laws.{IsAskable, network_in}
pub use Rattle.session_laws.specs.Session.{At, Choosing, Halving, Idle, Over, State, Walking, is_just, open_question, state_after, step, lead_on}
unfoldable pub use Rattle.session_laws.specs.Session.{read_on}
pub use Rattle.session_store.proofs.Keepers.{both_as, keeps_as, rose_later, within_more}
pub use Rattle.session_store.proofs.Recording.{record_at, recorded_seen}
pub use Rattle.session_store.proofs.Replaying.{IsBusy, busy_from, seen_next}
pub use Rattle.session_store.specs.Held.{IsWide}
pub use Rattle.session_store.specs.Keeping.{AreEventCalls, FailsWith, IsGrown, Persists, calls_for, all_calls}
pub use Rattle.session_store.specs.Left.{IsRaisedOn, LeavesNow, OpensWith, OpensWithOrWithout, OpensWithin, SaysSession, bytes_told}
pub use Rattle.session_store.specs.Opened.{SaysOpened, Opened, OpensOnce, RefusesOpening, is_of_bytes, opened_as}
pub use Rattle.session_store.specs.Replay.{HavePlaces, IsAnswer, Recorded, all_seen, answer_in, answer_to, recorded, recorded_from, seen, standing_numbers}
pub use Rattle.session_store.specs.Store.{IsThere, events_of, is_raised_in, lang_of, opens_there, plan_of, question_of, voc_of}
pub use Rattle.session_store.specs.declared.fault.SFault.{SFault}
pub use Rattle.session_store.specs.declared.store.Store.{Store}
pub use Rattle.target_oracle.specs.Lines.{line_turn}
pub use Rattle.target_oracle.specs.Turns.{Turns}
pub use Rattle.target_oracle.specs.declared.teacher.Told.{Told}
pub use Rattle.voc_read.specs.Vocabulary.{IsVocabulary}
pub use Rattle.acq_said.specs.Asks.{AsksTruly, asked_said}
pub use Rattle.acq_said.specs.Breaks.{BreaksRun}
pub use Rattle.acq_said.specs.Certifying.{MakesGood, TellsEnd, certificate_said, if_at_end}
pub use Rattle.acq_said.specs.Confirming.{IsCheck, checked_said, verdict_said}
pub use Rattle.acq_said.specs.Endings.{HasAsked, Says, SaysEnd, SaysPart, Tries}
pub use Rattle.acq_said.specs.Exactly.{IsBrokenOff}
pub use Rattle.acq_said.specs.Inputs.{SaysOfInput, SaysOfRead}
pub use Rattle.acq_said.specs.Journals.{SaysRefusal, refused_said, untold}
pub use Rattle.acq_said.specs.Making.{made_said, voc_refused}
pub use Rattle.acq_said.specs.Over.{EndsAsOpened, SaysOver}
pub use Rattle.acq_said.specs.Printing.{clauses_said}
pub use Rattle.acq_said.specs.Reducing.{first_spent, network_led_to, reduced_said}
pub use Rattle.acq_said.specs.Running.{RunGoesOn}
pub use Rattle.acq_said.specs.Said.{HasWritten, IsSaid, SaysSo, or_silent, silent_end}
pub use Rattle.acq_said.specs.Saying.{Saying, saying}
pub use Rattle.answer_journal.specs.EventList.{is_back}
pub use Rattle.acq_said.specs.Shows.{answer_line, answer_lines, back_line, plan_words, reading_text, show_text}
pub use Rattle.acq_said.specs.Solving.{Solves, solution_said, solved_said}
pub use Rattle.acq_said.specs.TakingBack.{EndsBack, back_on, back_said}
pub use Rattle.acq_said.specs.declared.ask.Ask.{Ask}
pub use Rattle.acq_said.specs.declared.said.Unsaid.{Unsaid}

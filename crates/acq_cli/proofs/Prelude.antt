-- The names from outside that these proofs cite, passed on from one place. Declares nothing.
pub use Rattle.std.proofs.Common.{Bool, Err, Global, IsTrue, List, None, Ok, Option, Result, Some, Vec, [], ap, append_assoc, arith, cond, drop, false, get_or, inl, inr, length, length-append, map, refl, rules, subst, suc, sym, take, true, zero, ℕ, ⊎_elim, ◌&&◌, ◌*◌, ◌++◌, ◌+◌, ◌<◌, ◌∙◌, ◌∷◌, ◌≡◌, ◌≤◌, ◌⊎◌}
pub use Rattle.std.proofs.Math.Logic.{⊎_map}
pub use Rattle.std.proofs.Math.Path.{transport}
pub use Rattle.std.proofs.lemmas.List.{append-nil, length-map}
pub use Rattle.std.proofs.lemmas.List.Elements.{All-cons, All-filter, All-head, All-nil, All-tail}
pub use Rattle.std.specs.Option.{ok_or, option_map}
pub use Rattle.std.specs.Prelude.{MatchResult, IfSome, nat_le, ◌≢◌}
pub use Rattle.std.specs.String.{string_bytes}
pub use Rattle.acq_io.proofs.CallLemmas.{called_as, called_not}
pub use Rattle.acq_io.proofs.TakenLemmas.{adds_then, takes_none, takes_some_on}
pub use Rattle.acq_io.specs.Streams.{HasCalled}
pub use Rattle.acq_io.specs.Whole.{Gathered, gathered}
unfoldable pub use Rattle.acq_io.specs.Whole.{all_of}
pub use Rattle.acq_loop.proofs.Reached.{IsReached, standing_size}
pub use Rattle.acq_loop.proofs.Running.{next_ends, next_put, placed, puts_next, room_not_full, run_exists, sized_at}
pub use Rattle.acq_loop.proofs.Standings.{at_turn, due_reached, few_answers, run_laws}
pub use Rattle.acq_loop.proofs.Short.{RanTo, TellsFull, puts_or, turned_on, whole_text}
pub use Rattle.acq_loop.specs.Added.{IsAdded, MayAdd, MayEnd}
pub use Rattle.acq_loop.specs.Closings.{closing_of, ending_of}
pub use Rattle.acq_loop.specs.Driven.{Drives, HasEnded, IsDone, IsLeftOpen, IsOwned, Loses}
pub use Rattle.acq_loop.specs.Points.{point_of}
pub use Rattle.acq_loop.specs.Program.{TellsCauses}
pub use Rattle.acq_loop.specs.Run.{Ends, Next, Puts, after_text, answer, ended, heard_on, idle_next, next_after, next_at, next_in, next_on, number_on, put_on, searched}
unfoldable pub use Rattle.acq_loop.specs.Run.{ran}
pub use Rattle.acq_loop.specs.Texts.{open_candidates, refusal_text}
pub use Rattle.acq_said.proofs.Closings.{AddsLast, err_ok, failed, loop_end, loops_by, not_loops, okay, same_ok}
pub use Rattle.acq_said.proofs.Journals.{MakesOf, IsDisk, any_answer, goes_on_with, opened_raised, over_opened, over_refused}
pub use Rattle.acq_said.proofs.Parts.{acquires_as, acquires_in, begun, begun_part, breaks_in, breaks_refused, ends_ok, ends_part, unbegun}
pub use Rattle.acq_said.proofs.SaidOver.{EndsAsMade, OpensAs, asked_own, check_own, is_own, not_own, opening_own, over_ends, own_said, read_own, refuses_own, so_own, solve_ends, solves_own}
pub use Rattle.acq_said.proofs.Spoken.{EndsWith, IsReading, SaidSo, SaysOpening, ends_as, ends_said, fine, fine_long, gives_got, input_end, long_one, ok_any, only_long, refuses_end, said_as, same_fine, silent_not, silently, too_many, whole_of}
pub use Rattle.acq_said.proofs.TakenBack.{back_ends, back_own}
pub use Rattle.acq_said.proofs.Tries.{fresh_part, fresh_tries, said_of}
pub use Rattle.acq_said.specs.Confirming.{IsCheck, IsJudged, checked_said}
pub use Rattle.acq_said.specs.Endings.{Tries}
pub use Rattle.acq_said.specs.Exactly.{IsBrokenOff}
pub use Rattle.acq_said.specs.Journals.{untold}
pub use Rattle.acq_said.specs.Making.{IsMaking, News, made_said, voc_refused}
pub use Rattle.acq_said.specs.Over.{EndsAsOpened}
pub use Rattle.acq_said.specs.Said.{HasWritten, or_silent}
pub use Rattle.acq_said.specs.Trying.{IsRefusal, IsTextOfRun, ReadsVocabulary}
pub use Rattle.assign.proofs.EventLemmas.{cut_to-standing-push}
pub use Rattle.assign.specs.Assignment.{Assignment}
pub use Rattle.assign.specs.Events.{standing_from}
pub use Rattle.language.specs.Language.{accepts}
pub use Rattle.network.specs.Target.{network_of_items}
pub use Rattle.rel_formula.specs.Json.{json_of}
unfoldable pub use Rattle.network.specs.Target.{network_of}
pub use Rattle.query_gen.specs.Questions.{is_among, next_query}
pub use Rattle.session_core.specs.Standing.{knowledge_of}
pub use Rattle.session_laws.proofs.Limits.{answers_fit}
pub use Rattle.session_laws.specs.Session.{Over, State, open_question, scope_question}
pub use Rattle.session_store.proofs.Openings.{ReadOnce, holds_none, opens_once, same_session}
pub use Rattle.session_store.proofs.Keepers.{keeps_as, keeps_still, rose_later}
pub use Rattle.session_store.proofs.Placing.{none_placed}
pub use Rattle.session_store.specs.Kept.{answer_event}
pub use Rattle.session_store.specs.Left.{false_is_not_true}
pub use Rattle.session_store.specs.Loose.{events_of, lang_of, plan_of}
pub use Rattle.session_store.specs.Replay.{HavePlaces}
unfoldable pub use Rattle.session_store.specs.Replay.{replay_on}
pub use Rattle.session_store.specs.Store.{question_of, voc_of}
pub use Rattle.target_oracle.specs.Generator.{name_of}
pub use Rattle.target_oracle.specs.Lines.{Spoken, hear_line, no_answer_text, turned_by, spoken, spoken_in}
unfoldable pub use Rattle.target_oracle.specs.Lines.{hear}
pub use Rattle.target_oracle.specs.NetTurns.{told_of_answer}
pub use Rattle.target_oracle.specs.Turns.{Reply, TakenBack, Turned, Unread, turned_after}
pub use Rattle.voc_read.proofs.OneReading.{one_language}
pub use Rattle.voc_read.proofs.Refused.{not_refused}
pub use Rattle.voc_read.specs.Vocabulary.{refusal_of_vocabulary}
pub use Rattle.voc_read.specs.declared.fault.VocFault.{VocFault}
pub use Rattle.acq_cli.specs.Prelude.{Acquires, Adds, AddsFront, All, AllFault, Answer, AsksTruly, Candidate, Closing, Collapsed, Command, ConfirmsExactly, Converged, DiskOf, Drove, Ending, Event, ForSome, Gives, RunGoesOn, HasFound, HasSameSolutions, SaysOpened, Idle, IfOk, IsAnswer, IsConverged, IsCovered, IsGenerated, IsLanguage, IsNetwork, IsSaid, IsVocabulary, Language, NetFault, OnErr, Opened, Plan, Put, Quacq, Ran, SaysRefusal, Runs, SFault, Said, Saying, SaysOfInput, SaysOver, SaysSo, Scopes, Solves, Terms, Turns, Undecided, Unsaid, UsageFault, agrees, asked_said, bound, candidates, closing_text, codes, ended_as, ending_line, first_line_of, flat_map, kept, learned_after, learned_in, line_turn, most_answers, net_may_say, net_turn, saying, standing_on, target_of, terms_with, usage_text, variable_count}
pub use Rattle.acq_cli.specs.Commands.{EndsExactly}
pub use Rattle.acq_cli.specs.Completing.{Completes, HasRecordsLeft, IsAffordable, IsAnswerLine, IsEnough}
pub use Rattle.acq_cli.specs.Demoing.{ClosesQuietly, Demos, HasDriven, IsDemo, SaysSum, demo_text, summary_text}
pub use Rattle.acq_cli.specs.Doing.{Asks, Does, Spoke}
pub use Rattle.acq_cli.specs.Headline.{FindsNetwork, FindsNone, IsOfJournal, IsOfNumber, IsSessionOf, LeavesOpen}
pub use Rattle.acq_cli.specs.Laws.{BudgetIsEnough, GeneratedIsShort, RoomIsLeft}
pub use Rattle.acq_cli.specs.Playing.{EndsPlaying, IsAnsweredBy, PlaysExactly, PlaysOn, ReadsTarget, SaysNoNetwork, SaysUnplayed, stale_said, target_refused}
pub use Rattle.acq_cli.specs.Words.{IsCommandOf, command_in}
unfoldable pub use Rattle.acq_cli.specs.Words.{command_asked}

-- The names from outside that these proofs cite, passed on from one place. Declares nothing.
pub use Rattle.std.proofs.Common.{All, Bool, List, None, Option, Result, Some, [], add-one, ap, append-nil, append_assoc, arith, drop, drop_at, false, flat_map, get_or, inl, inr, is_some, length, length-append, length-drop, length-set, length-take-le, ltb, min, option_map, refl, replicate, set, subst, suc, sym, take, take-append-drop, take_all, take_at, true, zero, ℕ, ⊎_elim, ◌*◌, ◌++◌, ◌+◌, ◌-◌, ◌<◌, ◌^◌, ◌∙◌, ◌∷◌, ◌≡◌, ◌≤◌, ◌⊎◌}
pub use Rattle.std.proofs.lemmas.Bool.{both_ways, cases_Bool, cases_eq, cases_lt, eq-eqb, eqb-true, ltb-false}
pub use Rattle.std.proofs.lemmas.List.{append_cancel_left, drop-drop, drop-set-lt, drop_more, length-take, length_push, nil_from_length, take-append-le, take_more, take_more_set}
pub use Rattle.std.proofs.lemmas.Result.{err_from_is_err_and, on_ok_weaker}
pub use Rattle.std.specs.Int.{from_be_bytes, to_be_bytes, w32}
pub use Rattle.arrayvec.specs.ArrayVec.{array_vec_len}
pub use Rattle.assign.specs.declared.events.Event.{Event}
pub use Rattle.assign.specs.declared.events.Event.TheVariants.{Answer, Back}
pub use Rattle.assign.specs.declared.events.Plan.{Plan}
pub use Rattle.disk_model.proofs.Behind.{behind_as, none_done, nothing_behind, then_behind}
pub use Rattle.disk_model.specs.Disk.{AddsNothing, Elapses, Holds, Only, Torn}
pub use Rattle.disk_model.specs.Moments.{IsOnDisk, IsOnlyRead, LeavesBehind, goes_on, joined, started, weaker}
pub use Rattle.answer_journal.specs.Calls.{AreReadingCalls, TakesPieces}
pub use Rattle.answer_journal.specs.End.{End, HasAdded, HasNew, HasRoom, IsOldOrAdded, IsOldOrNew, IsSame, MayBeAdded, Sits, counted_with, room_to_raise}
pub use Rattle.answer_journal.specs.Format.{MAGIC, MOST_RECORDS, MOST_VOCABULARY, answer_payload, kind_byte, pairs_from, plan_byte, record_bytes, record_payload, said_byte, tail_bytes, valued_count, written}
unfoldable pub use Rattle.answer_journal.specs.Format.{record_tail, session_tail}
pub use Rattle.answer_journal.specs.Found.{BeginsWith, BreaksOff, EventsRefused, ReachesGate, HasEvents, IsFar, IsProgress, IsReached, AreRecordsRead, HoldsTooMany, Refused, WereRead, gate_reached}
pub use Rattle.answer_journal.specs.Heads.{IsHead}
pub use Rattle.answer_journal.specs.Journal.{Bare, Damaged, Front, HasNextRecord, HasNoSession, HasTooManyRecords, HoldsRecords, IsClosedAfter, IsDamagedAt, IsFront, NoSession, NotAJournal, Reading, ReadsAs, Records, Session, Spells, TooManyRecords, front_bytes}
pub use Rattle.answer_journal.specs.Making.{CreateRefused, IsCreating, StartsWith}
pub use Rattle.answer_journal.specs.Pairs.{options-end, options-large, options-more, options-short, options-skipped, options-taken, options_again, options_at, options_sound}
pub use Rattle.answer_journal.specs.Records.{AreInOrder, MayFollow, events_among, is_raised_after, is_raised_by, with_record}
pub use Rattle.answer_journal.specs.Steps.{HasRecord, IsWithOrWithout}
pub use Rattle.answer_journal.specs.Storable.{IsStorable, IsStorableEvent, IsStorableSession}
pub use Rattle.answer_journal.specs.Unique.{Stuck, closed_stuck, first_once, given_few, none_follows, pairs_size, payload_small, records_more, records_once, sessions_once, spells_once, tail_once, written_apart, written_split}
pub use Rattle.answer_journal.specs.declared.fault.JFault.{JFault}
pub use Rattle.answer_journal.specs.declared.head.Head.{Head}
pub use Rattle.answer_journal.specs.declared.head.Head.TheVariants.{Closed, Foreign, Open, Short}
pub use Rattle.answer_journal.specs.declared.record.Record.{Record}
pub use Rattle.answer_journal.specs.declared.record.Record.TheVariants.{Added, Raising}
pub use Rattle.shared_lemmas.proofs.Read.{none_given}

use Rattle.answer_journal.proofs.Prelude.{◌≡◌, ◌≤◌, ◌+◌, [], length, inl, inr, ap, arith, length-append, err_from_is_err_and, MOST_RECORDS, record_tail, with_record}
use Rattle.answer_journal.proofs.RecordLoop.{behind_first, one_gate, IsWide, closes, breaks_off, one_read, one_more, overflows, not_noted, not_noted_somewhere}
use Rattle.answer_journal.proofs.pieces.events_in.Goals.{then-is_last, else-is_last+then-rest-gt-LONGEST}
use Rattle.answer_journal.proofs.SomeBytes.{breaks_off_somewhere, overflows_somewhere}
use Rattle.answer_journal.proofs.pieces.events_in.Goals as goal

pub returns-in_default-clause-read : goal.returns-in_default-clause-read
returns-in_default-clause-read c bytes more start records is begins last =
    let w = c.records.invariant.read start records is in
    let s = w.begins bytes more begins in
    let rest = c.records.rest.now in
    elim c.if-is_last.branch [
      | then-is_last v ↦ let none : more ≡ [] = last v.if-is_last.true in absurd (omega (arith, s.some, length-append rest more, ap length none, c.in_default.len_below))
      | else-is_last+then-rest-gt-LONGEST v ↦ absurd (omega (arith, v.if-rest-gt-LONGEST.true, c.in_default.len_below))
    ]

pub returns-in_default-clause-some_bytes : goal.returns-in_default-clause-some_bytes
returns-in_default-clause-some_bytes c start records is =
    let w = c.records.invariant.read start records is in
    breaks_off_somewhere w.records start _ c.records.events.items c.records.raised w.read

pub returns-then-gate-ne1-clause-read : goal.returns-then-gate-ne1-clause-read
returns-then-gate-ne1-clause-read c bytes more start records is begins last =
    let w = c.records.invariant.read start records is in
    record { records = w.records; read = w.read; rest = closes bytes w.records c.records.rest.now more (w.begins bytes more begins) c.in-len1-up.len_at_least c.if-gate-ne1.true }

pub returns-then-gate-ne1-clause-some_bytes : goal.returns-then-gate-ne1-clause-some_bytes
returns-then-gate-ne1-clause-some_bytes c start records is = let w = c.records.invariant.read start records is in (w.records, w.read)

pub returns-in_default-record_of-clause-read : goal.returns-in_default-record_of-clause-read
returns-in_default-record_of-clause-read c bytes more start records is begins last =
    let w = c.records.invariant.read start records is in
    let rest = c.records.rest.now in
    let wide : IsWide 263 (behind_first rest) more =
    elim c.if-is_last.branch [
      | then-is_last v ↦ inl (last v.if-is_last.true)
      | else-is_last+then-rest-gt-LONGEST v ↦ inr (omega (arith, v.if-rest-gt-LONGEST.true, ap length (one_gate rest c.in-len1-up.len_at_least)))
    ] in
    breaks_off bytes w.records rest more (w.begins bytes more begins) c.in-len1-up.len_at_least start _ c.records.events.items c.records.raised w.read c.if-gate-ne1.false wide c.in_default-record_of.ensures.none

pub returns-in_default-record_of-clause-some_bytes : goal.returns-in_default-record_of-clause-some_bytes
returns-in_default-record_of-clause-some_bytes c start records is =
    let w = c.records.invariant.read start records is in
    breaks_off_somewhere w.records start _ c.records.events.items c.records.raised w.read

pub returns-in_err-note-clause-read : goal.returns-in_err-note-clause-read
returns-in_err-note-clause-read c bytes more start records is begins last =
    let w = c.records.invariant.read start records is in
    let found = c.in-Some.ensures.found in
    let p = err_from_is_err_and c.from_residual.result c.from_residual.ensures.1 in
    rw (p.1, p.2) (not_noted start bytes c.in_err-note.field-0.0 (MOST_RECORDS ≤ length (with_record c.records.events.items c.in-Some.next)) c.in_err-note.ensures.refused
    (overflows bytes w.records c.records.rest.now more (w.begins bytes more begins) c.in-len1-up.len_at_least c.in-Some.next c.in-Some.after.now c.if-gate-ne1.false found.1 found.2 start _ c.records.events.items c.records.raised w.read found.0))

pub returns-in_err-note-clause-some_bytes : goal.returns-in_err-note-clause-some_bytes
returns-in_err-note-clause-some_bytes c start records is =
    let w = c.records.invariant.read start records is in
    let found = c.in-Some.ensures.found in
    let p = err_from_is_err_and c.from_residual.result c.from_residual.ensures.1 in
    rw (p.1, p.2) (not_noted_somewhere start c.in_err-note.field-0.0 (MOST_RECORDS ≤ length (with_record c.records.events.items c.in-Some.next)) c.in_err-note.ensures.refused
    (overflows_somewhere w.records start _ c.records.events.items c.records.raised c.in-Some.next w.read found.0))

pub records-preserved : goal.records-preserved
records-preserved c =
    let found = c.in-Some.ensures.found in
    let next = c.in-Some.next in
    let rest = c.records.rest.now in
    let after = c.in-Some.after.now in
    let some = c.in-len1-up.len_at_least in
    let noted = c.in_ok-note.ensures in
    let size : length rest ≡ 1 + length (record_tail next) + length after = omega (arith, ap length (one_gate rest some), ap length found.1, length-append (record_tail next) after) in
    record {
      read = λ start records is.
          let w = c.records.invariant.read start records is in
          record {
            records = _;
            read = one_read w.records start _ c.records.events.items c.records.raised next _ c.note.new.events.items c.note.new.raised w.read found.0 noted.events noted.raised noted.few (omega (arith, size, c.records.invariant.shorter));
            begins = λ bytes more begins. one_more bytes w.records rest more (w.begins bytes more begins) some next after c.if-gate-ne1.false found.1 found.2;
          };
      few = noted.few;
      shorter = omega (arith, size, c.records.invariant.shorter);
    }

pub returns-clause-read : goal.returns-clause-read
returns-clause-read c bytes more start records is begins last =
    let w = c.records.invariant.read start records is in
    record { records = w.records; rest = _; read = w.read; begins = w.begins bytes more begins }

pub returns-clause-some_bytes : goal.returns-clause-some_bytes
returns-clause-some_bytes c start records is = let w = c.records.invariant.read start records is in (w.records, w.read)

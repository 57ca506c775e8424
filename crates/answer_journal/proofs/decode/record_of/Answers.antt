use Rattle.answer_journal.proofs.Payloads.{no_parts, no_record, record_found}
use Rattle.answer_journal.proofs.decode.record_of.Goals as goal

pub returns-in_err-kind-clause-none : goal.returns-in_err-kind-clause-none
returns-in_err-kind-clause-none c = rw c.from_residual.ensures (no_parts c.args.raised c.args.bytes.now c.in_err-kind.ensures.none)

pub returns-in_err-record-clause-none : goal.returns-in_err-record-clause-none
returns-in_err-record-clause-none c =
    let found = c.in_ok-kind.ensures.found in
    rw c.from_residual-in_err-record.ensures (no_record c.args.raised c.args.bytes.now c.in_ok-kind.kind c.in_ok-kind.payload.now c.in_ok-kind.rest.now found.0 found.1 c.in_err-record.ensures.none)

pub returns-clause-found : goal.returns-clause-found
returns-clause-found c =
    let found = c.in_ok-kind.ensures.found in
    let is = c.in_ok-record.ensures.found in
    (is.0, record_found c.args.bytes.now c.in_ok-kind.kind c.in_ok-kind.payload.now c.in_ok-kind.rest.now c.in_ok-record.record found.1 is.1 is.2, found.2)

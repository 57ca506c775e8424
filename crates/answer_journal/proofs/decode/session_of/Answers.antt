use Rattle.answer_journal.proofs.Prelude.{◌≡◌, ◌∷◌, get_or, length, List, ℕ, ap, arith, plan_byte}
use Rattle.answer_journal.proofs.Payloads.{session_no_payload, session_kind, session_other, session_payload, session_found, rest_long}
use Rattle.answer_journal.proofs.decode.session_of.Goals as goal

pub returns-in_err-kind-clause-none : goal.returns-in_err-kind-clause-none
returns-in_err-kind-clause-none c = rw c.from_residual.ensures (session_no_payload c.args.bytes.now (c.in_err-kind.ensures.none 0x53))

pub returns-then-kind-ne83-clause-none : goal.returns-then-kind-ne83-clause-none
returns-then-kind-ne83-clause-none c =
    let found = c.in_ok-kind.ensures.found in
    session_other c.args.bytes.now c.in_ok-kind.kind c.in_ok-kind.payload.now c.in_ok-kind.rest.now found.0 c.if-kind-ne83.true found.1

pub returns-in_default-clause-none : goal.returns-in_default-clause-none
returns-in_default-clause-none c plan voc gate behind session spelled =
    let found = c.in_ok-kind.ensures.found in
    let p = c.in_ok-kind.payload.now in
    let is : p ≡ plan_byte plan ∷ voc = session_payload c.args.bytes.now p c.in_ok-kind.rest.now found.0 (session_kind c.args.bytes.now c.in_ok-kind.kind p c.in_ok-kind.rest.now c.if-kind-ne83.false found.1) plan voc gate behind session spelled in
    omega (arith, ap length is, c.in_default.len_below)

pub returns-in_err-plan-clause-none : goal.returns-in_err-plan-clause-none
returns-in_err-plan-clause-none c = rw c.from_residual-in_err-plan.ensures (λ plan voc gate behind session spelled.
    let found = c.in_ok-kind.ensures.found in
    let p = c.in_ok-kind.payload.now in
    let is : p ≡ plan_byte plan ∷ voc = session_payload c.args.bytes.now p c.in_ok-kind.rest.now found.0 (session_kind c.args.bytes.now c.in_ok-kind.kind p c.in_ok-kind.rest.now c.if-kind-ne83.false found.1) plan voc gate behind session spelled in
    c.in_err-plan.ensures.none plan (ap (λ (l : List ℕ). get_or l 0 0) is))

pub returns-then-voc-gt-MOST_VOCABULARY-clause-none : goal.returns-then-voc-gt-MOST_VOCABULARY-clause-none
returns-then-voc-gt-MOST_VOCABULARY-clause-none c plan voc gate behind session spelled =
    let found = c.in_ok-kind.ensures.found in
    let p = c.in_ok-kind.payload.now in
    let is : p ≡ plan_byte plan ∷ voc = session_payload c.args.bytes.now p c.in_ok-kind.rest.now found.0 (session_kind c.args.bytes.now c.in_ok-kind.kind p c.in_ok-kind.rest.now c.if-kind-ne83.false found.1) plan voc gate behind session spelled in
    omega (arith, rest_long p (plan_byte plan) voc is, c.if-voc-gt-MOST_VOCABULARY.true, session.short)

pub returns-clause-found : goal.returns-clause-found
returns-clause-found c =
    let found = c.in_ok-kind.ensures.found in
    let plan_is = c.in_ok-plan.ensures.found in
    (record { short = c.if-voc-gt-MOST_VOCABULARY.false }, session_found c.args.bytes.now c.in_ok-kind.payload.now c.in_ok-kind.rest.now c.in_ok-plan.plan (session_kind c.args.bytes.now c.in_ok-kind.kind c.in_ok-kind.payload.now c.in_ok-kind.rest.now c.if-kind-ne83.false found.1) c.in-len1-up.len_at_least plan_is, found.2)

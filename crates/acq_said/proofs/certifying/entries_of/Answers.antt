use Rattle.acq_said.proofs.Prelude.{◌≤◌, ◌∙◌, ◌++◌, ◌∷◌, [], sym, ap, subst, List, ℕ, take, length, arith, length-map, take_all, All-get_or, Answer, Event, variable_count, IsWide, Recorded, all_seen, recorded, seen, answer_in, record_at, recorded_seen, seen_next}
use Rattle.assign.specs.declared.events.Event.TheVariants as event
use Rattle.acq_said.proofs.Showing.{is_answer, no_record}
use Rattle.acq_said.proofs.certifying.entries_of.Goals as goal

pub overflow_sub-place : goal.overflow_sub-place
overflow_sub-place c = (record_at c.args.events.now.items c.args.records.now c.loop-record.record-index 0 event.Back no_record c.requires.records c.loop-record-test.true).low

pub get-event-requires : goal.get-event-requires
get-event-requires c =
    let at = record_at c.args.events.now.items c.args.records.now c.loop-record.record-index 0 event.Back no_record c.requires.records c.loop-record-test.true in
    let low = at.low in
    let high = at.high in
    omega (arith, low, high)

pub entry_of-requires-clause-wide : goal.entry_of-requires-clause-wide
entry_of-requires-clause-wide c =
    let at = record_at c.args.events.now.items c.args.records.now c.loop-record.record-index 0 event.Back no_record c.requires.records c.loop-record-test.true in
    let low = at.low in
    let high = at.high in
    subst IsWide (sym c.get-event.ensures) (All-get_or IsWide c.args.events.now.items _ c.get-event.result (omega (arith, low, high)) c.requires.wide)

pub entry_of-requires-clause-answer : goal.entry_of-requires-clause-answer
entry_of-requires-clause-answer c =
    let at = record_at c.args.events.now.items c.args.records.now c.loop-record.record-index 0 c.get-event.result no_record c.requires.records c.loop-record-test.true in
    is_answer c.get-event.result _ _ (c.get-event.ensures ∙ at.event)

pub loop-record-preserved : goal.loop-record-preserved
loop-record-preserved c =
    let n : ℕ = variable_count c.args.lang.now in
    let events : List Event = c.args.events.now.items in
    let i : ℕ = c.loop-record.record-index in
    let before : List Answer = all_seen n (take i (recorded events)) in
    let at = record_at events c.args.records.now i 0 c.get-event.result no_record c.requires.records c.loop-record-test.true in
    c.in_ok-push.ensures.items ∙ ap (λ (x : List Answer). x ++ c.entry_of.result ∷ []) c.loop-record.invariant
    ∙ ap (λ (a : Answer). before ++ a ∷ []) c.entry_of.ensures
    ∙ ap (λ (e : Event). before ++ seen n (answer_in e) ∷ []) (c.get-event.ensures ∙ at.event)
    ∙ sym (seen_next n (recorded events) i no_record at.few)

pub returns : goal.returns
returns c =
    let l = c.args.lang.now in
    let events : List Event = c.args.events.now.items in
    let all : List Recorded = recorded events in
    let whole : length all ≤ c.loop-record.record-index = (let end = c.loop-record-test.false in let size = ap (λ (ns : List ℕ). length ns) c.requires.records ∙ length-map all (λ (r : Recorded). r.number) in omega (arith, end, size)) in
    c.loop-record.invariant ∙ ap (λ (rs : List Recorded). all_seen (variable_count l) rs) (take_all c.loop-record.record-index all whole) ∙ recorded_seen l events

use Rattle.session_store.proofs.Prelude.{◌≡◌, ◌≤◌, ℕ, false, [], List, length, ◌∙◌, sym, ap, subst, arith, length-map, All-get_or, Answer, Event, variable_count, Stray, IsSettled, Stands, knowledge_of, open_in, IsWide, Recorded, recorded, standing_numbers, answer_to, IsAnswer, answer_in, MovesBy, HasNoPlace}
use Rattle.assign.specs.declared.events.Event.TheVariants as variant
use Rattle.session_store.proofs.Replaying.{replay_none, replay_more, replay_strays, replay_ends, seen_whole}
use Rattle.session_store.proofs.Recording.{record_at, recorded_seen}
use Rattle.session_store.proofs.replay.replay_records.Goals as goal

-- a record past the last
none : Recorded
none = record { answer = answer_to [] false; number = 0 }

pub loop-record-init : goal.loop-record-init
loop-record-init c = replay_none c.args.session (recorded c.args.events.now.items) c.requires.starts c.requires.idle

pub overflow_sub-place : goal.overflow_sub-place
overflow_sub-place c = (record_at c.args.events.now.items c.args.records.now c.loop-record.record-index 0 variant.Back none c.requires.records c.loop-record-test.true).low

pub get-event-requires : goal.get-event-requires
get-event-requires c =
    let at = record_at c.args.events.now.items c.args.records.now c.loop-record.record-index 0 variant.Back none c.requires.records c.loop-record-test.true in
    let low = at.low in
    let high = at.high in
    omega (arith, low, high)

pub with_event-requires-clause-wide : goal.with_event-requires-clause-wide
with_event-requires-clause-wide c =
    let at = record_at c.args.events.now.items c.args.records.now c.loop-record.record-index 0 variant.Back none c.requires.records c.loop-record-test.true in
    let low = at.low in
    let high = at.high in
    subst IsWide (sym c.get-event.ensures) (All-get_or IsWide c.args.events.now.items _ c.get-event.result (omega (arith, low, high)) c.requires.wide)

pub with_event-requires-clause-answer : goal.with_event-requires-clause-answer
with_event-requires-clause-answer c =
    let at = record_at c.args.events.now.items c.args.records.now c.loop-record.record-index 0 c.get-event.result none c.requires.records c.loop-record-test.true in
    subst IsAnswer (sym (c.get-event.ensures ∙ at.event)) tt

pub returns-in-None-clause-stray : goal.returns-in-None-clause-stray
returns-in-None-clause-stray c =
    let k = knowledge_of c.args.session in
    let at = record_at c.args.events.now.items c.args.records.now c.loop-record.record-index 0 c.get-event.result none c.requires.records c.loop-record-test.true in
    let No : Answer → Type 0 = λ a. HasNoPlace c.loop-record.session a in
    replay_strays k.lang k.plan (recorded c.args.events.now.items) c.loop-record.record-index none c.loop-record.session at.few c.loop-record.invariant (subst No (ap answer_in (c.get-event.ensures ∙ at.event)) c.in-None.ensures.none)
    ∙ ap (λ n. Stray n) (sym at.number_is)

pub loop-record-preserved : goal.loop-record-preserved
loop-record-preserved c =
    let k = knowledge_of c.args.session in
    let at = record_at c.args.events.now.items c.args.records.now c.loop-record.record-index 0 c.get-event.result none c.requires.records c.loop-record-test.true in
    let By : Answer → Type 0 = λ a. MovesBy c.loop-record.session a c.in-Some.next in
    replay_more k.lang k.plan (recorded c.args.events.now.items) c.loop-record.record-index none c.loop-record.session c.in-Some.next at.few c.loop-record.invariant
    (subst By (ap answer_in (c.get-event.ensures ∙ at.event)) c.in-Some.ensures.some)

-- no record is left
past : (events : List Event) (numbers : List ℕ) (i : ℕ) → numbers ≡ standing_numbers events → length numbers ≤ i → length (recorded events) ≤ i
past events numbers i is all =
    let size : length numbers ≡ length (recorded events) = ap length is ∙ length-map (recorded events) (λ (a : Recorded). a.number) in
    omega (arith, size, all)

pub returns-clause-stands : goal.returns-clause-stands
returns-clause-stands c =
    let l = (knowledge_of c.args.session).lang in
    let all = past c.args.events.now.items c.args.records.now c.loop-record.record-index c.requires.records (omega (arith, c.loop-record-test.false)) in
    subst (Stands c.loop-record.session) (seen_whole (variable_count l) (recorded c.args.events.now.items) c.loop-record.record-index all ∙ recorded_seen l c.args.events.now.items) c.loop-record.invariant.stands

pub returns-clause-settled : goal.returns-clause-settled
returns-clause-settled c =
    let l = (knowledge_of c.args.session).lang in
    let p = (knowledge_of c.args.session).plan in
    let all = past c.args.events.now.items c.args.records.now c.loop-record.record-index c.requires.records (omega (arith, c.loop-record-test.false)) in
    let Settled : List Answer → Type 0 = λ t. IsSettled l p t (open_in c.loop-record.session) in
    subst Settled (seen_whole (variable_count l) (recorded c.args.events.now.items) c.loop-record.record-index all ∙ recorded_seen l c.args.events.now.items) c.loop-record.invariant.settled

pub returns-clause-places : goal.returns-clause-places
returns-clause-places c =
    let l = (knowledge_of c.args.session).lang in
    let p = (knowledge_of c.args.session).plan in
    let all = past c.args.events.now.items c.args.records.now c.loop-record.record-index c.requires.records (omega (arith, c.loop-record-test.false)) in
    (c.loop-record.invariant.state, replay_ends l p (recorded c.args.events.now.items) c.loop-record.record-index c.loop-record.session all c.loop-record.invariant)

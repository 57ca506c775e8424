use Rattle.acq_said.proofs.Prelude.{◌≡◌, ◌≤◌, ◌<◌, ◌∙◌, ◌+◌, ◌++◌, [], sym, ap, subst, List, ℕ, take, length, arith, append_assoc, string_bytes, length-map, take_all, All-get_or, Event, variable_count, IsWide, Recorded, all_seen, recorded, seen, answer_in, standing_numbers, record_at, recorded_seen, answer_line, answer_lines}
use Rattle.assign.specs.declared.events.Event.TheVariants as event
use Rattle.acq_said.proofs.Showing.{few_recorded, is_answer, lines_next, no_record}
use Rattle.acq_said.proofs.shows.push_events.Goals as goal

few_numbers : (events : List Event) (numbers : List ℕ) (i : ℕ) → numbers ≡ standing_numbers events → i < length numbers → length events < 1000000 → i < 1000000
few_numbers events numbers i is low few =
    let size : length numbers ≡ length (recorded events) = ap length is ∙ length-map (recorded events) (λ (r : Recorded). r.number) in
    let most = few_recorded [] 1 events in
    omega (arith, size, low, few, most)

pub overflow_sub-place : goal.overflow_sub-place
overflow_sub-place c = (record_at c.args.events.now.items c.args.records.now c.loop-i.i 0 event.Back no_record c.requires.records c.loop-i-test.true).low

pub get-event-requires : goal.get-event-requires
get-event-requires c =
    let at = record_at c.args.events.now.items c.args.records.now c.loop-i.i 0 event.Back no_record c.requires.records c.loop-i-test.true in
    let low = at.low in
    let high = at.high in
    omega (arith, low, high)

pub overflow_cast-i : goal.overflow_cast-i
overflow_cast-i c = let few = few_numbers c.args.events.now.items c.args.records.now c.loop-i.i c.requires.records c.loop-i-test.true c.requires.few in omega (arith, few)

pub overflow_add-i : goal.overflow_add-i
overflow_add-i c = let few = few_numbers c.args.events.now.items c.args.records.now c.loop-i.i c.requires.records c.loop-i-test.true c.requires.few in omega (arith, few)

pub push_event-requires-clause-wide : goal.push_event-requires-clause-wide
push_event-requires-clause-wide c =
    let at = record_at c.args.events.now.items c.args.records.now c.loop-i.i 0 event.Back no_record c.requires.records c.loop-i-test.true in
    let low = at.low in
    let high = at.high in
    subst IsWide (sym c.get-event.ensures) (All-get_or IsWide c.args.events.now.items _ c.get-event.result (omega (arith, low, high)) c.requires.wide)

pub push_event-requires-clause-answer : goal.push_event-requires-clause-answer
push_event-requires-clause-answer c =
    let at = record_at c.args.events.now.items c.args.records.now c.loop-i.i 0 c.get-event.result no_record c.requires.records c.loop-i-test.true in
    is_answer c.get-event.result _ _ (c.get-event.ensures ∙ at.event)

pub loop-i-preserved : goal.loop-i-preserved
loop-i-preserved c =
    let l = c.args.lang.now in
    let events : List Event = c.args.events.now.items in
    let line : Event → List ℕ = λ e. answer_line l (c.loop-i.i + 1) (seen (variable_count l) (answer_in e)) in
    let at = record_at events c.args.records.now c.loop-i.i 0 c.get-event.result no_record c.requires.records c.loop-i-test.true in
    let before : List ℕ = string_bytes c.args.text.now in
    let lines : List ℕ = answer_lines l 1 (all_seen (variable_count l) (take c.loop-i.i (recorded events))) in
    c.in_ok-push_event.ensures ∙ ap (λ x. x ++ line c.get-event.result) c.loop-i.invariant
    ∙ append_assoc before lines (line c.get-event.result)
    ∙ ap (λ e. before ++ (lines ++ line e)) (c.get-event.ensures ∙ at.event)
    ∙ ap (λ x. before ++ x) (sym (lines_next l (recorded events) c.loop-i.i no_record at.few))

pub returns : goal.returns
returns c =
    let l = c.args.lang.now in
    let events : List Event = c.args.events.now.items in
    let all : List Recorded = recorded events in
    let whole : length all ≤ c.loop-i.i = (let end = c.loop-i-test.false in let size = ap (λ (ns : List ℕ). length ns) c.requires.records ∙ length-map all (λ (r : Recorded). r.number) in omega (arith, end, size)) in
    c.loop-i.invariant ∙ ap (λ x. string_bytes c.args.text.now ++ x) (ap (λ rs. answer_lines l 1 (all_seen (variable_count l) rs)) (take_all c.loop-i.i all whole) ∙ ap (answer_lines l 1) (recorded_seen l events))

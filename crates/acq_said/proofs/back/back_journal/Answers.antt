use Rattle.acq_said.proofs.Prelude.{◌≡◌, ◌+◌, ◌∙◌, false, length, refl, sym, ap, subst, inl, inr, arith, eq-eqb, rose_later, Opened, lang_of, events_of, question_of, Saying, EndsBack, back_on, back_said, some_there, room_unless}
use Rattle.session_store.proofs.Placing.{back_has_place}
use Rattle.session_store.specs.Opened.{IsSession}
use Rattle.acq_said.proofs.Journals.{not_opened, opened_in, opened_raised, over_opened, over_refused}
use Rattle.acq_said.proofs.Spoken.{ok_any, said_as}
use Rattle.acq_said.proofs.TakenBack.{Untaken, back_calls, leaves_back}
use Rattle.acq_said.proofs.back.back_journal.Goals as goal

pub returns-in-Err-clause-backs : goal.returns-in-Err-clause-backs
returns-in-Err-clause-backs g c =
    let err = c.in-Err.ensures in
    let call = c.open.ensures in
    inl (over_refused g.D.Disk Untaken (λ o. Unit {0}) c.args.disk.now c.open.new.disk c.refused.result call.only_read.same call.only_read.any_moment call.few_calls
    c.in-Err.fault err.refused err.some (inl err.synced) c.refused.ensures.refuses)

pub returns-then-m-eq0-clause-backs : goal.returns-then-m-eq0-clause-backs
returns-then-m-eq0-clause-backs g c =
    let ok = c.in-Ok.ensures in
    let call = c.open.ensures in
    let o : Opened = opened_in c.in-Ok.store in
    let same : back_on c.standing_answers-m.result c.is_full-full.result ≡ back_said o = λ i. back_on (c.standing_answers-m.ensures i) (c.is_full-full.ensures i) in
    inl (over_opened g.D.Disk Untaken (λ o. Unit {0}) c.args.disk.now c.open.new.disk c.or_silent.result call.only_read.same call.only_read.any_moment call.few_calls c.in-Ok.store
    ok.opened ok.some ok.sound.read ok.places (ok.sits ok.live)
    (said_as c.untaken.result c.or_silent.result _ (back_said o) c.or_silent.ensures.is same c.untaken.ensures.says, λ done. c.untaken.ensures.refuses (ap (λ (s : Saying). s.ending) same ∙ done)) (ok_any c.or_silent.result tt))

pub returns-clause-backs : goal.returns-clause-backs
returns-clause-backs g c =
    let D = g.D.Disk in
    let store = c.in-Ok.store in
    let ok = c.in-Ok.ensures in
    let call = c.open.ensures in
    let keeps = c.take_last.ensures.keeps in
    let o : Opened = opened_in store in
    let after = c.take_last.new.keep in
    let m = c.standing_answers-m.result in
    let room = room_unless (length o.events) c.is_full-full.result ok.sound.held.few (λ e. c.is_full-full.ensures ∙ eq-eqb (length o.events + 1) 1000000 e) c.if-full.false in
    let taken : Saying = back_on m false in
    let same : taken ≡ back_said o = λ i. back_on (c.standing_answers-m.ensures i) ((sym c.if-full.false ∙ c.is_full-full.ensures) i) in
    let Ends : Saying → Type 0 = λ what. EndsBack what o.events (events_of after) c.take_last.result in
    let leaves = leaves_back D store.journal.raised keeps.grown.more o.plan o.voc taken o.events (events_of after) (question_of after)
    c.args.disk.now c.open.new.disk c.take_last.new.disk c.take_last.result call.only_read.same call.only_read.any_moment c.take_last.ensures.ends keeps.told
    (λ no bytes told. keeps.persists refl bytes told no) (λ is. keeps.fails is) in
    let session : IsSession o = record { read = ok.sound.read; places = ok.places } in
    inr (record {
      of = o;
      opens = λ bytes told. record { says = ok.opened bytes told; session = session };
      some = let said = ok.some in (said.0, record { says = said.1; session = session });
      takes = sym (ap (λ (s : Saying). s.ending) same) ∙ c.take_last.ensures.done;
      room = room;
      later = events_of after;
      ends = subst Ends same c.take_last.ensures.ends;
      all_places = back_has_place o.lang o.plan o.events ok.places (some_there o.lang o.events m c.standing_answers-m.ensures (omega arith));
      any_moment = leaves.any_moment;
      now = leaves.now;
      failed = leaves.failed;
      raised = store.journal.raised;
      was_raised = λ bytes told. let was = call.only_read.same ∙ told in opened_raised store (D.may_leave c.open.new.disk) bytes (ok.sits ok.live bytes was);
      calls = λ bytes told. back_calls D o.plan o.voc o.events (events_of after) taken (question_of after) store.journal.raised after.journal.raised c.open.new.disk c.take_last.new.disk c.take_last.result c.take_last.ensures.ends
          keeps.grown (λ no. keeps.calls no) (λ is. keeps.fails is) (D.calls c.args.disk.now) bytes (call.few_calls bytes told);
    })

pub take_last-requires-clause-stands : goal.take_last-requires-clause-stands
take_last-requires-clause-stands g c = some_there (lang_of c.in-Ok.store) (events_of c.in-Ok.store) c.standing_answers-m.result c.standing_answers-m.ensures (omega arith)

pub returns-clause-lost : goal.returns-clause-lost
returns-clause-lost g c is = rose_later _ _ _ c.open.ensures.only_read.later (c.take_last.ensures.keeps.cause is).1

pub returns-in-Err-clause-lost : goal.returns-in-Err-clause-lost
returns-in-Err-clause-lost g c is = c.in-Err.ensures.failed (ap not_opened (c.refused.ensures.lost is))

use Rattle.acq_cli.proofs.Prelude.{Err, SaysRefusal, Result, SFault, any_answer, ap, goes_on_with, inl, inr, line_turn, opened_raised, over_refused, question_of, refl, rose_later, voc_of, ◌∙◌, ◌≡◌}
use Rattle.session_store.specs.Store.{lang_of, plan_of, events_of}
use Rattle.session_store.specs.declared.store.Store.{Store}
use Rattle.acq_cli.proofs.commands.run_journal.Goals as goal

abbrev not_opened : SFault → Result Store SFault
not_opened e = Err e

pub returns-in-Ok-clause-runs : goal.returns-in-Ok-clause-runs
returns-in-Ok-clause-runs g c =
    let D = g.D.Disk in
    let store = c.in-Ok.store in
    let after = c.ask_on.new.keep in
    inr (goes_on_with D (λ l p es fs. Unit {0}) line_turn any_answer c.args.budget (g.S.Source.left c.args.input.now) (g.K.Sink.written c.args.out.now) (g.S.Source.left c.ask_on.new.input) (g.K.Sink.written c.ask_on.new.out)
    c.args.disk.now c.open.new.disk c.ask_on.new.disk c.ask_on.result (plan_of store) (voc_of store) (events_of store) (events_of after) (question_of after) (lang_of store) store.journal.raised after.journal.raised
    c.in-Ok.ensures.opened c.in-Ok.ensures.some c.in-Ok.ensures.sound.read c.in-Ok.ensures.places c.open.ensures.only_read.same c.open.ensures.only_read.any_moment c.open.ensures.few_calls
    (λ bytes told. let was = c.open.ensures.only_read.same ∙ told in opened_raised store (D.may_leave c.open.new.disk) bytes (c.in-Ok.ensures.sits c.in-Ok.ensures.live bytes was)) c.ask_on.ensures.keeps.grown
    (λ no. c.ask_on.ensures.keeps.calls no) c.ask_on.ensures.lawful c.ask_on.ensures.taught.added c.ask_on.ensures.keeps.told
    (λ no bytes told. c.ask_on.ensures.keeps.persists refl bytes told no) (λ is. c.ask_on.ensures.keeps.fails is)
    c.ask_on.ensures.asked.tries c.ask_on.ensures.asked.part tt).0

pub returns-in-Err-clause-runs : goal.returns-in-Err-clause-runs
returns-in-Err-clause-runs g c =
    let left = g.S.Source.left c.args.input.now in
    let refused = c.refuse_journal.ensures.refuses in
    inl (
      refused.0,
      over_refused g.D.Disk (λ opening said. (fault : SFault) × (opening ≡ Err fault) × SaysRefusal fault said × (left ≡ left)) (λ o. Unit {0}) c.args.disk.now c.open.new.disk refused.0 c.open.ensures.only_read.same c.open.ensures.only_read.any_moment c.open.ensures.few_calls
          c.in-Err.fault c.in-Err.ensures.refused c.in-Err.ensures.some (inl c.in-Err.ensures.synced) (c.in-Err.fault, refl, refused.1, refl),
      refused.2,
    )

pub returns-in-Ok-clause-lost : goal.returns-in-Ok-clause-lost
returns-in-Ok-clause-lost g c is = rose_later _ _ _ c.open.ensures.only_read.later (c.ask_on.ensures.keeps.cause is).1

pub returns-in-Err-clause-lost : goal.returns-in-Err-clause-lost
returns-in-Err-clause-lost g c is = c.in-Err.ensures.failed (ap not_opened (c.refuse_journal.ensures.lost is))

use Rattle.acq_cli.proofs.Prelude.{[], begun, begun_part, events_of, false_is_not_true, fresh_part, fresh_tries, lang_of, line_turn, plan_of}
use Rattle.acq_loop.specs.declared.ending.Ending.TheVariants as ending
use Rattle.acq_cli.proofs.Causes.{never_ends}
use Rattle.acq_cli.proofs.top.try_language.Goals as goal

pub returns-in_default-clause-part : goal.returns-in_default-clause-part
returns-in_default-clause-part g c =
    ([], begun_part line_turn c.args.lang c.args.terms [] (g.S.Source.left c.args.input.now) (g.K.Sink.written c.args.out.now) c.n-variables.ensures.lawful (begun c.args.lang c.args.terms.plan))

pub returns-in_default-new-clause-part : goal.returns-in_default-new-clause-part
returns-in_default-new-clause-part g c =
    ([], begun_part line_turn c.args.lang c.args.terms [] (g.S.Source.left c.args.input.now) (g.K.Sink.written c.args.out.now) c.n-variables.ensures.lawful (begun c.args.lang c.args.terms.plan))

pub returns-clause-tries : goal.returns-clause-tries
returns-clause-tries g c =
    let keep = c.in-Ok-new.keep in
    fresh_tries c.args.lang (lang_of keep) c.args.terms.plan (plan_of keep) c.args.terms.budget (events_of keep) (events_of c.ask_on.new.keep)
    (g.S.Source.left c.args.input.now) (g.K.Sink.written c.args.out.now) (g.S.Source.left c.ask_on.new.input) (g.K.Sink.written c.ask_on.new.out) c.ask_on.result
    c.in-Ok-new.ensures.lang c.in-Ok-new.ensures.plan c.in-Ok-new.ensures.events c.ask_on.ensures.asked.tries

pub returns-clause-part : goal.returns-clause-part
returns-clause-part g c =
    let keep = c.in-Ok-new.keep in
    fresh_part c.args.lang (lang_of keep) c.args.terms.plan (plan_of keep) c.args.terms.budget (events_of keep) (events_of c.ask_on.new.keep)
    (g.S.Source.left c.args.input.now) (g.K.Sink.written c.args.out.now) (g.S.Source.left c.ask_on.new.input) (g.K.Sink.written c.ask_on.new.out) c.ask_on.result
    c.in-Ok-new.ensures.lang c.in-Ok-new.ensures.plan c.in-Ok-new.ensures.events c.ask_on.ensures.asked.part

pub returns-clause-takes : goal.returns-clause-takes
returns-clause-takes g c = c.ask_on.ensures.faults.read.takes

pub returns-clause-no_disk : goal.returns-clause-no_disk
returns-clause-no_disk g c = never_ends c.ask_on.result ending.DiskFault (λ is. false_is_not_true (c.ask_on.ensures.keeps.cause is).0)

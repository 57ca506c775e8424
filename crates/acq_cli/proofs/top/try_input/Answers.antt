use Rattle.acq_cli.proofs.Prelude.{AllFault, Err, Global, IsVocabulary, Ok, Result, Some, Vec, acquires_in, ap, breaks_in, breaks_refused, called_as, refl, refusal_of_vocabulary, rules, sym, takes_some_on, transport, ℕ, ◌∙◌, ◌≡◌}
use Rattle.acq_io.specs.declared.whole.AllFault.TheVariants.{TooLong}
use Rattle.acq_cli.proofs.top.try_input.Goals as goal

abbrev fault_of : AllFault → Result (Vec ℕ Global) AllFault
fault_of e = Err e

pub returns-in-Err-TooLong-clause-part : goal.returns-in-Err-TooLong-clause-part
returns-in-Err-TooLong-clause-part g c =
    breaks_refused c.args.terms (g.S.Source.left c.args.input.now) (g.S.Source.left c.read_first_line.new.source) (g.K.Sink.written c.args.out.now)
    (g.K.Sink.written c.refuse.new.out) (Err TooLong) _ c.refuse.result
    (c.read_first_line.ensures.too_long (c.in-Err-TooLong.is ∙ ap fault_of c.in-Err-TooLong.field-0-is)) (refl, refl) c.refuse.ensures.part

pub returns-in-Err-Fault-clause-part : goal.returns-in-Err-Fault-clause-part
returns-in-Err-Fault-clause-part g c = tt

pub returns-in-Err-Fault-clause-read : goal.returns-in-Err-Fault-clause-read
returns-in-Err-Fault-clause-read g c = called_as _ _ _ _ _ _ (λ is. refl) (λ is. c.in-Err-Fault.is ∙ ap fault_of c.in-Err-Fault.field-0-is) c.read_first_line.ensures.called

pub returns-in-Ok-read_vocabulary-clause-acquires : goal.returns-in-Ok-read_vocabulary-clause-acquires
returns-in-Ok-read_vocabulary-clause-acquires g c =
    acquires_in c.args.terms (g.S.Source.left c.args.input.now) (g.S.Source.left c.read_first_line.new.source) (g.K.Sink.written c.args.out.now)
    (g.S.Source.left c.try_language.new.input) (g.K.Sink.written c.try_language.new.out) c.in-Ok.line.items c.in-Ok-read_vocabulary.lang c.try_language.result
    c.in-Ok.ensures.line (transport (λ i. IsVocabulary (c.deref.ensures.value i) c.in-Ok-read_vocabulary.lang) c.in-Ok-read_vocabulary.ensures.ok) c.try_language.ensures.no_disk c.try_language.ensures.tries

pub returns-in-Ok-read_vocabulary-clause-part : goal.returns-in-Ok-read_vocabulary-clause-part
returns-in-Ok-read_vocabulary-clause-part g c =
    breaks_in c.args.terms (g.S.Source.left c.args.input.now) (g.S.Source.left c.read_first_line.new.source) (g.K.Sink.written c.args.out.now)
    (g.S.Source.left c.try_language.new.input) (g.K.Sink.written c.try_language.new.out) c.in-Ok.line.items c.in-Ok-read_vocabulary.lang c.try_language.result
    c.in-Ok.ensures.line (transport (λ i. IsVocabulary (c.deref.ensures.value i) c.in-Ok-read_vocabulary.lang) c.in-Ok-read_vocabulary.ensures.ok) c.try_language.ensures.part

pub returns-in-Ok-read_vocabulary-clause-takes : goal.returns-in-Ok-read_vocabulary-clause-takes
returns-in-Ok-read_vocabulary-clause-takes g c = takes_some_on _ _ _ c.read_first_line.ensures.takes c.try_language.ensures.takes

pub returns : goal.returns
returns g c =
    let refused : refusal_of_vocabulary c.deref.result.now ≡ Some c.in-Err.fault = search rules in
    record {
      acquires = search rules;
      part = breaks_refused c.args.terms (g.S.Source.left c.args.input.now) (g.S.Source.left c.read_first_line.new.source) (g.K.Sink.written c.args.out.now)
          (g.K.Sink.written c.refuse-in-Err.new.out) (Ok c.in-Ok.line.items) c.in-Err.fault c.refuse-in-Err.result
          c.in-Ok.ensures.line (ap refusal_of_vocabulary (sym c.deref.ensures.value) ∙ refused) c.refuse-in-Err.ensures.part;
      takes = c.read_first_line.ensures.takes;
      read = search rules;
      no_fault = search rules;
      failed = search rules;
    }

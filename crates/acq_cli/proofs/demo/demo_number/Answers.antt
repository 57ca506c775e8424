use Rattle.acq_cli.proofs.Prelude.{Err, HasDriven, IsNetwork, IsTrue, Language, List, Option, Quacq, agrees, demo_text, ends_part, events_of, lang_of, learned_after, length, plan_of, standing_on, subst, sym, terms_with, transport, ℕ, ◌∙◌, ◌≡◌}
use Rattle.std.proofs.lemmas.Result.{err_from_is_err_and}
use Rattle.acq_io.specs.declared.streams.Put.TheVariants as put
use Rattle.acq_loop.specs.declared.ending.Ending.TheVariants as ending
use Rattle.acq_cli.proofs.Demoing.{demo_done, demo_stopped, line_put}
use Rattle.target_oracle.proofs.Fronts.{front_whole}
use Rattle.acq_cli.proofs.demo.demo_number.Goals as goal

pub drive_quietly-drove-requires-clause-target : goal.drive_quietly-drove-requires-clause-target
drive_quietly-drove-requires-clause-target g c κs within =
    transport (λ i. IsNetwork (sym c.in-Ok-new.ensures.lang i) c.in-Ok.target.list) c.in-Ok.ensures.network

pub returns-in_err-put-clause-demos : goal.returns-in_err-put-clause-demos
returns-in_err-put-clause-demos g c =
    let l : Language = c.in-Ok.lang in
    let old : Option (List ℕ) = g.K.Sink.written c.args.out.now in
    let new : Option (List ℕ) = g.K.Sink.written c.put.new.out in
    let lawful = subst (IsNetwork l) c.in-Ok.ensures.target c.in-Ok.ensures.network in
    let line = line_put c.args.number l c.made.result c.or_silent.result old new (Err c.in_err-put.field-0.0) c.or_silent.ensures.is c.made.ensures.says c.in_err-put.ensures.writes in
    let p = err_from_is_err_and c.from_residual.result c.from_residual.ensures.1 in
    rw (p.1, p.2)
    (demo_stopped c.args.number c.args.budget l c.in-Ok.ensures.language c.made.ensures.lawful lawful old new c.in_err-put.field-0.0 (ends_part ending.Done (demo_text c.args.number l) old new (Err c.in_err-put.field-0.0) line))

pub returns-in_default-new-clause-demos : goal.returns-in_default-new-clause-demos
returns-in_default-new-clause-demos g c =
    let l : Language = c.in-Ok.lang in
    let old : Option (List ℕ) = g.K.Sink.written c.args.out.now in
    let new : Option (List ℕ) = g.K.Sink.written c.put.new.out in
    let lawful = subst (IsNetwork l) c.in-Ok.ensures.target c.in-Ok.ensures.network in
    let line = line_put c.args.number l c.made.result c.or_silent.result old new _ c.or_silent.ensures.is c.made.ensures.says c.in_ok-put.ensures.writes in
    demo_stopped c.args.number c.args.budget l c.in-Ok.ensures.language c.made.ensures.lawful lawful old new put.Memory (front_whole old new (demo_text c.args.number l) line.1)

pub returns-clause-demos : goal.returns-clause-demos
returns-clause-demos g c =
    let l : Language = c.in-Ok.lang in
    let keep = c.in-Ok-new.keep in
    let after = c.drive_quietly-drove.new.keep in
    let events = events_of after in
    let how = c.drive_quietly-drove.result in
    let lawful = subst (IsNetwork l) c.in-Ok.ensures.target c.in-Ok.ensures.network in
    let lang : lang_of keep ≡ l = c.in-Ok-new.ensures.lang in
    let plan : plan_of keep ≡ Quacq = c.in-Ok-new.ensures.plan in
    let still : lang_of after ≡ l = c.drive_quietly-drove.ensures.same.lang ∙ lang in
    let old : Option (List ℕ) = g.K.Sink.written c.args.out.now in
    let middle : Option (List ℕ) = g.K.Sink.written c.put.new.out in
    let line = line_put c.args.number l c.made.result c.or_silent.result old middle _ c.or_silent.ensures.is c.made.ensures.says c.in_ok-put.ensures.writes in
    demo_done c.args.number c.args.budget l c.in-Ok.ensures.language c.made.ensures.lawful lawful old events middle (g.K.Sink.written c.put-2.new.out) c.learned_by-learned.result line.1
    (c.learned_by-learned.ensures.is c.args.budget ∙ (λ i. length (learned_after (still i) (terms_with ((c.drive_quietly-drove.ensures.same.plan ∙ plan) i) c.args.budget) (standing_on (still i) events))))
    (transport (λ i. IsTrue (agrees (lang i) (c.in-Ok.ensures.target i) (standing_on (lang i) events))) c.drive_quietly-drove.ensures.agreeing) how c.summed.result c.put-2.result
    (transport (λ i. HasDriven (c.in-Ok.ensures.target i) (lang i) (terms_with (plan i) c.args.budget) events how) c.drive_quietly-drove.ensures.driven) c.summed.ensures c.put-2.ensures.writes

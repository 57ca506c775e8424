use Rattle.acq_loop.proofs.Prelude.{◌≡◌, ◌∙◌, ap, sym, subst, refl, inl, inr, Event, answer_event, answer, MayKeep, event_on, Entry}
use Rattle.assign.specs.declared.events.Event.TheVariants as event
use Rattle.acq_loop.specs.declared.driving.Entry.TheVariants as entry
use Rattle.acq_loop.proofs.Entries.{Answered, HasTried, kept_by, settled_on, keeps_event}
use Rattle.acq_loop.proofs.Short.{there_is}
use Rattle.acq_loop.proofs.driving.keep_event.Goals as goal

pub returns-in-Answer : goal.returns-in-Answer
returns-in-Answer g c =
    let P = g.P.Keep in
    let D = g.D.Disk in
    let old = c.args.keep.now in
    let new = c.answer.new.self in
    let x = c.args.disk.now in
    let y = c.answer.new.disk in
    let keeper = c.requires.keeper in
    let asked = there_is (P.question old) (subst (MayKeep (P.record_of old) (P.question old)) c.in-Answer.is c.requires.may) in
    let e : Event = answer_event asked.0 c.in-Answer.yes in
    let is : event_on c.args.entry (P.question old) ≡ e = ap (λ (n : Entry). event_on n (P.question old)) c.in-Answer.is ∙ ap (event_on (entry.Answer c.in-Answer.yes)) asked.1 in
    let r : Answered = c.answer.result in
    let call : HasTried P D old new x y e r = record {
      keeper = keeper;
      addable = inl (answer asked.0 c.in-Answer.yes, refl);
      tried = inl (asked.0, c.in-Answer.yes, asked.1, refl);
      lasts = λ w bytes told f left. g.met.P.Keep.lasts old x w keeper.live keeper.sits bytes told f left;
      ok = c.answer.ensures.ok asked.0 asked.1;
      err = c.answer.ensures.err;
      same = c.answer.ensures.same;
      sits = c.answer.ensures.sits;
      refused = c.answer.ensures.refused;
      leaves = c.answer.ensures.leaves asked.0 asked.1;
    } in
    record {
      kept = rw (c.end_of.ensures, is) (kept_by P D g.met.D.Disk.counts_now g.met.D.Disk.only_now old new x y e r call);
      settled = λ none. settled_on P D g.met.D.Disk.counts_now g.met.D.Disk.only_now old new x y e r call (sym c.end_of.ensures ∙ none);
      same = record { lang = call.same.same_lang; plan = call.same.same_plan; sound = c.answer.ensures.sound };
      keeps = rw (c.end_of.ensures, is) (keeps_event P D g.met.D.Disk.counts_now g.met.D.Disk.only_now old new x y e r call);
    }

pub returns-in-Back : goal.returns-in-Back
returns-in-Back g c =
    let P = g.P.Keep in
    let D = g.D.Disk in
    let old = c.args.keep.now in
    let new = c.take_back.new.self in
    let x = c.args.disk.now in
    let y = c.take_back.new.disk in
    let keeper = c.requires.keeper in
    let is : event_on c.args.entry (P.question old) ≡ event.Back = rw c.in-Back.is in
    let r : Answered = c.take_back.result in
    let call : HasTried P D old new x y event.Back r = record {
      keeper = keeper;
      addable = inr refl;
      tried = inr refl;
      lasts = λ w bytes told f left. g.met.P.Keep.lasts old x w keeper.live keeper.sits bytes told f left;
      ok = c.take_back.ensures.ok;
      err = c.take_back.ensures.err;
      same = c.take_back.ensures.same;
      sits = c.take_back.ensures.sits;
      refused = c.take_back.ensures.refused;
      leaves = c.take_back.ensures.leaves;
    } in
    record {
      kept = rw (c.end_of-in-Back.ensures, is) (kept_by P D g.met.D.Disk.counts_now g.met.D.Disk.only_now old new x y event.Back r call);
      settled = λ none. settled_on P D g.met.D.Disk.counts_now g.met.D.Disk.only_now old new x y event.Back r call (sym c.end_of-in-Back.ensures ∙ none);
      same = record { lang = call.same.same_lang; plan = call.same.same_plan; sound = c.take_back.ensures.sound };
      keeps = rw (c.end_of-in-Back.ensures, is) (keeps_event P D g.met.D.Disk.counts_now g.met.D.Disk.only_now old new x y event.Back r call);
    }

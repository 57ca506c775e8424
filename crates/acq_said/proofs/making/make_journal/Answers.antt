use Rattle.acq_said.proofs.Prelude.{refl, sym, ap, subst, ℕ, List, Ok, inl, inr, Language, IsVocabulary, bytes_told, lang_of, made_said, Saying}
use Rattle.acq_said.proofs.Journals.{not_opened, opened_now}
use Rattle.acq_said.proofs.Spoken.{said_as}
use Rattle.acq_said.proofs.making.make_journal.Goals as goal

pub returns-in-Ok-clause-makes : goal.returns-in-Ok-clause-makes
returns-in-Ok-clause-makes g c =
    let ok = c.in-Ok.ensures in
    let store = c.in-Ok.store in
    let Read : Language → Type 0 = λ l. IsVocabulary c.args.voc.now l in
    let Voc : List ℕ → Type 0 = λ v. IsVocabulary v (lang_of store) in
    let what : Saying = made_said (Ok c.lang_of.result.now) in
    inl (record {
      free = ok.free;
      lang = c.lang_of.result.now;
      read = subst Read (sym c.lang_of.ensures.is) (subst Voc ok.made.voc ok.sound.read);
      says = said_as c.created.result c.or_silent.result what what c.or_silent.ensures.is refl c.created.ensures;
      now = λ bytes told.
          let t = bytes_told (g.D.Disk.content c.create.new.disk) (ok.leaves.goes_on.told bytes told) in
          rw (ok.made.plan, ok.made.voc, ok.made.events) at (opened_now g.D.Disk c.create.new.disk store t.0 t.1 (ok.sits ok.made.live t.0 t.1));
      any_moment = ok.leaves.any_moment;
      calls = c.create.ensures.leaves.few_calls;
    })

pub returns-in-Err-clause-makes : goal.returns-in-Err-clause-makes
returns-in-Err-clause-makes g c =
    inr (record {
      fault = c.in-Err.fault;
      why = c.in-Err.ensures.refused;
      some = c.in-Err.ensures.some_refusal;
      unread = λ f is. c.in-Err.ensures.unread f (ap not_opened is);
      refuses = c.unmade.ensures.refuses;
      untouched = c.in-Err.ensures.untouched;
      spared = c.in-Err.ensures.spared;
      told = c.in-Err.ensures.leaves.goes_on.told;
      any_moment = c.create.ensures.leaves.any_moment;
      calls = c.create.ensures.leaves.few_calls;
    })

pub returns-in-Err-clause-lost : goal.returns-in-Err-clause-lost
returns-in-Err-clause-lost g c is = c.in-Err.ensures.failed (ap not_opened (c.unmade.ensures.lost is))

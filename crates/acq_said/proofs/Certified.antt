-- What `certify` says of a session.
use Rattle.acq_said.proofs.Prelude.{◌≡◌, ◌∙◌, ℕ, List, length, Option, Some, Result, Ok, Err, refl, sym, ap, subst, inl, arith, IfOk, Answer, Certificate, verdict, certificate_of, certificate_made, IsConfirmed, CertFault, Candidate, Language, IsLanguage, IsCovered, IsNetwork, standing_on, IsVocabulary, certificate_said, if_at_end, checked_said, verdict_said, network_led_to, Opened, AsksTruly, IsDone, terms_with, Idle, Next, Ends, Converged, Saying, saying, learned_in, IsReached, few_answers}
use Rattle.cert_check.specs.Texts.{confirmed_text}
use Rattle.cert_check.proofs.MadeBack.{made_is_confirmed}
use Rattle.cert_check.proofs.OneText.{not_both, one_certificate}
use Rattle.acq_said.specs.Asks.{SaysAsked}
use Rattle.acq_said.specs.Certifying.{IsCertifiable}
use Rattle.acq_said.specs.Reducing.{HasLearned}
use Rattle.acq_said.specs.declared.ask.Ask.TheVariants as ask
use Rattle.acq_said.proofs.Moved.{says_asked}
use Rattle.acq_said.proofs.SaidOver.{unconverged_said}
use Rattle.acq_said.proofs.Spoken.{IsReading}
use Rattle.acq_said.proofs.StandingQuestions.{all_questions, all_valued}
use Rattle.acq_loop.specs.declared.ending.Ending.TheVariants as ending

-- ---- what is certified of a session

-- what a check confirms is read as nothing else, and said to be confirmed
checks_out : (text : List ℕ) (cert : Certificate) → IsConfirmed text cert → (reading : Result Certificate CertFault) → IsReading text reading → checked_said reading ≡ saying (confirmed_text cert) ending.Done
checks_out text cert is (Ok other) read = ap (λ c. verdict_said c (verdict c)) (one_certificate text other cert read is.read) ∙ ap (verdict_said cert) is.yes
checks_out text cert is (Err fault) refused = absurd (not_both text cert fault is.read refused)

-- A session that has converged, whose language and network are these, with the bytes of its vocabulary and its answers.
module _ (budget : ℕ) (o : Opened) (m : Language) (list : List Candidate) (has : HasLearned o m list) (voc : List ℕ) (given : List Candidate) (answers : List Answer)
    (described : voc ≡ o.voc) (is : given ≡ list) (stand : answers ≡ standing_on o.lang o.events) (reading : IsVocabulary voc o.lang) (done : IsDone o.lang (terms_with o.plan budget) (standing_on o.lang o.events)) where
  lawful : IsLanguage o.lang
  lawful = subst IsLanguage has.lang has.lawful

  there : IsReached o.lang o.plan (standing_on o.lang o.events)
  there = (Idle done.network done.end, done.idle)

  here : IsCertifiable o.voc o.lang (network_led_to o) (standing_on o.lang o.events)
  here =
      let learned : done.network ≡ network_led_to o = sym (ap learned_in done.idle) in
      let few = few_answers o.lang o.plan (standing_on o.lang o.events) lawful there in
      record {
        covered = subst (λ (n : List Candidate). IsCovered o.lang n (standing_on o.lang o.events)) learned done.covered;
        legal = subst (λ (n : List Candidate). IsNetwork o.lang n) learned done.converged.lawful;
        questions = all_questions o.lang o.plan lawful (standing_on o.lang o.events) there;
        few = omega (arith, few);
        read = subst (λ (v : List ℕ). IsVocabulary v o.lang) described reading;
      }

  pub certifiable : IsCertifiable voc m given answers
  certifiable = rw (described, has.lang, is, has.same, stand) here

  certified_truly : AsksTruly (ask.Certify budget) o
  certified_truly = inl (
    done,
    λ text made.
        let t : List Answer = standing_on o.lang o.events in
        let few = here.few in
        let confirmed = made_is_confirmed o.voc o.lang (network_led_to o) t budget text lawful here.read here.legal here.covered here.questions (all_valued o.lang o.plan lawful t there) (omega (arith, few)) made in
        (confirmed, checks_out text (certificate_of o.lang (network_led_to o) t) confirmed),
  )

  pub certified_so : {E : Type 0} (r : Result Saying E) → IfOk r (λ said. said ≡ certificate_said (certificate_made voc m given answers budget)) → IfOk r (SaysAsked (ask.Certify budget) o)
  certified_so r =
      let certificate : Saying = certificate_said (certificate_made o.voc o.lang (network_led_to o) (standing_on o.lang o.events) budget) in
      says_asked (ask.Certify budget) o r (certificate_said (certificate_made voc m given answers budget))
      ((λ i. certificate_said (certificate_made (described i) (has.lang i) ((is ∙ has.same) i) (stand i) budget)) ∙ sym (ap (λ (n : Option Next). if_at_end n certificate (unconverged_said (length (standing_on o.lang o.events)))) done.ends))
      certified_truly

-- ---- where something is left to ask

pub more_said : (next : Option Next) (certificate other : Saying) → (next ≡ Some (Ends Converged) → ⊥) → other ≡ if_at_end next certificate other
more_said (Some (Ends Converged)) certificate other more = absurd (more refl)
more_said next certificate other more = refl

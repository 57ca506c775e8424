use Rattle.session_store.proofs.Prelude.{◌≡◌, ◌++◌, ◌∷◌, [], ◌∙◌, refl, sym, ap, subst, arith, length, length-append, List, Option, Some, Assignment, Answer, Event, Language, IsLanguage, IsQuestion, variable_count, standing_on, Plan, IsAskedAfter, Stands, knowledge_of, question_put, Session, answer_event, All, All-nil, All-cons, All-append, IsWide, StandsIn, lang_in, plan_in, asked_of_session, HavePlaces, cut_to-standing-push}
use Rattle.session_core.specs.declared.session.Session.TheVariants as sessions
use Rattle.session_core.proofs.Opened.{open_asked}
use Rattle.session_store.proofs.Asked.{asked_fits}
use Rattle.session_store.proofs.Placing.{answer_has_place}
use Rattle.session_store.proofs.Replaying.{both_same}
use Rattle.session_store.proofs.Storables.{storable_wide}
use Rattle.session_store.proofs.held.Held.add.Goals as goal

pub returns-clause-sound : goal.returns-clause-sound
returns-clause-sound c =
    let l : Language = c.in-Some-Asking.asking.knowledge.value.lang in
    let p : Plan = c.in-Some-Asking.asking.knowledge.value.plan in
    let events : List Event = c.args.self.now.events.items in
    let here : c.args.self.now.session ≡ Some (sessions.Asking c.in-Some-Asking.asking) =
    sym c.take.ensures.value ∙ c.in-Some-Asking.is ∙ ap (λ (s : Session). let o : Option Session = Some s in o) c.in-Some-Asking.field-0-is in
    let Sound : Option Session → Type 0 = λ o. StandsIn o events in
    let before : Stands (sessions.Asking c.in-Some-Asking.asking) (standing_on l events) = subst Sound here c.requires.sound.stands in
    let q : Assignment = question_put l c.in-Some-Asking.asking.put.value in
    let lawful : IsLanguage l = subst IsLanguage c.lang-lang.ensures.is c.lang-lang.ensures.lawful in
    let asked : IsAskedAfter l p (standing_on l events) q = open_asked c.in-Some-Asking.asking (standing_on l events) before in
    let size : length q ≡ variable_count l = (asked_fits l lawful p (standing_on l events) q asked).size in
    let after = c.answer_to.ensures.stands (standing_on l events) q refl before in
    let is : c.args.event.now ≡ answer_event q c.args.yes = c.requires.is q (ap asked_of_session here) in
    let pushed : c.add.new.self.items ≡ events ++ c.args.event.now ∷ [] = c.add.ensures in
    let as_answer : c.add.new.self.items ≡ events ++ answer_event q c.args.yes ∷ [] = pushed ∙ ap (λ (e : Event). events ++ e ∷ []) is in
    let Placed : Option Session → Type 0 = λ o. HavePlaces (lang_in o) (plan_in o) events in
    let places : HavePlaces l p (events ++ answer_event q c.args.yes ∷ []) =
    answer_has_place l p events q c.args.yes size (subst Placed here c.requires.sound.places) asked in
    let As : Language → Plan → Type 0 = λ m r. HavePlaces m r c.add.new.self.items in
    let added : standing_on l c.add.new.self.items ≡ standing_on l events ++ (let a : Answer = record { question = q; yes = c.args.yes } in a) ∷ [] =
    ap (standing_on l) as_answer ∙ cut_to-standing-push (variable_count l) events q c.args.yes size in
    record {
      stands = subst (Stands c.answer_to.result) (sym added ∙ ap (λ m. standing_on m c.add.new.self.items) (sym c.answer_to.ensures.lang)) after;
      wide = subst (All IsWide) (sym pushed) (All-append IsWide events (c.args.event.now ∷ []) c.requires.sound.wide (All-cons IsWide c.args.event.now [] (storable_wide c.args.event.now c.requires.storable) (All-nil IsWide)));
      places = both_same As l (knowledge_of c.answer_to.result).lang p (knowledge_of c.answer_to.result).plan (sym c.answer_to.ensures.lang) (sym c.answer_to.ensures.plan) (subst (HavePlaces l p) (sym as_answer) places);
      few = let size = ap length pushed in let more = length-append events (c.args.event.now ∷ []) in let few = c.requires.few in omega arith;
    }

pub returns-clause-settled : goal.returns-clause-settled
returns-clause-settled c = c.answer_to.ensures.settled _ (returns-clause-sound c).stands

pub answer_to-requires-clause-asked : goal.answer_to-requires-clause-asked
answer_to-requires-clause-asked c =
    let here : c.args.self.now.session ≡ Some (sessions.Asking c.in-Some-Asking.asking) =
    sym c.take.ensures.value ∙ c.in-Some-Asking.is ∙ ap (λ (s : Session). let o : Option Session = Some s in o) c.in-Some-Asking.field-0-is in
    ap asked_of_session (sym here) ∙ c.requires.put

pub answer_to-requires-clause-fits : goal.answer_to-requires-clause-fits
answer_to-requires-clause-fits c =
    let here : c.args.self.now.session ≡ Some (sessions.Asking c.in-Some-Asking.asking) =
    sym c.take.ensures.value ∙ c.in-Some-Asking.is ∙ ap (λ (s : Session). let o : Option Session = Some s in o) c.in-Some-Asking.field-0-is in
    subst (λ o. IsQuestion (lang_in o) c.args.question.now) here c.requires.fits

use Rattle.session_store.proofs.Prelude.{◌≡◌, ◌++◌, ◌∷◌, [], ◌∙◌, refl, sym, ap, subst, arith, length, length-append, List, Some, All, All-nil, All-cons, All-append, Event, Plan, Language, standing_on, Stands, knowledge_of, IsWide, lang_in, plan_in, lang_held, plan_held, IsStrayIn, HavePlaces}
use Rattle.assign.specs.declared.events.Event.TheVariants as variant
use Rattle.session_store.proofs.Placing.{back_has_place, never_stray}
use Rattle.session_store.proofs.Replaying.{both_same}
use Rattle.session_store.proofs.held.Held.add_back.Goals as goal

pub replay_records-requires-clause-wide : goal.replay_records-requires-clause-wide
replay_records-requires-clause-wide c =
    let past : List Event = c.args.self.now.events.items in
    let pushed : c.add.new.self.items ≡ past ++ variant.Back ∷ [] = c.add.ensures in
    subst (All IsWide) (sym pushed) (All-append IsWide past (variant.Back ∷ []) c.requires.sound.wide (All-cons IsWide variant.Back [] tt (All-nil IsWide)))

pub unreachable-requires : goal.unreachable-requires
unreachable-requires c =
    let s = c.args.self.now in
    let past : List Event = s.events.items in
    let later : List Event = past ++ variant.Back ∷ [] in
    let k = knowledge_of c.restart.result in
    let pushed : c.add.new.self.items ≡ later = c.add.ensures in
    let here : s.session ≡ Some c.in-Some.session = sym c.take.ensures.value ∙ c.in-Some.is in
    let stray = subst (λ (es : List Event). IsStrayIn k.lang k.plan es c.in-Err.field-0) pushed c.in-Err.ensures.stray in
    let As : Language → Plan → Type 0 = λ m r. IsStrayIn m r later c.in-Err.field-0 in
    never_stray (lang_held s) (plan_held s) later c.in-Err.field-0 (back_has_place (lang_held s) (plan_held s) past c.requires.sound.places c.requires.stands)
    (both_same As k.lang (lang_held s) k.plan (plan_held s) (c.restart.ensures.lang ∙ ap lang_in (sym here)) (c.restart.ensures.plan ∙ ap plan_in (sym here)) stray)

pub returns-clause-sound : goal.returns-clause-sound
returns-clause-sound c =
    let s = c.args.self.now in
    let past : List Event = s.events.items in
    let later : List Event = past ++ variant.Back ∷ [] in
    let k = knowledge_of c.restart.result in
    let next = knowledge_of c.in-Ok.next in
    let pushed : c.add.new.self.items ≡ later = c.add.ensures in
    let here : s.session ≡ Some c.in-Some.session = sym c.take.ensures.value ∙ c.in-Some.is in
    let Here : Language → List Event → Type 0 = λ m es. Stands c.in-Ok.next (standing_on m es) in
    let As : Language → Plan → Type 0 = λ m r. HavePlaces m r c.add.new.self.items in
    let placed : HavePlaces (lang_held s) (plan_held s) later = back_has_place (lang_held s) (plan_held s) past c.requires.sound.places c.requires.stands in
    record {
      stands = both_same Here k.lang next.lang c.add.new.self.items c.add.new.self.items (sym c.in-Ok.ensures.lang) refl c.in-Ok.ensures.stands;
      few = let size = ap length pushed in let more = length-append past (variant.Back ∷ []) in let few = c.requires.few in omega arith;
      wide = subst (All IsWide) (sym pushed) (All-append IsWide past (variant.Back ∷ []) c.requires.sound.wide (All-cons IsWide variant.Back [] tt (All-nil IsWide)));
      places = both_same As (lang_held s) next.lang (plan_held s) next.plan (ap lang_in here ∙ sym c.restart.ensures.lang ∙ sym c.in-Ok.ensures.lang) (ap plan_in here ∙ sym c.restart.ensures.plan ∙ sym c.in-Ok.ensures.plan)
          (subst (HavePlaces (lang_held s) (plan_held s)) (sym pushed) placed);
    }

use Rattle.find_c.proofs.Prelude.{◌≡◌, ◌-◌, ◌%◌, ◌<◌, ◌^◌, ℕ, length, scope_at, IsFoundFrom, Bool, List, [], sym, ◌∙◌, ap, subst, refl, All, beq, filter, Language, place, Choice, after_reply, scene_of, is_accepting, allows_at, TellingRun, IsRun, IsChoiceOn, LeavesChoices, RelStandsFor, Inside}
use Rattle.find_c.proofs.GoingOn.{goes_on}
use Rattle.find_c.proofs.Splitting.{agreeing_is}
use Rattle.find_c.proofs.Replies.{run_leaves_some, known_after, stands_after}
use Rattle.find_c.proofs.run.RelRun.told.Goals as goal

-- the run of the fields
abbrev run_of : Inside → TellingRun
run_of inside = record { scope = inside.scope; choices = inside.choices; tuple = inside.tuple }

sound : (l : Language) (inside : Inside) (run : TellingRun) → run_of inside ≡ run → IsRun l run → IsRun l (run_of inside)
sound l inside run e is = subst (IsRun l) (sym e) is

-- the choices that are left agree with the reply
left : (l : Language) (inside : Inside) (run : TellingRun) (next : List Choice) (mask : ℕ) (reply : Bool) → run_of inside ≡ run →
    ((c : Choice) → is_accepting mask c ≡ allows_at (scene_of l run.scope) (place l.value_count run.tuple) c) → next ≡ filter (λ c. beq (is_accepting mask c) reply) inside.choices →
    next ≡ after_reply (scene_of l inside.scope) inside.tuple reply inside.choices
left l inside run next mask reply e each agree =
    subst (λ (r : TellingRun). next ≡ after_reply (scene_of l r.scope) r.tuple reply inside.choices) (sym e)
    (agreeing_is (scene_of l run.scope) inside.choices next run.tuple (place l.value_count run.tuple) mask reply refl each agree)

pub settle-requires-clause-known : goal.settle-requires-clause-known
settle-requires-clause-known c =
    let is = left c.args.lang.now c.self.inside c.args.self c.agreeing.result c.args.accepting c.args.yes c.self.view_is c.requires.accepting c.agreeing.ensures in
    subst (λ cs. All (IsChoiceOn c.args.lang.now c.self.inside.scope) cs) (sym is) (known_after c.args.lang.now _ (sound _ c.self.inside _ c.self.view_is c.requires.run) c.args.yes)

pub settle-requires-clause-from : goal.settle-requires-clause-from
settle-requires-clause-from c =
    let l = c.args.lang.now in
    let run = run_of c.self.inside in
    let at : c.args.tuple_place ≡ place l.value_count c.self.inside.tuple = c.requires.place ∙ ap (λ (r : TellingRun). place l.value_count r.tuple) (sym c.self.view_is) in
    let low : c.args.tuple_place < l.value_count ^ length (scope_at l c.self.inside.scope) = subst (λ (r : TellingRun). c.args.tuple_place < l.value_count ^ length (scope_at l r.scope)) (sym c.self.view_is) c.requires.below in
    subst (λ d. IsFoundFrom l run.scope c.agreeing.result (c.args.tuple_place - c.args.tuple_place % d)) (sym (c.from-size.ensures ∙ c.d.ensures.is))
    (subst (λ cs. IsFoundFrom l run.scope cs (c.args.tuple_place - c.args.tuple_place % l.value_count)) (sym c.agreeing.ensures)
    (goes_on l c.d.ensures.lawful run (sound l c.self.inside c.args.self c.self.view_is c.requires.run) (λ x. beq (is_accepting c.args.accepting x) c.args.yes) c.args.tuple_place at low))

pub returns-clause-settled : goal.returns-clause-settled
returns-clause-settled c =
    let is = left c.args.lang.now c.self.inside c.args.self c.agreeing.result c.args.accepting c.args.yes c.self.view_is c.requires.accepting c.agreeing.ensures in
    subst (λ (run : TellingRun). LeavesChoices c.args.lang.now run.scope (after_reply (scene_of c.args.lang.now run.scope) run.tuple c.args.yes run.choices) c.settle.result) c.self.view_is
    (subst (λ cs. LeavesChoices c.args.lang.now c.self.inside.scope cs c.settle.result) is c.settle.ensures.settled)

pub returns-clause-stands : goal.returns-clause-stands
returns-clause-stands c =
    let is = left c.args.lang.now c.self.inside c.args.self c.agreeing.result c.args.accepting c.args.yes c.self.view_is c.requires.accepting c.agreeing.ensures in
    stands_after c.args.lang.now c.args.self c.requires.run c.self.inside.scope c.settle.result c.args.yes (ap (λ (run : TellingRun). run.scope) c.self.view_is)
    (subst (λ (run : TellingRun). RelStandsFor c.settle.result c.args.lang.now c.self.inside.scope (after_reply (scene_of c.args.lang.now run.scope) run.tuple c.args.yes run.choices) []) c.self.view_is
    (subst (λ cs. RelStandsFor c.settle.result c.args.lang.now c.self.inside.scope cs []) is c.settle.ensures.stands))

pub returns-clause-some : goal.returns-clause-some
returns-clause-some c = λ nothing.
    let is = left c.args.lang.now c.self.inside c.args.self c.agreeing.result c.args.accepting c.args.yes c.self.view_is c.requires.accepting c.agreeing.ensures in
    run_leaves_some c.args.lang.now _ (sound _ c.self.inside _ c.self.view_is c.requires.run) c.args.yes (sym is ∙ c.settle.ensures.nothing.0 nothing)

use Rattle.find_c.proofs.Prelude.{◌≡◌, ◌^◌, ◌<◌, ◌≤◌, length, sym, ◌∙◌, ap, subst, arith, All, Language, scope_at, place, TellingRun, IsRun, Inside}
use Rattle.find_c.proofs.Replies.{run_tuple, run_places}
use Rattle.find_c.proofs.run.RelRun.place.Goals as goal

-- the run of the fields
abbrev run_of : Inside → TellingRun
run_of inside = record { scope = inside.scope; choices = inside.choices; tuple = inside.tuple }

sound : (l : Language) (inside : Inside) (run : TellingRun) → run_of inside ≡ run → IsRun l run → IsRun l (run_of inside)
sound l inside run e is = subst (IsRun l) (sym e) is

pub place_of-requires-clause-values : goal.place_of-requires-clause-values
place_of-requires-clause-values c =
    let tuple = run_tuple c.args.lang.now c.d.ensures.lawful _ (sound _ c.self.inside _ c.self.view_is c.requires) in
    subst (λ xs. All (λ x. x < c.d.result) xs) (sym c.values.ensures) (subst (λ n. All (λ x. x < n) c.self.inside.tuple) (sym c.d.ensures.is) tuple.values)

pub place_of-requires-clause-fits : goal.place_of-requires-clause-fits
place_of-requires-clause-fits c =
    subst (λ n. n ≤ 65536) (λ i. sym c.d.ensures.is i ^ length (sym c.values.ensures i)) (run_places c.args.lang.now c.d.ensures.lawful _ (sound _ c.self.inside _ c.self.view_is c.requires))

pub overflow_cast-result : goal.overflow_cast-result
overflow_cast-result c =
    let few = run_places c.args.lang.now c.d.ensures.lawful _ (sound _ c.self.inside _ c.self.view_is c.requires) in
    let same : c.d.result ^ length c.values.result.now ≡ c.args.lang.now.value_count ^ length c.self.inside.tuple = λ i. c.d.ensures.is i ^ length (c.values.ensures i) in
    omega (arith, few, same)

pub returns-clause-is : goal.returns-clause-is
returns-clause-is c = c.place_of.ensures.is ∙ (λ i. place (c.d.ensures.is i) ((c.values.ensures ∙ ap (λ (run : TellingRun). run.tuple) c.self.view_is) i))

pub returns-clause-below : goal.returns-clause-below
returns-clause-below c =
    let tuple = run_tuple c.args.lang.now c.d.ensures.lawful _ (sound _ c.self.inside _ c.self.view_is c.requires) in
    subst (λ (run : TellingRun). c.place_of.result < c.args.lang.now.value_count ^ length (scope_at c.args.lang.now run.scope)) c.self.view_is
    (subst (λ n. c.place_of.result < n) (λ i. c.d.ensures.is i ^ (ap length c.values.ensures ∙ tuple.long) i) c.place_of.ensures.below)

use Rattle.find_c.proofs.Prelude.{◌≡◌, ◌^◌, ◌<◌, ℕ, false, [], length, get_or, sym, subst, is_one, scope_at, relations_on, Choice, scene_of, is_accepting, allows_at}
use Rattle.find_c.proofs.Accepting.{told_by}
use Rattle.find_c.proofs.run.RelRun.reply.Goals as goal

pub accepting-mask-requires-clause-scope : goal.accepting-mask-requires-clause-scope
accepting-mask-requires-clause-scope c = subst (λ (s : ℕ). s < length c.args.lang.now.scopes) (sym c.scope.ensures) c.requires.scope

pub accepting-mask-requires-clause-place : goal.accepting-mask-requires-clause-place
accepting-mask-requires-clause-place c = subst (λ (s : ℕ). c.place-place.result < c.args.lang.now.value_count ^ length (scope_at c.args.lang.now s)) (sym c.scope.ensures) c.place-place.ensures.below

pub told-requires-clause-accepting : goal.told-requires-clause-accepting
told-requires-clause-accepting c =
    subst (λ (p : ℕ). (x : Choice) → is_accepting c.accepting-mask.result x ≡ allows_at (scene_of c.args.lang.now c.args.self.scope) p x) c.place-place.ensures.is
    (told_by (scene_of c.args.lang.now c.args.self.scope) c.place-place.result c.accepting-mask.result
    (λ r. subst (λ (s : ℕ). is_one c.accepting-mask.result r ≡ get_or (get_or (relations_on c.args.lang.now s) r []) c.place-place.result false) c.scope.ensures (c.accepting-mask.ensures.is r)))

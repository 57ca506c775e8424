use Rattle.find_c.proofs.Prelude.{◌≡◌, ◌^◌, ◌<◌, ℕ, length, sym, subst, scope_at, Choice, scene_of, ones_of, accepting_on, is_accepting, allows_at}
use Rattle.find_c.proofs.Accepting.{kept_accepting}
use Rattle.find_c.proofs.run.RelRun.reply_beside.Goals as goal

pub accepting-mask-requires-clause-scope : goal.accepting-mask-requires-clause-scope
accepting-mask-requires-clause-scope c = subst (λ (s : ℕ). s < length c.args.lang.now.scopes) (sym c.scope.ensures) c.requires.run.scope

pub accepting-mask-requires-clause-place : goal.accepting-mask-requires-clause-place
accepting-mask-requires-clause-place c = subst (λ (s : ℕ). c.place-place.result < c.args.lang.now.value_count ^ length (scope_at c.args.lang.now s)) (sym c.scope.ensures) c.place-place.ensures.below

pub told-requires-clause-accepting : goal.told-requires-clause-accepting
told-requires-clause-accepting c =
    subst (λ (p : ℕ). (x : Choice) → is_accepting c.accepting-mask.result x ≡ allows_at (scene_of c.args.lang.now c.args.self.scope) p x) c.place-place.ensures.is
    (kept_accepting c.args.lang.now c.args.self.scope c.place-place.result c.accepting-mask.result c.accepting-mask.type_inv (c.requires.made.accepting.few c.args.self.scope c.requires.run.scope)
    (subst (λ (s : ℕ). ones_of c.accepting-mask.result ≡ accepting_on c.args.lang.now s c.place-place.result) c.scope.ensures c.accepting-mask.ensures))

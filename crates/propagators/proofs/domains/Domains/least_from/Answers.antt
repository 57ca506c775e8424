use Rattle.propagators.proofs.Prelude.{◌≡◌, ◌<◌, ◌≤◌, ◌∙◌, ℕ, List, true, false, ap, sym, subst, IfSome, has}
use Rattle.propagators.proofs.OnScope.{read_set}
use Rattle.propagators.proofs.domains.Domains.least_from.Goals as goal

pub returns-clause-there : goal.returns-clause-there
returns-clause-there c = subst (λ (xs : List ℕ). IfSome c.least_from.result (λ y. has xs y ≡ true)) (read_set c.self.inside.sets c.self.inside.size c.args.self.now c.args.v c.self.view_is c.requires) c.least_from.ensures.there

pub returns-clause-least : goal.returns-clause-least
returns-clause-least c = subst (λ (xs : List ℕ). IfSome c.least_from.result (λ y. (z : ℕ) → c.args.x ≤ z → z < y → has xs z ≡ false)) (read_set c.self.inside.sets c.self.inside.size c.args.self.now c.args.v c.self.view_is c.requires) c.least_from.ensures.least

pub returns-clause-none : goal.returns-clause-none
returns-clause-none c = λ e z above. ap (λ (xs : List ℕ). has xs z) (sym (read_set c.self.inside.sets c.self.inside.size c.args.self.now c.args.v c.self.view_is c.requires)) ∙ c.least_from.ensures.none e z above

use Rattle.find_c.proofs.Prelude.{length, ◌≤◌, sym, ◌∙◌, ap, subst, refl, eq-eqb, arith, eqb-true, choices_of}
use Rattle.find_c.proofs.Marks.{few_of_none, few_of_first, no_others, more_beside_none}
use Rattle.find_c.proofs.choices.Choices.is_single.Goals as goal

pub returns-then-self-eq0 : goal.returns-then-self-eq0
returns-then-self-eq0 c = (
  λ yes. subst (λ cs. length cs ≤ 1) c.self.view_is (few_of_none c.self.inside.relations c.self.inside.free c.if-self-eq0.true),
  λ few. refl,
)

pub returns-then-not-self : goal.returns-then-not-self
returns-then-not-self c =
    let seen = ap (choices_of c.self.inside.relations) (sym c.if-not-self.true) ∙ c.self.view_is in
    let others = c.split_first-others.result.1 in (
      λ none. subst (λ cs. length cs ≤ 1) seen (few_of_first c.self.inside.relations c.split_first-others.result.0 others c.split_first-others.ensures (eqb-true _ _ none)),
      λ few. eq-eqb others 0 (no_others c.self.inside.relations c.split_first-others.result.0 others (omega (arith, c.split_first-others.type_inv.1)) c.split_first-others.ensures
          (subst (λ cs. length cs ≤ 1) (sym seen) few)),
    )

pub returns-else-not-self : goal.returns-else-not-self
returns-else-not-self c =
    let seen = ap (choices_of c.self.inside.relations) (sym c.if-not-self.false) ∙ c.self.view_is in (
      λ yes. cc,
      λ few. absurd (more_beside_none c.self.inside.relations c.split_first-others.result.0 c.split_first-others.result.1 c.split_first-others.ensures (subst (λ cs. length cs ≤ 1) (sym seen) few)),
    )

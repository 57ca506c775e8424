use Rattle.find_c.proofs.Prelude.{◌∙◌, ap, sym, eq-eqb, eqb-true, choices_of}
use Rattle.find_c.proofs.Marks.{none_of_nothing, nothing_of_none}
use Rattle.find_c.proofs.choices.Choices.is_empty.Goals as goal

pub returns-then-not-self : goal.returns-then-not-self
returns-then-not-self c =
    let seen = ap (choices_of c.self.inside.relations) (sym c.if-not-self.true) ∙ c.self.view_is in (
      λ zero. sym seen ∙ none_of_nothing c.self.inside.relations (eqb-true _ _ zero),
      λ none. eq-eqb c.self.inside.relations 0 (nothing_of_none c.self.inside.relations c.self.invariant (seen ∙ none)),
    )

use Rattle.find_c.proofs.Prelude.{sym, ◌∙◌, ap, arith, choices_of, beside_none}
use Rattle.find_c.proofs.Marks.{beside_nothing, none_alone, one_beside_none, more_than_one}
use Rattle.find_c.proofs.choices.Choices.beside_none.Goals as goal

pub returns-then-not-self : goal.returns-then-not-self
returns-then-not-self c = sym (beside_nothing c.self.inside.relations) ∙ ap beside_none (ap (choices_of c.self.inside.relations) (sym c.if-not-self.true) ∙ c.self.view_is)

pub returns-then-self-eq0 : goal.returns-then-self-eq0
returns-then-self-eq0 c = sym (none_alone c.self.inside.relations c.self.inside.free c.if-self-eq0.true) ∙ ap beside_none c.self.view_is

pub returns-then-others-eq0 : goal.returns-then-others-eq0
returns-then-others-eq0 c =
    sym (one_beside_none c.self.inside.relations c.split_first-r.result.0 c.split_first-r.result.1 c.split_first-r.ensures c.if-others-eq0.true)
    ∙ ap beside_none (ap (choices_of c.self.inside.relations) (sym c.if-not-self.false) ∙ c.self.view_is)

pub returns-else-others-eq0 : goal.returns-else-others-eq0
returns-else-others-eq0 c =
    sym (more_than_one c.self.inside.relations c.split_first-r.result.0 c.split_first-r.result.1 (omega (arith, c.split_first-r.type_inv.1)) c.split_first-r.ensures c.if-others-eq0.false)
    ∙ ap beside_none (ap (choices_of c.self.inside.relations) (sym c.if-not-self.false) ∙ c.self.view_is)

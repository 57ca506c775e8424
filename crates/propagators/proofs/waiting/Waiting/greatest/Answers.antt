use Rattle.propagators.proofs.Prelude.{◌≡◌, ◌+◌, ◌∙◌, ap, arith, has}
use Rattle.propagators.proofs.Words.{has_low, has_high, are_set, none_left, greatest_low, greatest_high}
use Rattle.propagators.proofs.waiting.Waiting.greatest.Goals as goal

pub returns-then-self-ne0-clause-there : goal.returns-then-self-ne0-clause-there
returns-then-self-ne0-clause-there c = ap (has c.args.self) (let e : 64 + c.greatest_value.result ≡ c.greatest_value.result + 64 = omega arith in e) ∙ has_high c.self.inside.low c.self.inside.high c.args.self c.self.view_is c.greatest_value.result c.greatest_value.ensures.low ∙ c.greatest_value.ensures.there

pub returns-then-self-ne0-clause-greatest : goal.returns-then-self-ne0-clause-greatest
returns-then-self-ne0-clause-greatest c = greatest_high c.self.inside.low c.self.inside.high c.args.self c.self.view_is c.greatest_value.result c.greatest_value.ensures.greatest

pub returns-then-self-ne0-clause-set : goal.returns-then-self-ne0-clause-set
returns-then-self-ne0-clause-set c = are_set c.self.inside.low c.self.inside.high c.args.self c.self.view_is

pub returns-then-self-ne0-2-clause-there : goal.returns-then-self-ne0-2-clause-there
returns-then-self-ne0-2-clause-there c = has_low c.self.inside.low c.self.inside.high c.args.self c.self.view_is c.greatest_value-then-self-ne0-2.result c.greatest_value-then-self-ne0-2.ensures.low ∙ c.greatest_value-then-self-ne0-2.ensures.there

pub returns-then-self-ne0-2-clause-greatest : goal.returns-then-self-ne0-2-clause-greatest
returns-then-self-ne0-2-clause-greatest c = greatest_low c.self.inside.low c.self.inside.high c.args.self c.self.view_is c.greatest_value-then-self-ne0-2.result c.if-self-ne0.false c.greatest_value-then-self-ne0-2.ensures.greatest

pub returns-then-self-ne0-2-clause-set : goal.returns-then-self-ne0-2-clause-set
returns-then-self-ne0-2-clause-set c = are_set c.self.inside.low c.self.inside.high c.args.self c.self.view_is

pub returns-clause-none : goal.returns-clause-none
returns-clause-none c = λ e. none_left c.self.inside.low c.self.inside.high c.args.self c.self.view_is c.if-self-ne0-2.false c.if-self-ne0.false

pub returns-clause-set : goal.returns-clause-set
returns-clause-set c = are_set c.self.inside.low c.self.inside.high c.args.self c.self.view_is

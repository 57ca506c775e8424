use Rattle.propagators.proofs.Prelude.{◌∙◌, ap, both_ways, ones_of, ones_of-zero, no_ones}
use Rattle.propagators.proofs.Ones.{none_in}
use Rattle.propagators.proofs.Loose.{one_member, two_members}
use Rattle.propagators.proofs.values.only_member.Goals as goal

pub returns-then-values-eq0-clause-two : goal.returns-then-values-eq0-clause-two
returns-then-values-eq0-clause-two c = λ e some. absurd (both_ways _ (none_in c.args.values c.if-values-eq0.true) some)

pub returns-then-without_value-eq0-clause-only : goal.returns-then-without_value-eq0-clause-only
returns-then-without_value-eq0-clause-only c = record {
  there = c.least_value-x.ensures.there;
  alone = λ y at. one_member (ones_of c.args.values) (ones_of c.without_value.result) c.least_value-x.result c.without_value.ensures.has (ap ones_of c.if-without_value-eq0.true ∙ ones_of-zero) y c.least_value-x.result at c.least_value-x.ensures.there;
}

pub returns-else-without_value-eq0-clause-two : goal.returns-else-without_value-eq0-clause-two
returns-else-without_value-eq0-clause-two c = λ e some. two_members (ones_of c.args.values) (ones_of c.without_value.result) c.least_value-x.result c.least_value-x.ensures.there c.without_value.ensures.has
    (λ none. c.if-without_value-eq0.false (no_ones c.without_value.result c.without_value.type_inv none))

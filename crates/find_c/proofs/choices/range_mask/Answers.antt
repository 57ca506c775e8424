use Rattle.find_c.proofs.Prelude.{◌∙◌, ◌&&◌, not, arith, is_in, is_one-and_not}
use Rattle.find_c.proofs.Between.{between_by}
use Rattle.find_c.proofs.choices.range_mask.Goals as goal

pub returns : goal.returns
returns c = λ y low.
    is_one-and_not c.first_values.result c.first_values-2.result y c.first_values-2.type_inv (let few = c.d-values.ensures.lawful.few_values in omega arith)
    ∙ (λ i. c.first_values.ensures y i && not (c.first_values-2.ensures y i))
    ∙ between_by c.range-first.result.0 c.range-first.result.1 y
    ∙ (λ i. is_in (record { first = c.range-first.ensures.first i; last = c.range-first.ensures.last i }) y)

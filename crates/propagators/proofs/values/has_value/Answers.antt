use Rattle.propagators.proofs.Prelude.{◌∙◌, ap, sym, ◌==◌, le-ltb, shr_and_one, has-ones_of, has_above}
use Rattle.propagators.proofs.values.has_value.Goals as goal

pub returns-then-x-lt64 : goal.returns-then-x-lt64
returns-then-x-lt64 c = ap (λ x. x == 1) (shr_and_one c.args.values c.args.x) ∙ sym (has-ones_of c.args.values c.args.x c.if-x-lt64.true)

pub returns-else-x-lt64 : goal.returns-else-x-lt64
returns-else-x-lt64 c = le-ltb c.args.x 64 c.if-x-lt64.false ∙ sym (has_above c.args.values c.args.x c.if-x-lt64.false)

use Rattle.bias_store.proofs.Prelude.{◌∙◌, ap, sym, ◌==◌, le-ltb, shr_and_one, has-ones_of}
use Rattle.bias_store.proofs.masks.has_relation.Goals as goal
use Rattle.assign.proofs.Ones.{has_above}

pub returns-then-r-lt64 : goal.returns-then-r-lt64
returns-then-r-lt64 c = ap (λ x. x == 1) (shr_and_one c.args.relations c.args.r) ∙ sym (has-ones_of c.args.relations c.args.r c.if-r-lt64.true)

pub returns-else-r-lt64 : goal.returns-else-r-lt64
returns-else-r-lt64 c = le-ltb c.args.r 64 c.if-r-lt64.false ∙ sym (has_above c.args.relations c.args.r c.if-r-lt64.false)

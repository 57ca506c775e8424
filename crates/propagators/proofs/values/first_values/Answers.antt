use Rattle.propagators.proofs.Prelude.{◌<◌, ◌-◌, ◌∙◌, ap, sym, arith, lit≤, one_shl, numbers, ones_of}
use Rattle.propagators.proofs.values.first_values.Goals as goal
use Rattle.assign.proofs.Ones.{ones_of-first}

pub returns-then-d-eq64 : goal.returns-then-d-eq64
returns-then-d-eq64 c = ones_of-first 64 (lit≤ tt) ∙ ap numbers (sym c.if-d-eq64.true)

pub returns-else-d-eq64 : goal.returns-else-d-eq64
returns-else-d-eq64 c =
    let small : c.args.d < 64 = (let differs = c.if-d-eq64.false in omega arith) in
    ap (λ x. ones_of (x - 1)) (one_shl c.args.d 64 small) ∙ ones_of-first c.args.d c.requires

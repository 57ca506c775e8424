use Rattle.bias_store.proofs.Prelude.{◌<◌, ◌-◌, ◌∙◌, ap, sym, arith, lit≤, one_shl, numbers, ones_of}
use Rattle.bias_store.proofs.masks.first_relations.Goals as goal
use Rattle.assign.proofs.Ones.{ones_of-first}

pub returns-then-count-eq64 : goal.returns-then-count-eq64
returns-then-count-eq64 c = ones_of-first 64 (lit≤ tt) ∙ ap numbers (sym c.if-count-eq64.true)

pub returns-else-count-eq64 : goal.returns-else-count-eq64
returns-else-count-eq64 c =
    let small : c.args.count < 64 = (let differs = c.if-count-eq64.false in omega arith) in
    ap (λ x. ones_of (x - 1)) (one_shl c.args.count 64 small) ∙ ones_of-first c.args.count c.requires

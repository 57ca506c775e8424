use Rattle.find_c.proofs.Prelude.{◌<◌, ◌-◌, ◌∙◌, ap, sym, arith, ◌==◌, bit_at}
use Rattle.std.proofs.lemmas.Nat.{one_shl}
use Rattle.std.specs.Prelude.{nat_lt}
use Rattle.find_c.proofs.Between.{ones_below}
use Rattle.find_c.proofs.choices.first_values.Goals as goal

pub returns-then-count-eq64 : goal.returns-then-count-eq64
returns-then-count-eq64 c = λ y. ones_below 64 y ∙ ap (λ n. nat_lt y n) (sym c.if-count-eq64.true)

pub returns-else-count-eq64 : goal.returns-else-count-eq64
returns-else-count-eq64 c = λ y.
    (let small : c.args.count < 64 = (let differs = c.if-count-eq64.false in let few = c.requires in omega arith) in
    ap (λ x. bit_at (x - 1) y == 1) (one_shl c.args.count 64 small) ∙ ones_below c.args.count y)

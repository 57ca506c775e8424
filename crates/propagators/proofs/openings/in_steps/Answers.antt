use Rattle.propagators.proofs.Prelude.{◌≡◌, ◌+◌, ◌*◌, ◌∙◌, ◌&&◌, ℕ, not, false, ap, has, ones_of, is_wanted, truth_at}
use Rattle.propagators.proofs.Along.{none_gone}
use Rattle.assign.proofs.Ones.{ones_of-zero}
use Rattle.propagators.proofs.openings.in_steps.Goals as goal

pub loop-rest-init : goal.loop-rest-init
loop-rest-init c = record {
  part = λ y there. there;
  goes = λ y. none_gone (has (ones_of c.args.values) y) (is_wanted c.args.holding (truth_at c.args.table.now (c.args.first + y * c.args.step))) y;
}

pub returns : goal.returns
returns c = λ x. c.loop-rest.invariant.goes x ∙ ap (λ b. has (ones_of c.args.values) x && (not b && is_wanted c.args.holding (truth_at c.args.table.now (c.args.first + x * c.args.step)))) (none_left x)
  where
    none_left : (x : ℕ) → has (ones_of c.loop-rest.rest) x ≡ false
    none_left x = ap (λ r. has (ones_of r) x) c.loop-rest-test.false ∙ ap (λ xs. has xs x) ones_of-zero

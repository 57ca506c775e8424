use Rattle.rel_formula.proofs.Prelude.{ℕ, Ok, ◌++◌, sym, ◌∙◌, ap, then_on, Truth, formula_of-steps, steps-formula_of, truth_steps}
use Rattle.rel_formula.proofs.formula.read_formula.Goals as goal

pub of_steps-requires-clause-sound : goal.of_steps-requires-clause-sound
of_steps-requires-clause-sound c =
    steps-formula_of c.truth.new.self.steps.items c.in_ok-truth.ensures.tree
    (c.in_ok-truth.ensures.steps ∙ ap (λ xs. xs ++ truth_steps c.in_ok-truth.ensures.tree) c.new.ensures.items)

pub returns-clause-read : goal.returns-clause-read
returns-clause-read c =
    ap (λ r. then_on {A = Truth × ℕ} {B = Truth} r (λ read. Ok read.0)) c.in_ok-truth.ensures.read
    ∙ ap (λ p. Ok p)
    (sym (c.of_steps.ensures
    ∙ formula_of-steps c.truth.new.self.steps.items c.in_ok-truth.ensures.tree
    (c.in_ok-truth.ensures.steps ∙ ap (λ xs. xs ++ truth_steps c.in_ok-truth.ensures.tree) c.new.ensures.items)))

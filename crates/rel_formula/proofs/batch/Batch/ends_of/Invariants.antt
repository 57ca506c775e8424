use Rattle.rel_formula.proofs.Prelude.{◌≡◌, ℕ, ◌<◌, [], drop, reverse, run}
use Rattle.rel_formula.specs.Batch.{numbers_at, truths_at}
use Rattle.rel_formula.proofs.batch.Batch.ends_of.Given as goal

abbrev pub invariant-loop-step : goal.invariant-loop-step
invariant-loop-step l = (k : ℕ) → k < 16 → run (numbers_at k l.tuples) (drop l.step-index l.steps) (numbers_at k (reverse l.self.numbers.items)) (truths_at k (reverse l.self.truths.items)) ≡ run (numbers_at k l.tuples) l.steps [] []

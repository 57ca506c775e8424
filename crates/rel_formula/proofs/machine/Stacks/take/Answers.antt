use Rattle.rel_formula.proofs.Prelude.{rules}
use Rattle.rel_formula.proofs.machine.Stacks.take.Goals as goal

pub returns-in-Combine-clause-runs : goal.returns-in-Combine-clause-runs
returns-in-Combine-clause-runs c = search rules

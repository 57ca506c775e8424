use Rattle.rel_formula.proofs.Prelude.{◌≡◌, ◌≤◌, [], drop, length, reverse, run}
use Rattle.rel_formula.proofs.machine.Stacks.end_of.Given as goal

abbrev pub invariant-loop-step : goal.invariant-loop-step
invariant-loop-step l = record {
  rest : run l.tuple (drop l.step-index l.steps) (reverse l.self.numbers.items) (reverse l.self.truths.items) ≡ run l.tuple l.steps [] [];
  numbers : length l.self.numbers.items ≤ l.step-index;
  truths : length l.self.truths.items ≤ l.step-index;
}

use Rattle.multi_tree.proofs.Prelude.{ℕ, ◌≤◌, List, length, subst}
use Rattle.multi_tree.proofs.Rooms.{few}
use Rattle.multi_tree.proofs.stack.Stack.len.Goals as goal

pub returns-clause-few : goal.returns-clause-few
returns-clause-few c = subst (λ (sets : List (List ℕ)). length sets ≤ 385) c.self.view_is (few _ c.self.invariant.fit)

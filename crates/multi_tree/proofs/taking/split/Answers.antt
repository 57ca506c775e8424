use Rattle.multi_tree.proofs.Prelude.{arith}
use Rattle.multi_tree.proofs.taking.split.Goals as goal

pub push_parts-requires-clause-known : goal.push_parts-requires-clause-known
push_parts-requires-clause-known c = λ k d low. (let at = c.scope.ensures.scope.known k d low in let most = c.n-variables.ensures.lawful.few_variables in omega arith)

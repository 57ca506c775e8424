use Rattle.multi_tree.proofs.Prelude.{◌≡◌, ◌++◌, ◌-◌, length, drop, parts_without}
use Rattle.multi_tree.proofs.stack.Stack.push_parts.Given as goal

abbrev pub invariant-loop-i : goal.invariant-loop-i
invariant-loop-i l = l.self ≡ parts_without l.fn.set (drop (length l.fn.scope - l.i) l.fn.scope) ++ l.fn.self

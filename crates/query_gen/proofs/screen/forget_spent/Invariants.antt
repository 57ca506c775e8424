use Rattle.query_gen.proofs.Prelude.{◌≡◌, ◌++◌, map, take, drop, without_spent}
use Rattle.query_gen.proofs.screen.forget_spent.Given as goal

abbrev pub invariant-loop-mark : goal.invariant-loop-mark
invariant-loop-mark l = l.marks ≡ map without_spent (take l.mark-index l.initial.marks) ++ drop l.mark-index l.initial.marks

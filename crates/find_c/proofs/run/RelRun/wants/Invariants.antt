use Rattle.find_c.proofs.Prelude.{◌≡◌, take, assigned, variable_count, scope_at}
use Rattle.find_c.proofs.run.RelRun.wants.Given as goal

abbrev pub invariant-loop-i : goal.invariant-loop-i
invariant-loop-i l = l.question ≡ assigned (variable_count l.lang) (scope_at l.lang l.self.scope) (take l.i l.self.tuple)

use Rattle.cert_check.proofs.Prelude.{HaveLost}
use Rattle.cert_check.proofs.told.strike.Given as goal

abbrev pub invariant-loop-s : goal.invariant-loop-s
invariant-loop-s l = HaveLost l.fn.lang l.fn.q l.s l.fn.left l.left

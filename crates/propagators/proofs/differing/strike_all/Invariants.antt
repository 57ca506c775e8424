use Rattle.propagators.proofs.Prelude.{◌≡◌, ℕ, true, Some, has, ones_of, conditions, IsValueOf}
use Rattle.propagators.proofs.Neighbours.{IsParting, IsPast, IsPastBut}
use Rattle.propagators.proofs.differing.strike_all.Given as goal

abbrev pub invariant-loop-h : goal.invariant-loop-h
invariant-loop-h l = record {
  parting : IsParting (conditions l.cons) l.plan l.fn.v l.fn.waiting l.fn.doms (Some l.x) (IsPast l.h) l.waiting l.doms;
  value : IsValueOf l.doms l.fn.v l.x;
}

abbrev pub invariant-loop-rest : goal.invariant-loop-rest
invariant-loop-rest l = record {
  parting : IsParting (conditions l.cons) l.plan l.fn.v l.fn.waiting l.fn.doms (Some l.x) (IsPastBut l.h l.rest) l.waiting l.doms;
  value : IsValueOf l.doms l.fn.v l.x;
  among : (y : ℕ) → has (ones_of l.rest) y ≡ true → has (ones_of l.beside) y ≡ true;
}

abbrev pub decreases-loop-rest : goal.decreases-loop-rest
decreases-loop-rest l = l.rest

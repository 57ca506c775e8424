use Rattle.propagators.proofs.Prelude.{◌≡◌, ℕ, true, None, has, ones_of, conditions}
use Rattle.propagators.proofs.Neighbours.{IsParting, IsPast, IsPastBut}
use Rattle.propagators.proofs.differing.look_at_neighbours.Given as goal

abbrev pub invariant-loop-h : goal.invariant-loop-h
invariant-loop-h l = record {
  parting : IsParting (conditions l.cons) l.plan l.fn.v l.fn.waiting l.fn.doms None (IsPast l.h) l.waiting l.doms;
}

abbrev pub invariant-loop-rest : goal.invariant-loop-rest
invariant-loop-rest l = record {
  parting : IsParting (conditions l.cons) l.plan l.fn.v l.fn.waiting l.fn.doms None (IsPastBut l.h l.rest) l.waiting l.doms;
  among : (y : ℕ) → has (ones_of l.rest) y ≡ true → has (ones_of l.beside) y ≡ true;
}

abbrev pub decreases-loop-rest : goal.decreases-loop-rest
decreases-loop-rest l = l.rest

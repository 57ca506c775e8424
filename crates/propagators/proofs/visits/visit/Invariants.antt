use Rattle.propagators.proofs.Prelude.{IfSome, without, conditions, IsValueOf, AreEntailed}
use Rattle.propagators.proofs.Visiting.{IsVisiting, IsBefore, IsWithout}
use Rattle.propagators.proofs.visits.visit.Given as goal

abbrev pub invariant-loop-w : goal.invariant-loop-w
invariant-loop-w l = record {
  visiting : IsVisiting (conditions l.cons) (without l.fn.changed l.fn.v) l.fn.doms (IsBefore (conditions l.cons) l.plan.briefs.items l.fn.v l.w) l.waiting l.doms;
  value : IfSome l.value (IsValueOf l.doms l.fn.v);
  entailed : AreEntailed (conditions l.cons) l.plan l.entailed l.doms;
}

abbrev pub invariant-loop-rest : goal.invariant-loop-rest
invariant-loop-rest l = record {
  visiting : IsVisiting (conditions l.cons) (without l.fn.changed l.fn.v) l.fn.doms (IsWithout (conditions l.cons) l.plan.briefs.items l.fn.v l.w l.rest) l.waiting l.doms;
  value : IfSome l.value (IsValueOf l.doms l.fn.v);
  entailed : AreEntailed (conditions l.cons) l.plan l.entailed l.doms;
}

abbrev pub decreases-loop-rest : goal.decreases-loop-rest
decreases-loop-rest l = l.rest

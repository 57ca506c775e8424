use Rattle.acq_said.proofs.Prelude.{◌≡◌, subst, sym, Result, IfOk, Opened, Saying, Ask}
use Rattle.acq_said.specs.Asks.{IsBudgeted, SaysAsked}
use Rattle.acq_said.proofs.Moved.{of_keeper}
use Rattle.acq_said.proofs.over.asked.Goals as goal

pub reduced-requires-clause-budget : goal.reduced-requires-clause-budget
reduced-requires-clause-budget g c = subst IsBudgeted c.in-Reduce.is c.requires.budget

pub certified-requires-clause-budget : goal.certified-requires-clause-budget
certified-requires-clause-budget g c κs within = subst IsBudgeted c.in-Certify.is c.requires.budget

-- what is said to this, which was asked
to_asked : {E : Type 0} (o : Opened) (asked what : Ask) (r : Result Saying E) → asked ≡ what → IfOk r (SaysAsked what o) → IfOk r (SaysAsked asked o)
to_asked o asked what r is = subst (λ (a : Ask). IfOk r (SaysAsked a o)) (sym is)

pub returns-in-Show : goal.returns-in-Show
returns-in-Show g c = to_asked (of_keeper g.P.Keep c.args.keep.now) c.args.ask _ c.shown.result c.in-Show.is c.shown.ensures

pub returns-in-Reduce : goal.returns-in-Reduce
returns-in-Reduce g c = to_asked (of_keeper g.P.Keep c.args.keep.now) c.args.ask _ c.reduced.result c.in-Reduce.is c.reduced.ensures

pub returns-in-Cnf : goal.returns-in-Cnf
returns-in-Cnf g c = to_asked (of_keeper g.P.Keep c.args.keep.now) c.args.ask _ c.printed.result c.in-Cnf.is c.printed.ensures

pub returns-in-Certify : goal.returns-in-Certify
returns-in-Certify g c = to_asked (of_keeper g.P.Keep c.args.keep.now) c.args.ask _ c.certified.result c.in-Certify.is c.certified.ensures

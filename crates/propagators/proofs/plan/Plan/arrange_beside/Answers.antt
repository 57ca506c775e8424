use Rattle.propagators.proofs.Prelude.{List, None, sym, subst, arith, Arc, arcs_of, IsPlanOf}
use Rattle.propagators.proofs.Indexed.{take_beside, length_alone, arcs_narrow, list_alone}
use Rattle.propagators.proofs.plan.Plan.arrange_beside.Goals as goal

pub extend-requires-clause-front : goal.extend-requires-clause-front
extend-requires-clause-front c =
    subst (λ (arcs : List Arc). IsPlanOf c.args.cons.now.lang.now arcs c.copy_front.new.self) (sym (take_beside c.args.cons.now.lang.now c.args.cons.now.list.now c.args.cons.now.against))
    (c.copy_front.ensures.plan c.args.cons.now.lang.now (arcs_of c.args.cons.now.lang.now c.args.cons.now.list.now None)
    (let long = length_alone c.args.cons.now.lang.now c.args.cons.now.list.now in omega arith)
    (arcs_narrow c.args.cons.now.lang.now c.args.cons.now.list.now None c.requires.lawful (list_alone c.args.cons.now.lang.now c.args.cons.now.list.now c.requires.constraints.list)) c.requires.other)

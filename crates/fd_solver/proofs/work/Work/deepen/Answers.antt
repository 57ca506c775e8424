use Rattle.fd_solver.proofs.Prelude.{length, ap, arith, Room}
use Rattle.fd_solver.proofs.work.Work.deepen.Goals as goal

pub fill-requires-clause-few : goal.fill-requires-clause-few
fill-requires-clause-few c = let few = c.n.ensures.lawful.few_variables in let is = c.n.ensures.is in omega arith

pub returns-then-len-deepest-clause-deep : goal.returns-then-len-deepest-clause-deep
returns-then-len-deepest-clause-deep c =
    let is = c.n.ensures.is in
    let size = c.self.inside.depths.ok.0 in
    let seen = ap (λ (w : Room). length w.depths) c.self.view_is in
    omega arith

pub returns-clause-deep : goal.returns-clause-deep
returns-clause-deep c =
    let is = c.n.ensures.is in
    let size = c.fill.new.depths.ok.0 in
    omega arith

use Rattle.fd_solver.proofs.Prelude.{refl, arith, ap, length, length-set, Room, conditions}
use Rattle.fd_solver.proofs.Knowing.{begun_known}
use Rattle.fd_solver.proofs.Narrowing.{begun_ready, begun_dead}
use Rattle.fd_solver.proofs.work.Work.begin.Goals as goal

pub returns-in-Yes-clause-ready : goal.returns-in-Yes-clause-ready
returns-in-Yes-clause-ready c = λ e.
    begun_ready c.args.cons.now.lang.now c.args.cons.now.list.now c.args.cons.now.against c.full-root.result c.propagate_all.new.doms c.self.inside.depths.items c.full-root.ensures.is
    (let deep = c.deepen.ensures.deep in let same = ap (λ (w : Room). length w.depths) c.self.view_is in omega arith) (c.in-Yes.ensures.alive refl)

pub returns-in-No-clause-dead : goal.returns-in-No-clause-dead
returns-in-No-clause-dead c = λ e. begun_dead c.args.cons.now.lang.now c.args.cons.now.list.now c.args.cons.now.against c.full-root.result c.full-root.ensures.is (c.in-No.ensures.dead refl)

pub returns-in-Yes-clause-deep : goal.returns-in-Yes-clause-deep
returns-in-Yes-clause-deep c =
    let deep = c.deepen.ensures.deep in
    let seen = ap (λ (w : Room). length w.depths) c.self.view_is in
    let size = length-set c.self.inside.depths.items 0 c.propagate_all.new.doms in
    omega arith

pub returns-in-Yes-clause-entailed : goal.returns-in-Yes-clause-entailed
returns-in-Yes-clause-entailed c = λ e d.
    begun_known (conditions c.args.cons.now) c.arrange.new.self c.self.inside.depths.items c.self.inside.entailed.items c.propagate_all.new.doms c.none.result d
    (let deep = c.deepen.ensures.deep in let same = c.deepen.ensures.same in let seen = ap (λ (w : Room). length w.entailed) c.self.view_is in omega arith) c.none.ensures

pub returns-in-Yes-clause-same : goal.returns-in-Yes-clause-same
returns-in-Yes-clause-same c =
    let same = c.deepen.ensures.same in
    let seen = ap (λ (w : Room). length w.depths) c.self.view_is in
    let seen_lists = ap (λ (w : Room). length w.entailed) c.self.view_is in
    let size = length-set c.self.inside.depths.items 0 c.propagate_all.new.doms in
    let lists_size = length-set c.self.inside.entailed.items 0 c.none.result in
    omega arith

use Rattle.fd_solver.proofs.Prelude.{refl, arith, ap, length, length-set, Room, conditions}
use Rattle.propagators.specs.Indexes.{all_values}
use Rattle.fd_solver.proofs.Knowing.{begun_known}
use Rattle.fd_solver.proofs.Narrowing.{begun_ready, begun_dead}
use Rattle.fd_solver.proofs.work.Work.begin_with.Goals as goal

pub returns-in-Some-clause-ready : goal.returns-in-Some-clause-ready
returns-in-Some-clause-ready c = λ e.
    begun_ready c.args.cons.now.lang.now c.args.cons.now.list.now c.args.cons.now.against (all_values c.args.cons.now.lang.now) c.in-Some.left c.self.inside.depths.items refl
    (let deep = c.deepen.ensures.deep in let same = ap (λ (w : Room). length w.depths) c.self.view_is in omega arith) c.in-Some.ensures.left

pub returns-in-None-clause-dead : goal.returns-in-None-clause-dead
returns-in-None-clause-dead c = λ e. begun_dead c.args.cons.now.lang.now c.args.cons.now.list.now c.args.cons.now.against (all_values c.args.cons.now.lang.now) refl (c.in-None.ensures.nothing refl)

pub returns-in-Some-clause-deep : goal.returns-in-Some-clause-deep
returns-in-Some-clause-deep c =
    let deep = c.deepen.ensures.deep in
    let seen = ap (λ (w : Room). length w.depths) c.self.view_is in
    let size = length-set c.self.inside.depths.items 0 c.in-Some.left in
    omega arith

pub returns-in-Some-clause-entailed : goal.returns-in-Some-clause-entailed
returns-in-Some-clause-entailed c = λ e d.
    begun_known (conditions c.args.cons.now) c.begin.new.plan c.self.inside.depths.items c.self.inside.entailed.items c.in-Some.left c.none.result d
    (let deep = c.deepen.ensures.deep in let same = c.deepen.ensures.same in let seen = ap (λ (w : Room). length w.entailed) c.self.view_is in omega arith) c.none.ensures

pub returns-in-Some-clause-same : goal.returns-in-Some-clause-same
returns-in-Some-clause-same c =
    let same = c.deepen.ensures.same in
    let seen = ap (λ (w : Room). length w.depths) c.self.view_is in
    let seen_lists = ap (λ (w : Room). length w.entailed) c.self.view_is in
    let size = length-set c.self.inside.depths.items 0 c.in-Some.left in
    let lists_size = length-set c.self.inside.entailed.items 0 c.none.result in
    omega arith

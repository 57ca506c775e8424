use Rattle.fd_solver.proofs.Prelude.{◌∙◌, [], ap, sym, subst, slice_index_or, variable_count, assigned, has_family, is_alive_in, IsReady, assigned_blank}
use Rattle.fd_solver.proofs.Alive.{alive_fronts}
use Rattle.fd_solver.proofs.Narrowing.{ready_alive}
use Rattle.fd_solver.proofs.Rows.{arranged_first}
use Rattle.fd_solver.proofs.Turning.{turn_dead}
use Rattle.fd_solver.proofs.depth_first.search.Goals as goal

pub walk-requires-clause-alive : goal.walk-requires-clause-alive
walk-requires-clause-alive c = ready_alive c.args.cons.now.lang.now c.args.cons.now.list.now c.args.cons.now.against c.args.order.now [] (slice_index_or c.begin.new.self.depths 0 [])
    (subst (λ e. IsReady c.args.cons.now.lang.now c.args.cons.now.list.now c.args.cons.now.against e (slice_index_or c.begin.new.self.depths 0 [])) (assigned_blank (variable_count c.args.cons.now.lang.now) c.args.order.now c.requires.order) (c.begin.ensures.ready c.if-begin.true))

pub walk-requires-clause-ready : goal.walk-requires-clause-ready
walk-requires-clause-ready c = arranged_first c.args.cons.now.lang.now c.args.cons.now.list.now c.args.cons.now.against c.args.order.now c.begin.new.self (c.begin.ensures.row c.if-begin.true)
    (subst (λ e. IsReady c.args.cons.now.lang.now c.args.cons.now.list.now c.args.cons.now.against e (slice_index_or c.begin.new.self.depths 0 [])) (assigned_blank (variable_count c.args.cons.now.lang.now) c.args.order.now c.requires.order) (c.begin.ensures.ready c.if-begin.true))
    (c.begin.ensures.entailed c.if-begin.true) c.begin.ensures.plan c.begin.ensures.deep c.begin.ensures.same c.begin.ensures.wide

pub returns-else-begin : goal.returns-else-begin
returns-else-begin c = sym (turn_dead c.args.cons.now.lang.now.value_count (variable_count c.args.cons.now.lang.now) (assigned (variable_count c.args.cons.now.lang.now) c.args.order.now)
    (is_alive_in c.args.cons.now.lang.now c.args.cons.now.list.now c.args.cons.now.against c.args.order.now) c.args.budget (alive_fronts c.args.cons.now.lang.now c.args.cons.now.list.now c.args.cons.now.against c.args.order.now)
    (ap (has_family c.args.cons.now.lang.now c.args.cons.now.list.now c.args.cons.now.against) (sym (assigned_blank (variable_count c.args.cons.now.lang.now) c.args.order.now c.requires.order)) ∙ c.begin.ensures.dead c.if-begin.false))

use Rattle.fd_solver.proofs.Prelude.{◌<◌, ◌∙◌, ℕ, List, length, ap, sym, subst, arith, list_all, with_member, Family, conditions, is_not_empty, AreSettled, fixed}
use Rattle.fd_solver.proofs.Narrowing.{alone_propagated, fixed_full, fixed_settled}
use Rattle.fd_solver.proofs.Knowing.{entailed_fixed}
use Rattle.fd_solver.proofs.work.narrow.Goals as goal

pub propagate_beside-requires-clause-doms : goal.propagate_beside-requires-clause-doms
propagate_beside-requires-clause-doms c = record {
  family = c.fix.ensures.family c.args.cons.now.lang.now c.requires.doms.family;
  full = (let low : c.args.v < length c.args.doms.now = (let size = c.requires.doms.family.size in let known = c.requires.known in omega arith) in
      ap (list_all is_not_empty) c.fix.ensures.is ∙ fixed_full c.args.doms.now c.args.v c.args.x low c.requires.there c.requires.doms.full);
  settled = subst (λ (f : Family). AreSettled (conditions c.args.cons.now) c.with.result f) (sym c.fix.ensures.is)
      (subst (λ (xs : List ℕ). AreSettled (conditions c.args.cons.now) xs (fixed c.args.doms.now c.args.v c.args.x)) (sym (c.with.ensures ∙ ap (λ xs. with_member xs c.args.v) c.empty.ensures))
      (fixed_settled c.args.cons.now.lang.now c.args.cons.now.list.now c.args.cons.now.against c.args.doms.now c.args.v c.args.x c.requires.lawful c.requires.constraints c.requires.consistent));
}

pub returns-in-Some-clause-alive : goal.returns-in-Some-clause-alive
returns-in-Some-clause-alive c = λ e.
    alone_propagated c.args.cons.now.lang.now (conditions c.args.cons.now) c.args.doms.now c.args.v c.args.x c.in-Some._only
    c.requires.doms c.requires.consistent c.in-Some.ensures.only c.requires.there

pub propagate_beside-requires-clause-entailed : goal.propagate_beside-requires-clause-entailed
propagate_beside-requires-clause-entailed c =
    entailed_fixed (conditions c.args.cons.now) c.args.plan.now c.args.entailed.now c.args.doms.now c.fix.new.self c.args.v c.args.x
    (let size = c.requires.doms.family.size in let known = c.requires.known in omega arith) c.fix.ensures.is c.requires.entailed

use Rattle.propagators.proofs.Prelude.{List, Some, None, Option, sym, subst, Candidate, Family, arcs_of, IsRoot, IsRootBefore}
use Rattle.propagators.proofs.Indexed.{root_before_against}
use Rattle.propagators.proofs.index.Index.narrow.Goals as goal

pub leave_more-requires-clause-before : goal.leave_more-requires-clause-before
leave_more-requires-clause-before c =
    subst (λ (against : Option Candidate). IsRootBefore c.args.cons.now.lang.now (arcs_of c.args.cons.now.lang.now c.args.cons.now.list.now against) c.scope_set-last.result c.args.root.now c.args.self.now.is_alive) (sym c.in-Some.is)
    (subst (λ (f : Family). IsRootBefore c.args.cons.now.lang.now (arcs_of c.args.cons.now.lang.now c.args.cons.now.list.now (Some c.in-Some.c)) c.scope_set-last.result f c.args.self.now.is_alive) (sym c.requires.root)
    (root_before_against c.args.cons.now.lang.now c.args.cons.now.list.now c.in-Some.c c.scope_set-last.result c.args.self.now.root c.args.self.now.is_alive c.requires.lawful
    (c.requires.constraints.against c.in-Some.c c.in-Some.is) c.scope_set-last.ensures _ c.requires.list c.requires.index.root))

pub returns-in-None : goal.returns-in-None
returns-in-None c =
    subst (λ (against : Option Candidate). IsRoot c.args.cons.now.lang.now (arcs_of c.args.cons.now.lang.now c.args.cons.now.list.now against) c.args.root.now c.args.self.now.is_alive) (sym c.in-None.is)
    (subst (λ (f : Family). IsRoot c.args.cons.now.lang.now (arcs_of c.args.cons.now.lang.now c.args.cons.now.list.now None) f c.args.self.now.is_alive) (sym c.requires.root)
    (subst (λ (xs : List Candidate). IsRoot c.args.cons.now.lang.now (arcs_of c.args.cons.now.lang.now xs None) c.args.self.now.root c.args.self.now.is_alive) c.requires.list c.requires.index.root))

pub scope_set-last-requires : goal.scope_set-last-requires
scope_set-last-requires c = (c.requires.constraints.against c.in-Some.c c.in-Some.is).scope

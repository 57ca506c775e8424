use Rattle.propagators.proofs.Prelude.{◌<◌, ◌+◌, ◌∙◌, ℕ, List, [], true, ap, length, refl, sym, subst, arith, list_any, has, union, Family, Arc, conditions, IsRevised, IsDead}
use Rattle.propagators.proofs.Rounds.{IsPassing, pass_on, pass_over, dead_before, dead_here}
use Rattle.propagators.proofs.Conditions.{arcs_small}
use Rattle.propagators.proofs.revising.pass.Goals.{then-touches+in-Some, else-touches}
use Rattle.propagators.proofs.revising.pass.Goals as goal

none : Arc
none = record { scope = []; accepted = λ tuple. true }

pub returns-in-None-clause-dead : goal.returns-in-None-clause-dead
returns-in-None-clause-dead c = λ e.
    (let low : c.loop-i.i < length (conditions c.args.cons.now) = (let all = c.count-i-end.ensures in omega arith) in
    dead_before (conditions c.args.cons.now) c.args.doms.now c.loop-i.doms c.loop-i.invariant.underway
    (dead_here (conditions c.args.cons.now) c.loop-i.doms c.loop-i.i none low (subst (λ (a : Arc). IsDead a c.loop-i.doms) (sym (c.condition-holding.ensures.is none)) (c.in-None.ensures.dead refl))))

pub loop-i-preserved : goal.loop-i-preserved
loop-i-preserved c =
    let low : c.loop-i.i < length (conditions c.args.cons.now) = (let all = c.count-i-end.ensures in omega arith) in
    let small = arcs_small c.args.cons.now.lang.now c.args.cons.now.list.now c.args.cons.now.against c.requires.lawful c.requires.constraints in
    elim c.if-touches.branch [
      | then-touches+in-Some w ↦
          subst (λ (next : List ℕ). IsPassing (conditions c.args.cons.now) c.args.changed c.args.doms.now (c.loop-i.i + 1) next c.if-touches.doms) (sym (w.next-is ∙ w.union-next.ensures))
          (subst (λ (g : Family). IsPassing (conditions c.args.cons.now) c.args.changed c.args.doms.now (c.loop-i.i + 1) (union c.loop-i.next w.in-Some.lost) g) (sym w.doms-is)
          (pass_on (conditions c.args.cons.now) c.args.changed c.args.doms.now c.loop-i.i c.loop-i.next w.in-Some.lost c.loop-i.doms w.revise.new.doms small low c.loop-i.invariant
          (λ d. subst (λ (a : Arc). IsRevised a c.loop-i.doms w.revise.new.doms) (sym (c.condition-holding.ensures.is d)) w.in-Some.ensures.revised) w.in-Some.ensures.cut))
      | else-touches w ↦
          subst (λ (next : List ℕ). IsPassing (conditions c.args.cons.now) c.args.changed c.args.doms.now (c.loop-i.i + 1) next c.if-touches.doms) (sym w.next-is)
          (subst (λ (g : Family). IsPassing (conditions c.args.cons.now) c.args.changed c.args.doms.now (c.loop-i.i + 1) c.loop-i.next g) (sym w.doms-is)
          (pass_over (conditions c.args.cons.now) c.args.changed c.args.doms.now c.loop-i.i c.loop-i.next c.loop-i.doms small c.loop-i.invariant
          (λ d. ap (λ (a : Arc). list_any (has (union c.args.changed c.loop-i.next)) a.scope) (c.condition-holding.ensures.is d)
          ∙ (λ i. list_any (has (sym c.union.ensures i)) (sym c.scope.ensures.is i)) ∙ sym c.touches.ensures ∙ w.if-touches.false)))
    ]

use Rattle.propagators.proofs.Prelude.{◌∙◌, ap, sym, subst, ℕ, List, not-true, numbers, variable_count, conditions, AreSettled, not-false}
use Rattle.propagators.proofs.Rounds.{empty_stays}
use Rattle.propagators.proofs.Conditions.{all_settled, arcs_over}
use Rattle.propagators.proofs.revising.propagate.Goals as goal

pub returns-then-has_empty-clause-dead : goal.returns-then-has_empty-clause-dead
returns-then-has_empty-clause-dead c = λ e. empty_stays (conditions c.args.cons.now) c.args.doms.now (not-true _ (sym c.has_empty.ensures ∙ c.if-has_empty.true))

pub settle-requires-clause-doms : goal.settle-requires-clause-doms
settle-requires-clause-doms c = record {
  family = c.requires.family;
  full = not-false _ (sym c.has_empty.ensures ∙ c.if-has_empty.false);
  settled = subst (λ (xs : List ℕ). AreSettled (conditions c.args.cons.now) xs c.args.doms.now) (sym (c.of.ensures ∙ c.all.ensures ∙ ap numbers c.n.ensures.is))
      (all_settled (conditions c.args.cons.now) (variable_count c.args.cons.now.lang.now) c.args.doms.now (arcs_over c.args.cons.now.lang.now c.args.cons.now.list.now c.args.cons.now.against c.n.ensures.lawful c.requires.constraints));
}

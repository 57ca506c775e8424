use Rattle.propagators.proofs.Prelude.{◌∙◌, sym, not-true, conditions, not-false}
use Rattle.propagators.proofs.Rounds.{empty_stays}
use Rattle.propagators.proofs.visits.propagate_all.Goals as goal

pub returns-then-has_empty-clause-dead : goal.returns-then-has_empty-clause-dead
returns-then-has_empty-clause-dead c = λ e. empty_stays (conditions c.args.cons.now) c.args.doms.now (not-true _ (sym c.has_empty.ensures ∙ c.if-has_empty.true))

pub first_changed-changed-requires-clause-doms : goal.first_changed-changed-requires-clause-doms
first_changed-changed-requires-clause-doms c = record {
  family = c.requires.family;
  full = not-false _ (sym c.has_empty.ensures ∙ c.if-has_empty.false);
}

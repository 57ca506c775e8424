use Rattle.multi_tree.proofs.Prelude.{sym, ◌∙◌, ap, subst, IsQuestion, violates_some, part_is_question}
use Rattle.multi_tree.proofs.taking.is_struck_within.Goals as goal

pub strikes_any-requires-clause-question : goal.strikes_any-requires-clause-question
strikes_any-requires-clause-question c =
    subst (IsQuestion c.args.lang.now) (sym c.restrict.ensures) (part_is_question c.args.lang.now c.args.example.now c.args.set c.requires.question)

pub returns : goal.returns
returns c = c.strikes_any.ensures ∙ ap (violates_some c.args.lang.now c.args.kept.now.members) c.restrict.ensures

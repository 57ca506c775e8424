use Rattle.session_core.proofs.Prelude.{◌≡◌, not, sym, ◌∙◌, ap, subst, restrict, IsQuestion, violates_some, part_is_question, is_quiet_at}
use Rattle.session_core.proofs.halving.quiet_run.Goals as goal
use Rattle.session_core.proofs.halving.quiet_run.Goals.{After-strikes_any}

pub strikes_any-requires-clause-question : goal.strikes_any-requires-clause-question
strikes_any-requires-clause-question c =
    subst (IsQuestion c.args.lang.now) (sym c.restrict.ensures) (part_is_question c.args.lang.now c.args.e.now c.wants.result c.requires.question)

-- whether the part is quiet
quiet_is : (c : After-strikes_any) → is_quiet_at c.args.lang.now c.args.kept.now.members c.args.e.now c.args.next ≡ not c.strikes_any.result
quiet_is c =
    let l = c.args.lang.now in
    let live = c.args.kept.now.members in
    ap (is_quiet_at l live c.args.e.now) c.in-Wants.is
    ∙ ap (λ w. not (violates_some l live (restrict c.args.e.now w))) (sym c.wants.ensures.is)
    ∙ ap (λ q. not (violates_some l live q)) (sym c.restrict.ensures)
    ∙ ap not (sym c.strikes_any.ensures)

pub returns-then-strikes_any-clause-is_other : goal.returns-then-strikes_any-clause-is_other
returns-then-strikes_any-clause-is_other c = quiet_is (goal.at.returns-then-strikes_any-clause-is_other c).After-strikes_any ∙ ap not c.if-strikes_any.true

pub returns-else-strikes_any-clause-is_quiet : goal.returns-else-strikes_any-clause-is_quiet
returns-else-strikes_any-clause-is_quiet c = quiet_is (goal.at.returns-else-strikes_any-clause-is_quiet c).After-strikes_any ∙ ap not c.if-strikes_any.false

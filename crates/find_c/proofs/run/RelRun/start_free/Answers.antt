use Rattle.find_c.proofs.Prelude.{[], sym, ◌∙◌, subst, All, IsChoiceOn, LeavesChoices, RelStandsFor}
use Rattle.find_c.proofs.Marks.{free_is_some}
use Rattle.find_c.proofs.Starting.{free_marked, free_known}
use Rattle.find_c.proofs.run.RelRun.start_free.Goals as goal

pub settle-requires-clause-known : goal.settle-requires-clause-known
settle-requires-clause-known c =
    subst (λ cs. All (IsChoiceOn c.args.lang.now c.args.s) cs) (sym (c.new.ensures ∙ free_marked c.args.kept.now.members c.args.s c.on_scope.result c.on_scope.ensures))
    (free_known c.args.lang.now c.args.s c.args.kept.now.members c.requires.made.known)

pub returns-clause-settled : goal.returns-clause-settled
returns-clause-settled c =
    subst (λ cs. LeavesChoices c.args.lang.now c.args.s cs c.settle.result) (c.new.ensures ∙ free_marked c.args.kept.now.members c.args.s c.on_scope.result c.on_scope.ensures) c.settle.ensures.settled

pub returns-clause-stands : goal.returns-clause-stands
returns-clause-stands c =
    subst (λ cs. RelStandsFor c.settle.result c.args.lang.now c.args.s cs []) (c.new.ensures ∙ free_marked c.args.kept.now.members c.args.s c.on_scope.result c.on_scope.ensures) c.settle.ensures.stands

pub returns-clause-some : goal.returns-clause-some
returns-clause-some c = λ nothing. free_is_some c.on_scope.result (sym c.new.ensures ∙ c.settle.ensures.nothing.0 nothing)

use Rattle.find_c.proofs.Prelude.{sym, subst, ◌&&◌, ◌==◌, All, violates, IsChoiceOn, LeavesChoices}
use Rattle.std.proofs.Common.{filter}
use Rattle.find_c.proofs.Starting.{violated_known, not_free}
use Rattle.find_c.proofs.run.RelRun.start.Goals as goal

pub settle-requires-clause-known : goal.settle-requires-clause-known
settle-requires-clause-known c =
    subst (λ cs. All (IsChoiceOn c.args.lang.now c.args.s) cs) (sym c.violated_choices.ensures) (violated_known c.args.lang.now c.args.e.now c.args.s c.args.kept.now.members c.requires.made.known)

pub returns-clause-no_free : goal.returns-clause-no_free
returns-clause-no_free c =
    not_free c.args.lang.now c.args.s (filter (λ x. (x.scope == c.args.s) && violates c.args.lang.now x c.args.e.now) c.args.kept.now.members) c.settle.result
    (subst (λ cs. LeavesChoices c.args.lang.now c.args.s cs c.settle.result) c.violated_choices.ensures c.settle.ensures.settled)

use Rattle.session_core.proofs.Prelude.{sym, ◌∙◌, ap}
use Rattle.session_core.proofs.Scoped.{none_undecided, new_run}
use Rattle.session_core.proofs.scopes.run_on.Goals as goal
use Rattle.assign.specs.Sets.{ones_of}
use Rattle.assign.proofs.Ones.{no_ones, ones_of-zero}

pub returns-then-on_scope-eq0 : goal.returns-then-on_scope-eq0
returns-then-on_scope-eq0 c = λ network unlearned. none_undecided c.args.lang.now c.args.kept.now.members network c.args.s (sym c.on_scope.ensures ∙ ap ones_of c.if-on_scope-eq0.true ∙ ones_of-zero)

pub returns-in-Wants : goal.returns-in-Wants
returns-in-Wants c = λ network unlearned.
    new_run c.args.lang.now c.args.kept.now.members network c.args.s c.in-Wants.run' unlearned
    (λ none. c.if-on_scope-eq0.false (no_ones c.on_scope.result c.on_scope.type_inv (c.on_scope.ensures ∙ none))) c.in-Wants.ensures.settled

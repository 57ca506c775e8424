use Rattle.propagators.proofs.Prelude.{◌∙◌, sym, ap, arith, length, not-true, variable_count, not-false}
use Rattle.propagators.proofs.Conditions.{supported_here, sets_below, found_within, revised_here, dead_here, scope_different}
use Rattle.propagators.proofs.revising.revise.Goals as goal

pub supported-found-requires : goal.supported-found-requires
supported-found-requires c = record {
  sets = sets_below c.args.lang.now c.args.c c.args.holding c.table_on.result.now c.args.doms.now c.scope-scope.result.now c.on.result c.on.result c.scope-scope.ensures.is c.on.ensures c.requires.family
      c.table_on.result.now.value_count c.table_on.result.now.arity c.table_on.ensures.values (c.table_on.ensures.arity ∙ ap length (sym c.scope-scope.ensures.is));
}

pub returns-then-is_empty-clause-dead : goal.returns-then-is_empty-clause-dead
returns-then-is_empty-clause-dead c = λ none.
    dead_here c.args.lang.now c.args.c c.args.holding c.table_on.result.now c.args.doms.now c.scope-scope.result.now c.on.result c.supported-found.result c.scope-scope.ensures.is c.on.ensures c.requires.lawful c.requires.candidate c.requires.family
    c.supported-found.ensures.size c.scope-scope.ensures.scope.short
    (supported_here c.args.lang.now c.args.c c.args.holding c.table_on.result.now c.args.doms.now c.scope-scope.result.now c.on.result c.supported-found.result c.scope-scope.ensures.is c.on.ensures
    c.table_on.ensures.arity c.table_on.ensures.values c.table_on.ensures.agrees c.requires.family c.supported-found.ensures.is)
    (not-true _ (sym c.is_empty.ensures ∙ c.if-is_empty.true))

pub cut_all-requires-clause-few : goal.cut_all-requires-clause-few
cut_all-requires-clause-few c = (let size = c.requires.family.size in let few = c.requires.lawful.few_variables in omega arith)

pub cut_all-requires-clause-different : goal.cut_all-requires-clause-different
cut_all-requires-clause-different c = scope_different (variable_count c.args.lang.now) c.scope-scope.result.now c.requires.lawful.few_variables c.scope-scope.ensures.scope

pub cut_all-requires-clause-within : goal.cut_all-requires-clause-within
cut_all-requires-clause-within c =
    found_within c.args.lang.now c.args.c c.args.holding c.table_on.result.now c.args.doms.now c.scope-scope.result.now c.on.result c.supported-found.result c.scope-scope.ensures.is c.on.ensures
    c.supported-found.ensures.size c.scope-scope.ensures.scope.short
    (supported_here c.args.lang.now c.args.c c.args.holding c.table_on.result.now c.args.doms.now c.scope-scope.result.now c.on.result c.supported-found.result c.scope-scope.ensures.is c.on.ensures
    c.table_on.ensures.arity c.table_on.ensures.values c.table_on.ensures.agrees c.requires.family c.supported-found.ensures.is)

pub returns-clause-revised : goal.returns-clause-revised
returns-clause-revised c =
    revised_here c.args.lang.now c.args.c c.args.holding c.table_on.result.now c.args.doms.now c.scope-scope.result.now c.on.result c.supported-found.result c.scope-scope.ensures.is c.on.ensures c.requires.lawful c.requires.candidate c.requires.family
    c.supported-found.ensures.size c.scope-scope.ensures.scope.short
    (supported_here c.args.lang.now c.args.c c.args.holding c.table_on.result.now c.args.doms.now c.scope-scope.result.now c.on.result c.supported-found.result c.scope-scope.ensures.is c.on.ensures
    c.table_on.ensures.arity c.table_on.ensures.values c.table_on.ensures.agrees c.requires.family c.supported-found.ensures.is)
    (not-false _ (sym c.is_empty.ensures ∙ c.if-is_empty.false)) c.cut_all.new.doms c.cut_all.ensures.is

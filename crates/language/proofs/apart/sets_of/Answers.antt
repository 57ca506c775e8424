use Rattle.language.proofs.Prelude.{subst, sym, All-get_or, IsSet, variables_in}
use Rattle.language.proofs.apart.sets_of.Goals as goal
use Rattle.shared_lemmas.proofs.Lists.{all_of_map}

pub set_of-requires : goal.set_of-requires
set_of-requires c =
    subst IsSet (sym c.as_slice.ensures.is)
    (All-get_or (λ scope. IsSet (variables_in scope)) c.args.scopes.now c.loop-scope.scope-index _ c.loop-scope-test.true (all_of_map IsSet variables_in c.args.scopes.now c.requires.sets))

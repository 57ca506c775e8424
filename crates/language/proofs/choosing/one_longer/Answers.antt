use Rattle.language.proofs.Prelude.{◌<◌, All, All-get_or, variables_in}
use Rattle.language.proofs.choosing.one_longer.Goals as goal
use Rattle.shared_lemmas.proofs.Lists.{all_of_map}

pub with_longer-requires-clause-known : goal.with_longer-requires-clause-known
with_longer-requires-clause-known c =
    All-get_or (λ scope. All (λ v. v < c.args.n) (variables_in scope)) c.args.scopes.now c.loop-scope.scope-index _ c.loop-scope-test.true
    (all_of_map (All (λ v. v < c.args.n)) variables_in c.args.scopes.now c.requires.known)

use Rattle.acq_cli.proofs.Prelude.{List, [], ap, codes, saying, ℕ, ◌++◌, ◌∙◌, ◌∷◌}
use Rattle.std.specs.Fmt.{decimal}
use Rattle.acq_loop.specs.declared.ending.Ending.TheVariants as ending
use Rattle.acq_cli.proofs.demo.made.Goals as goal

pub returns-clause-says : goal.returns-clause-says
returns-clause-says c =
    c.new.ensures ∙ ap (λ (text : List ℕ). saying text ending.Done)
    (c.in-Ok.ensures.ok
    ∙ (λ i. codes "demo " ++ (decimal c.args.number ++ (codes " variables " ++ (decimal (c.n-variables.ensures.is i) ++ (codes " scopes " ++ (decimal (c.scopes-scopes.ensures.is i) ++ (codes " candidates " ++ (decimal (c.candidates-candidates.ensures.is i) ++ 10 ∷ [])))))))))

use Rattle.target_oracle.proofs.Prelude.{◌≡◌, true, List, sym, subst, Candidate, accepts, hidden}
use Rattle.target_oracle.proofs.Draws.{is_question, is_solution}
use Rattle.target_oracle.proofs.generator.generate.Goals as goal

pub target-requires : goal.target-requires
target-requires c = is_question c.args.number c.in_ok-lang.lang c.in_ok-lang.ensures

pub returns-clause-question : goal.returns-clause-question
returns-clause-question c = is_question c.args.number c.in_ok-lang.lang c.in_ok-lang.ensures

pub returns-clause-solved : goal.returns-clause-solved
returns-clause-solved c =
    subst (λ (list : List Candidate). accepts c.in_ok-lang.lang list (hidden c.args.number) ≡ true) (sym c.in_ok-net.ensures.is) (is_solution c.args.number c.in_ok-lang.lang)

pub returns-clause-language : goal.returns-clause-language
returns-clause-language c = c.in_ok-lang.ensures

pub returns-clause-target : goal.returns-clause-target
returns-clause-target c = c.in_ok-net.ensures.is

pub returns-clause-network : goal.returns-clause-network
returns-clause-network c = c.in_ok-net.ensures.network

pub returns-clause-scopes : goal.returns-clause-scopes
returns-clause-scopes c = c.in_ok-net.ensures.scopes

use Rattle.voc_read.proofs.Prelude.{◌≡◌, ◌<◌, ℕ, List, Bor, length, ap, subst, ◌∙◌, All, length-map, items_view, texts_of}
use Rattle.voc_read.proofs.ScopeSteps.{variables}
use Rattle.voc_read.proofs.KnownScopes.{known}
use Rattle.voc_read.proofs.scopes.scopes_of.Goals as goal

pub returns-in_ok-scopes-in-Some-clause-known : goal.returns-in_ok-scopes-in-Some-clause-known
returns-in_ok-scopes-in-Some-clause-known c =
    let count : length (texts_of c.in_ok-numbers-in-Some.numbers.keys) ≡ length c.args.names.now =
    ap length c.in_ok-numbers-in-Some.ensures ∙ length-map c.args.names.now (λ (name : Bor (List ℕ)). name.now) in
    subst (λ n. All (All (λ v. v < n)) (variables c.in_ok-scopes-in-Some.scopes.items)) count (known (texts_of c.in_ok-numbers-in-Some.numbers.keys) (items_view c.in-Some.list.now) _ c.in_ok-scopes-in-Some.ensures.is)

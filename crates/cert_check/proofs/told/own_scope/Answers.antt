use Rattle.cert_check.proofs.Prelude.{◌≡◌, length, None, sym, ◌∙◌, ap, subst, arith, IfSome, variables_of, Answer, scope_at, scope_number}
use Rattle.cert_check.proofs.ByScope.{about_found, only_scope, too_many}
use Rattle.cert_check.proofs.told.own_scope.Goals as goal

pub returns-then-len-gt-MOST_IN_SCOPE-clause-only : goal.returns-then-len-gt-MOST_IN_SCOPE-clause-only
returns-then-len-gt-MOST_IN_SCOPE-clause-only c =
    let asked : c.vars-vars.result ≡ variables_of c.args.entry.now.question = c.vars-vars.ensures ∙ ap (λ (a : Answer). variables_of a.question) c.entry.view_is in
    let count = c.len.ensures.count in
    let many = c.if-len-gt-MOST_IN_SCOPE.true in
    let same : length c.vars-vars.result ≡ length (variables_of c.args.entry.now.question) = ap length asked in
    too_many c.args.lang.now c.requires c.args.entry.now None (omega (arith, count, many, same))

pub returns-clause-about : goal.returns-clause-about
returns-clause-about c =
    let asked : c.vars-vars.result ≡ variables_of c.args.entry.now.question = c.vars-vars.ensures ∙ ap (λ (a : Answer). variables_of a.question) c.entry.view_is in
    about_found c.args.lang.now c.requires c.args.entry.now c.scope_of.result (ap (λ (a : Answer). a.yes) (sym c.entry.view_is) ∙ c.if-entry.false)
    (subst (λ w. IfSome c.scope_of.result (λ s. scope_at c.args.lang.now s ≡ w)) asked c.scope_of.ensures.scope)

pub returns-clause-only : goal.returns-clause-only
returns-clause-only c =
    let asked : c.vars-vars.result ≡ variables_of c.args.entry.now.question = c.vars-vars.ensures ∙ ap (λ (a : Answer). variables_of a.question) c.entry.view_is in
    only_scope c.args.lang.now c.requires c.args.entry.now c.scope_of.result (c.scope_of.ensures.is ∙ ap (scope_number c.args.lang.now) asked)
    c.scope_of.ensures.known (subst (λ w. IfSome c.scope_of.result (λ s. scope_at c.args.lang.now s ≡ w)) asked c.scope_of.ensures.scope)

use Rattle.language.proofs.Prelude.{◌∙◌, ap, sym, map, subst, All, IsSet, given_by, variables_in, listed_in, scopes_of, scope_list_refusal}
use Rattle.language.proofs.Lawful.{are_sets, known_in, sound}
use Rattle.language.proofs.scopes.stated_scopes.Goals as goal

pub sets_of-requires-clause-sets : goal.sets_of-requires-clause-sets
sets_of-requires-clause-sets c =
    let given = map given_by c.args.rels.now in
    let listed = listed_in c.args.part in
    subst (All IsSet) (sym (ap (map variables_in) c.deref.ensures.value ∙ c.in_ok-scopes.ensures.is))
    (are_sets c.args.n (scopes_of c.args.n given listed) c.requires.few c.in_ok-scopes.ensures.ordered (known_in c.args.n given listed c.requires.known))

pub returns-clause-sound : goal.returns-clause-sound
returns-clause-sound c =
    let given = map given_by c.args.rels.now in
    let listed = listed_in c.args.part in
    sound c.args.n given (scopes_of c.args.n given listed) c.in_ok-scopes.scopes.items c.in_ok-scopes.ensures.is c.in_ok-scopes.ensures.few c.in_ok-scopes.ensures.sized
    c.in_ok-scopes.ensures.ordered (known_in c.args.n given listed c.requires.known)
    (sym (ap (scope_list_refusal given) (c.deref-2.ensures.value ∙ c.in_ok-sets.ensures ∙ ap (map variables_in) c.deref.ensures.value ∙ c.in_ok-scopes.ensures.is)) ∙ sym c.refusal_of.ensures ∙ c.in-None.is)

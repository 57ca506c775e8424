use Rattle.bias_store.proofs.Prelude.{◌≡◌, ◌<◌, ◌≤◌, length, ◌∙◌, ap, sym, arith, ones_of, ones_of-zero, KeptSet, kept_relations}
use Rattle.bias_store.proofs.Members.{relations_at}
use Rattle.bias_store.proofs.kept.Kept.first_kept.Goals as goal

pub returns-clause-none : goal.returns-clause-none
returns-clause-none c = λ s from below.
    let scopes = ap (λ (k : KeptSet). k.scopes) c.self.view_is in
    let known = c.requires.known in
    let within = c.next_some.ensures.within in
    sym (ap (λ (k : KeptSet). kept_relations k.members s) c.self.view_is) ∙ relations_at c.self.inside.relations s (omega arith) ∙ ap ones_of (c.next_some.ensures.none s from below) ∙ ones_of-zero

pub returns-clause-some : goal.returns-clause-some
returns-clause-some c = λ low none.
    let scopes = ap (λ (k : KeptSet). k.scopes) c.self.view_is in
    let known = c.requires.known in
    c.next_some.ensures.some low
    (sym (relations_at c.self.inside.relations c.next_some.result (omega arith)) ∙ ap (λ (k : KeptSet). kept_relations k.members c.next_some.result) c.self.view_is ∙ none)

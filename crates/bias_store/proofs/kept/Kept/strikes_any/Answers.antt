use Rattle.bias_store.proofs.Prelude.{◌∙◌, ap, length, list_any, violates, KeptSet}
use Rattle.bias_store.proofs.Striking.{found_or_none}
use Rattle.bias_store.proofs.kept.Kept.strikes_any.Goals as goal

pub returns : goal.returns
returns c =
    let l = c.args.lang.now in
    let q = c.args.q.now in
    let found = c.next_violated-found.ensures in
    c.is_some.ensures
    ∙ found_or_none l q c.self.inside.relations c.next_violated-found.result (ap (λ (k : KeptSet). k.scopes) c.self.view_is ∙ c.requires.made.scopes) found.found found.none
    ∙ ap (λ (k : KeptSet). list_any (λ b. violates l b q) k.members) c.self.view_is

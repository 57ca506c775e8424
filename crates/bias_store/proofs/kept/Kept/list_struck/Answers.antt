use Rattle.bias_store.proofs.Prelude.{◌≡◌, true, sym, ◌∙◌, ap, subst, KeptSet, is_struck_within}
use Rattle.bias_store.proofs.Within.{struck_some, struck_all_within}
use Rattle.bias_store.proofs.kept.Kept.list_struck.Goals as goal

pub returns-clause-room : goal.returns-clause-room
returns-clause-room c = c.list_violated.ensures.room

pub returns-clause-some : goal.returns-clause-some
returns-clause-some c = λ w any.
    let l = c.args.lang.now in
    let q = c.args.q.now in
    let masks = c.self.inside.relations in
    subst (λ (k : KeptSet). is_struck_within l k.members q w ≡ true) c.self.view_is
    (struck_some l q masks w c.list_violated.new.sets c.list_violated.result.0 c.list_violated.result.1 (ap (λ (k : KeptSet). k.scopes) c.self.view_is ∙ c.requires.made.scopes) c.list_violated.ensures any)

pub returns-clause-all : goal.returns-clause-all
returns-clause-all c = λ whole w struck.
    let l = c.args.lang.now in
    let q = c.args.q.now in
    let masks = c.self.inside.relations in
    struck_all_within l q masks w c.list_violated.new.sets c.list_violated.result.0 c.list_violated.result.1 (ap (λ (k : KeptSet). k.scopes) c.self.view_is ∙ c.requires.made.scopes) c.list_violated.ensures whole
    (subst (λ (k : KeptSet). is_struck_within l k.members q w ≡ true) (sym c.self.view_is) struck)

use Rattle.bias_store.proofs.Prelude.{◌<◌, ◌∙◌, ap, sym, arith, length, ones_of, KeptSet, kept_relations}
use Rattle.bias_store.proofs.Members.{relations_at}
use Rattle.bias_store.proofs.kept.Kept.on_scope.Goals as goal

pub returns : goal.returns
returns c =
    let masks = c.self.inside.relations in
    let long = ap (λ (k : KeptSet). k.scopes) c.self.view_is in
    let low : c.args.s < length masks = omega arith in
    ap ones_of c.on.ensures ∙ sym (relations_at masks c.args.s low) ∙ ap (λ (k : KeptSet). kept_relations k.members c.args.s) c.self.view_is

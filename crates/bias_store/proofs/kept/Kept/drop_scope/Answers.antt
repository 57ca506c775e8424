use Rattle.bias_store.proofs.Prelude.{◌≡◌, ◌<◌, length, not, ◌∙◌, ap, sym, arith, ◌==◌, slice_set, filter, length-set, KeptSet, members_from}
use Rattle.bias_store.proofs.Struck.{dropped, dropped_count, made_still}
use Rattle.bias_store.proofs.kept.Kept.drop_scope.Goals as goal

pub overflow_sub-self : goal.overflow_sub-self
overflow_sub-self c =
    let masks = c.self.inside.relations in
    let scopes = ap (λ (k : KeptSet). k.scopes) c.self.view_is in
    let low : c.args.s < length masks = omega arith in
    (dropped_count masks c.args.s c.on-dropped.result c.relation_count.result c.self.inside.count low c.on-dropped.ensures c.relation_count.ensures c.self.invariant).0

pub invariant_of-self : goal.invariant_of-self
invariant_of-self c =
    let masks = c.self.inside.relations in
    let scopes = ap (λ (k : KeptSet). k.scopes) c.self.view_is in
    let low : c.args.s < length masks = omega arith in
    (dropped_count masks c.args.s c.on-dropped.result c.relation_count.result c.self.inside.count low c.on-dropped.ensures c.relation_count.ensures c.self.invariant).1
    ∙ ap (λ ms. length (members_from 0 ms)) (sym c.set.ensures)

left : (c : goal.After-self-1) → members_from 0 c.set.new.self ≡ filter (λ b. not (c.args.s == b.scope)) c.args.self.now.members
left c =
    let masks = c.self.inside.relations in
    let scopes = ap (λ (k : KeptSet). k.scopes) c.self.view_is in
    ap (members_from 0) c.set.ensures ∙ dropped masks c.args.s (omega arith)
    ∙ ap (λ (k : KeptSet). filter (λ b. not (c.args.s == b.scope)) k.members) c.self.view_is

pub returns-clause-kept : goal.returns-clause-kept
returns-clause-kept c = left c

scopes : (c : goal.After-self-1) → length c.set.new.self ≡ c.args.self.now.scopes
scopes c = ap length c.set.ensures ∙ length-set c.self.inside.relations c.args.s 0 ∙ ap (λ (k : KeptSet). k.scopes) c.self.view_is

pub returns-clause-scopes : goal.returns-clause-scopes
returns-clause-scopes c = scopes c

pub returns-clause-made : goal.returns-clause-made
returns-clause-made c = λ l made. made_still l c.args.self.now _ (λ b. not (c.args.s == b.scope)) made (scopes c) (left c) (ap (λ (k : KeptSet). k.accepting) c.self.view_is)

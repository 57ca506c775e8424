use Rattle.bias_store.proofs.Prelude.{◌≡◌, ◌-◌, ◌<◌, List, ℕ, length, not, ◌∙◌, ap, subst, sym, arith, slice_set, bit_and, filter, bit_not, w64, violates, KeptSet, members_from}
use Rattle.bias_store.proofs.Runs.{open_elsewhere}
use Rattle.bias_store.proofs.Struck.{IsStruck, enough_alone, struck_alone, struck_all, made_still}
use Rattle.bias_store.proofs.kept.Kept.strike_on.Goals as goal

pub overflow_sub-self : goal.overflow_sub-self
overflow_sub-self c =
    let old = c.self.inside.relations in
    let scopes = ap (λ (k : KeptSet). k.scopes) c.self.view_is in
    let made = c.requires.made.scopes in
    let low : c.args.s < length old = omega arith in
    enough_alone (λ b. violates c.args.lang.now b c.args.q.now) old c.args.s c.self.inside.count c.on-relations.result c.violated_on-struck.result c.relation_count.result c.self.invariant low
    c.on-relations.ensures c.violated_on-struck.type_inv c.violated_on-struck.ensures c.relation_count.ensures
    (open_elsewhere c.args.lang.now c.args.s c.args.q.now (length old) (omega arith) c.requires.alone)

struck : (c : goal.After-self-1) → IsStruck (λ b. violates c.args.lang.now b c.args.q.now) c.self.inside.relations c.set.new.self (length c.self.inside.relations) c.self.inside.count (c.self.inside.count - c.relation_count.result)
struck c =
    let old = c.self.inside.relations in
    let scopes = ap (λ (k : KeptSet). k.scopes) c.self.view_is in
    let made = c.requires.made.scopes in
    let low : c.args.s < length old = omega arith in
    subst (λ (masks : List ℕ). IsStruck (λ b. violates c.args.lang.now b c.args.q.now) old masks (length old) c.self.inside.count (c.self.inside.count - c.relation_count.result)) (sym c.set.ensures)
    (struck_alone (λ b. violates c.args.lang.now b c.args.q.now) old c.args.s c.self.inside.count c.on-relations.result c.violated_on-struck.result c.relation_count.result c.self.invariant low
    c.on-relations.ensures c.violated_on-struck.type_inv c.violated_on-struck.ensures c.relation_count.ensures
    (open_elsewhere c.args.lang.now c.args.s c.args.q.now (length old) (omega arith) c.requires.alone))

pub invariant_of-self : goal.invariant_of-self
invariant_of-self c = (struck c).counted

left : (c : goal.After-self-1) → members_from 0 c.set.new.self ≡ filter (λ b. not (violates c.args.lang.now b c.args.q.now)) c.args.self.now.members
left c =
    struck_all (λ b. violates c.args.lang.now b c.args.q.now) c.self.inside.relations _ (length c.self.inside.relations) c.self.inside.count (c.self.inside.count - c.relation_count.result) (struck c) (omega arith)
    ∙ ap (λ (k : KeptSet). filter (λ b. not (violates c.args.lang.now b c.args.q.now)) k.members) c.self.view_is

pub returns-clause-kept : goal.returns-clause-kept
returns-clause-kept c = left c

pub returns-clause-made : goal.returns-clause-made
returns-clause-made c = made_still c.args.lang.now c.args.self.now _ (λ b. not (violates c.args.lang.now b c.args.q.now)) c.requires.made
    ((struck c).long ∙ ap (λ (k : KeptSet). k.scopes) c.self.view_is) (left c) (ap (λ (k : KeptSet). k.accepting) c.self.view_is)

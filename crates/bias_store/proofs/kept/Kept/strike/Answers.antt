use Rattle.bias_store.proofs.Prelude.{◌≡◌, ℕ, ◌+◌, ◌-◌, ◌<◌, not, length, ◌∙◌, ap, subst, sym, arith, List, filter, violates, KeptSet, members_from}
use Rattle.bias_store.proofs.Struck.{IsStruck, made_still}
use Rattle.bias_store.proofs.Striking.{enough_found, struck_found, struck_rest}
use Rattle.bias_store.proofs.kept.Kept.strike.Goals as goal

pub on-requires : goal.on-requires
on-requires c =
    let all : length c.self.inside.relations ≡ length c.args.lang.now.scopes = ap (λ (k : KeptSet). k.scopes) c.self.view_is ∙ c.requires.made.scopes in
    let long = c.loop-found.invariant.struck.long in
    let within = c.in-Some.ensures.found.within in
    omega arith

pub overflow_sub-self : goal.overflow_sub-self
overflow_sub-self c =
    let all : length c.self.inside.relations ≡ length c.args.lang.now.scopes = ap (λ (k : KeptSet). k.scopes) c.self.view_is ∙ c.requires.made.scopes in
    enough_found c.args.lang.now c.args.q.now c.self.inside.relations c.loop-found.self-inside.relations c.loop-found.from c.self.inside.count c.loop-found.self-inside.count c.on.result c.relation_count.result c.in-Some.found all
    c.loop-found.invariant.struck c.in-Some.ensures.found c.on.ensures c.relation_count.ensures

pub overflow_add-from : goal.overflow_add-from
overflow_add-from c =
    let within = c.in-Some.ensures.found.within in
    let few = c.in-Some.ensures.found.lawful.few_scopes in
    omega (arith, within, few)

pub loop-found-preserved : goal.loop-found-preserved
loop-found-preserved c =
    let l = c.args.lang.now in
    let all : length c.self.inside.relations ≡ length l.scopes = ap (λ (k : KeptSet). k.scopes) c.self.view_is ∙ c.requires.made.scopes in
    let within = c.in-Some.ensures.found.within in
    record {
      struck = subst (λ (masks : List ℕ). IsStruck (λ b. violates l b c.args.q.now) c.self.inside.relations masks (c.in-Some.found.scope + 1) c.self.inside.count (c.loop-found.self-inside.count - c.relation_count.result)) (sym c.set.ensures)
          (struck_found l c.args.q.now c.self.inside.relations c.loop-found.self-inside.relations c.loop-found.from c.self.inside.count c.loop-found.self-inside.count c.on.result c.relation_count.result c.in-Some.found all
          c.loop-found.invariant.struck c.in-Some.ensures.found c.on.ensures c.relation_count.ensures);
      within = omega arith;
      tables = c.loop-found.invariant.tables;
    }

struck : (c : goal.In_default) → members_from 0 c.loop-found.self-inside.relations ≡ filter (λ b. not (violates c.args.lang.now b c.args.q.now)) c.args.self.now.members
struck c =
    let all : length c.self.inside.relations ≡ length c.args.lang.now.scopes = ap (λ (k : KeptSet). k.scopes) c.self.view_is ∙ c.requires.made.scopes in
    struck_rest c.args.lang.now c.args.q.now c.self.inside.relations c.loop-found.self-inside.relations c.loop-found.from c.self.inside.count c.loop-found.self-inside.count all
    c.loop-found.invariant.within c.loop-found.invariant.struck c.in_default.ensures.none
    ∙ ap (λ (k : KeptSet). filter (λ b. not (violates c.args.lang.now b c.args.q.now)) k.members) c.self.view_is

pub returns-clause-kept : goal.returns-clause-kept
returns-clause-kept c = struck c

pub returns-clause-made : goal.returns-clause-made
returns-clause-made c = made_still c.args.lang.now c.args.self.now _ (λ b. not (violates c.args.lang.now b c.args.q.now)) c.requires.made (c.loop-found.invariant.struck.long ∙ ap (λ (k : KeptSet). k.scopes) c.self.view_is) (struck c)
    (c.loop-found.invariant.tables ∙ ap (λ (k : KeptSet). k.accepting) c.self.view_is)

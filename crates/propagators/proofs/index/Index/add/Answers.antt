use Rattle.propagators.proofs.Prelude.{◌≡◌, ◌∙◌, ◌+◌, List, length, take, None, ap, sym, subst, arith, with_items, with_items_is, Candidate, IsNetwork, arcs_of, IsPlanOf, IsRoot}
use Rattle.propagators.proofs.Indexed.{listed}
use Rattle.propagators.proofs.index.Index.add.Goals as goal
use Rattle.propagators.proofs.index.Index.add.Goals.{After-copy_front}

same : (c : After-copy_front) → take (c.args.self.now.size + 1) (with_items c.args.self.now.list c.copy_front.new.to).items ≡ c.args.list.now
same c =
    let items : (with_items c.args.self.now.list c.copy_front.new.to).items ≡ c.copy_front.new.to = with_items_is c.args.self.now.list c.copy_front.new.to (c.copy_front.auto.to ∙ ap length c.deref_mut.ensures.value ∙ sym c.args.self.now.list.ok.0) in
    let long : length c.copy_front.new.to ≡ length c.args.self.now.list.items = c.copy_front.auto.to ∙ ap length c.deref_mut.ensures.value in
    let one = c.requires.one in
    ap (take (c.args.self.now.size + 1)) items
    ∙ listed c.copy_front.new.to c.args.list.now (c.args.self.now.size + 1) (sym c.requires.one) (let room = c.requires.room in omega arith) (λ k d low. c.copy_front.ensures k d (omega arith))

pub returns-clause-index : goal.returns-clause-index
returns-clause-index c =
    let here = (goal.at.returns-clause-index c).After-copy_front in
    record {
      known = subst (IsNetwork c.args.lang.now) (sym (same here)) c.requires.known;
      plan = subst (λ (xs : List Candidate). IsPlanOf c.args.lang.now (arcs_of c.args.lang.now xs None) c.extend.new.self) (sym (same here)) c.extend.ensures.plan;
      root = subst (λ (xs : List Candidate). IsRoot c.args.lang.now (arcs_of c.args.lang.now xs None) c.leave_more-self.new.root c.leave_more-self.result) (sym (same here)) c.leave_more-self.ensures;
    }

pub returns-clause-list : goal.returns-clause-list
returns-clause-list c = same (goal.at.returns-clause-list c).After-copy_front

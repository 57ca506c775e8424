use Rattle.propagators.proofs.Prelude.{◌≡◌, ◌∙◌, List, length, take, None, refl, ap, sym, subst, arith, with_items, with_items_is, Candidate, IsNetwork, Family, arcs_of, IsPlanOf, IsPropagated, RunsEmpty, IsRoot}
use Rattle.propagators.proofs.Indexed.{listed}
use Rattle.propagators.proofs.index.Index.restart.Goals as goal

pub returns : goal.returns
returns c =
    let items : (with_items c.args.self.now.list c.copy_front.new.to).items ≡ c.copy_front.new.to = with_items_is c.args.self.now.list c.copy_front.new.to (c.copy_front.auto.to ∙ ap length c.deref_mut.ensures.value ∙ sym c.args.self.now.list.ok.0) in
    let long : length c.copy_front.new.to ≡ length c.args.self.now.list.items = c.copy_front.auto.to ∙ ap length c.deref_mut.ensures.value in
    let same : take (length c.args.list.now) (with_items c.args.self.now.list c.copy_front.new.to).items ≡ c.args.list.now =
    ap (take (length c.args.list.now)) items ∙ listed c.copy_front.new.to c.args.list.now (length c.args.list.now) refl (let room = c.requires.room in omega arith) c.copy_front.ensures in
    record {
      known = subst (IsNetwork c.args.lang.now) (sym same) c.requires.known;
      plan = subst (λ (xs : List Candidate). IsPlanOf c.args.lang.now (arcs_of c.args.lang.now xs None) c.arrange.new.self) (sym same) c.arrange.ensures.plan;
      root = subst (λ (xs : List Candidate). IsRoot c.args.lang.now (arcs_of c.args.lang.now xs None) c.propagate_all.new.doms c.is_yes-self.result) (sym same) (record {
        alive = λ e. subst (λ (f : Family). IsPropagated c.args.lang.now (arcs_of c.args.lang.now c.args.list.now None) f c.propagate_all.new.doms) c.full-self.ensures.is (c.propagate_all.ensures.alive (c.is_yes-self.ensures.yes e));
        dead = λ e. subst (λ (f : Family). RunsEmpty (arcs_of c.args.lang.now c.args.list.now None) f) c.full-self.ensures.is (c.propagate_all.ensures.dead (c.is_yes-self.ensures.no e));
      });
    }

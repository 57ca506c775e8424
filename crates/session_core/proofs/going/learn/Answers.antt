use Rattle.session_core.proofs.Prelude.{◌∙◌, ◌++◌, ◌∷◌, [], Bool, List, not, sym, ap, subst, filter, ◌==◌, All, All-push, Candidate, IsCandidate, kept, At, go_on, walk_in, Knowledge, AreUnlearned}
use Rattle.session_core.proofs.Moving.{decided_learned, kept_learned, led_from, unlearned_after}
use Rattle.multi_tree.specs.Stage.{example_in}
use Rattle.multi_tree.proofs.Growing.{listing_more}
use Rattle.session_core.proofs.going.learn.Goals as goal

pub invariant_of-known : goal.invariant_of-known
invariant_of-known c =
    let k : Knowledge = c.as_mut-known.result.now in
    let candidate : IsCandidate k.lang c.args.c = subst (λ (x : Knowledge). IsCandidate x.lang c.args.c) (sym c.as_mut-known.ensures.value) c.requires.candidate in
    let left : Candidate → Bool = λ (d : Candidate). not (c.args.c.scope == d.scope) in
    let more : List Candidate = c.learn.new.self.list in
    record {
      walks = k.walks;
      listed = listing_more k.lang k.network.list more (c.args.c ∷ []) (example_in k.tree) k.listing c.learn.ensures.list k.listed;
      resting = k.resting;
      made = c.drop_scope.ensures.made k.lang k.made;
      lawful = subst (All (IsCandidate k.lang)) (sym c.learn.ensures.list) (All-push (IsCandidate k.lang) k.network.list c.args.c k.lawful candidate);
      room = c.learn.ensures.scopes ∙ k.room;
      unlearned = subst (λ cs. AreUnlearned cs more) (sym c.drop_scope.ensures.kept) (unlearned_after c.args.c k.network.list more k.kept.members c.learn.ensures.list k.unlearned);
      none_before = decided_learned k.lang left k.kept.members c.drop_scope.new.self.members k.network.list more c.args.c k.next c.drop_scope.ensures.kept c.learn.ensures.list k.none_before;
      within = k.within;
    }

pub returns-clause-stands : goal.returns-clause-stands
returns-clause-stands c = λ t told.
    let k : Knowledge = c.as_mut-known.result.now in
    let led = led_from k c.args.knowledge.value t (λ (x : Knowledge). go_on x.lang t (x.network.list ++ c.args.c ∷ []) (walk_in x.tree)) c.as_mut-known.ensures.value told in
    c.walk_on.ensures.stands t (record {
      at = led.at ∙ ap (λ (cs : List Candidate). At (go_on k.lang t cs (walk_in k.tree))) (sym c.learn.ensures.list);
      knows = record {
        kept = c.drop_scope.ensures.kept ∙ ap (filter (λ (d : Candidate). not (c.args.c.scope == d.scope))) led.knows.kept ∙ sym (kept_learned k.lang t k.network.list c.args.c)
            ∙ ap (kept k.lang t) (sym c.learn.ensures.list);
        count = led.knows.count;
      };
    })

use Rattle.session_core.proofs.Prelude.{◌≡◌, [], sym, ◌∙◌, ap, subst, scope_number, violated_choices, LeavesChoices, walk_in, Knowledge, AreChoices}
use Rattle.session_core.proofs.Steps.{found_choices}
use Rattle.session_core.proofs.Moving.{led_as, unlearned_scope}
use Rattle.session_core.proofs.going.take_found.Goals as goal

pub tell_apart-requires : goal.tell_apart-requires
tell_apart-requires c =
    let k : Knowledge = c.as_ref-known.result.now in
    let choices : AreChoices k.lang k.network.list c.start.result = record {
      scope = c.in-Some.s;
      choices = violated_choices k.lang k.kept.members c.args.example c.in-Some.s;
      settled = c.start.ensures.settled;
      free = unlearned_scope k.lang k.kept.members k.network.list c.args.example c.in-Some.s k.unlearned (λ none. c.in_default-start.not-Nothing (c.start.ensures.nothing.1 none));
    } in
    record {
      choices = subst (λ (x : Knowledge). AreChoices x.lang x.network.list c.start.result) c.as_ref-known.ensures choices;
      some = c.in_default-start.not-Nothing;
    }

pub returns-in_default-start : goal.returns-in_default-start
returns-in_default-start c =
    let k : Knowledge = c.args.knowledge.value in
    let same : c.as_ref-known.result.now ≡ k = c.as_ref-known.ensures in
    let settled = subst (λ (x : Knowledge). LeavesChoices x.lang c.in-Some.s (violated_choices x.lang x.kept.members c.args.example c.in-Some.s) c.start.result) same c.start.ensures.settled in
    record {
      lang = c.tell_apart.ensures.lang;
      plan = c.tell_apart.ensures.plan;
      none_new = c.tell_apart.ensures.none_new;
      stands = λ t led. c.tell_apart.ensures.stands c.in-Some.s (violated_choices k.lang k.kept.members c.args.example c.in-Some.s) settled t
          (led_as k t _ _ (found_choices k.lang t c.args.example k.network.list k.kept.members (walk_in k.tree) c.args.set c.in-Some.s led.knows.kept
          (ap (λ (x : Knowledge). scope_number x.lang c.args.set) (sym same) ∙ sym c.scope_of.ensures.is ∙ c.in-Some.is)
          (λ none. c.in_default-start.not-Nothing (c.start.ensures.nothing.1 (subst (λ (x : Knowledge). violated_choices x.lang x.kept.members c.args.example c.in-Some.s ≡ []) (sym same) none)))) led);
    }

use Rattle.session_core.proofs.Prelude.{◌≡◌, ◌∙◌, true, refl, sym, ap, subst, IsTrue, Plan, Scopes, Multi, Idle, is_lawful, Stage, IsWalkOn, turn_at, stage_after, Knowledge}
use Rattle.session_core.proofs.Questions.{by_plan}
use Rattle.session_core.proofs.Moving.{led_from}
use Rattle.session_core.proofs.Walks.{first_turns}
use Rattle.multi_tree.specs.Stage.{example_in}
use Rattle.session_core.proofs.moves.ask_walked.Goals as goal

pub invariant_of-result : goal.invariant_of-result
invariant_of-result c =
    let k : Knowledge = c.as_mut-known.result.now in
    let same : k ≡ c.args.knowledge.value = c.as_mut-known.ensures.value in
    let multi : k.plan ≡ Multi = ap (λ (x : Knowledge). x.plan) same ∙ c.requires.plan in
    let lawful = subst (λ (x : Knowledge). IsTrue (is_lawful x.lang x.plan x.kept.members x.network.list c.args.q)) (sym same) c.requires.lawful in
    let may : is_lawful k.lang Multi k.kept.members k.network.list c.args.q ≡ true = ap (λ (plan : Plan). is_lawful k.lang plan k.kept.members k.network.list c.args.q) (sym multi) ∙ lawful in
    record {
      sound = record {
        plan = λ scopes. (let no : Scopes ≡ Multi = sym scopes ∙ multi in absurd (let bad : ⊥ = cc in bad));
        lawful = lawful;
        walk = λ multi. c.next_beside.ensures.stage ∙ ap (λ (stage : Stage). stage_after (turn_at k.lang k.network.list k.kept.members stage)) c.start.ensures.stage
            ∙ ap stage_after (first_turns k.lang c.n-variables.ensures.lawful k.kept.members k.network.list c.args.q may);
      };
      asked = refl;
    }

pub returns-clause-stands : goal.returns-clause-stands
returns-clause-stands c = λ end t told.
    let k : Knowledge = c.as_mut-known.result.now in
    let same : k ≡ c.args.knowledge.value = c.as_mut-known.ensures.value in
    let led = led_from k c.args.knowledge.value t (λ (x : Knowledge). Idle x.network.list end) same told in
    let lawful = subst (λ (x : Knowledge). IsTrue (is_lawful x.lang x.plan x.kept.members x.network.list c.args.q)) (sym same) c.requires.lawful in
    record { after = record { end = end; idle = led.at; lawful = lawful }; knows = record { kept = led.knows.kept; count = led.knows.count } }

pub next_beside-requires-clause-listed : goal.next_beside-requires-clause-listed
next_beside-requires-clause-listed c =
    let k : Knowledge = c.as_mut-known.result.now in
    c.clear.ensures k.lang k.network.list (example_in c.start.new.self)

pub next_beside-requires-clause-example : goal.next_beside-requires-clause-example
next_beside-requires-clause-example c =
    let k : Knowledge = c.as_mut-known.result.now in
    let same : k ≡ c.args.knowledge.value = c.as_mut-known.ensures.value in
    let multi : k.plan ≡ Multi = ap (λ (x : Knowledge). x.plan) same ∙ c.requires.plan in
    let lawful = subst (λ (x : Knowledge). IsTrue (is_lawful x.lang x.plan x.kept.members x.network.list c.args.q)) (sym same) c.requires.lawful in
    subst (IsWalkOn k.lang) (sym c.start.ensures.stage)
    (by_plan k.lang c.n-variables.ensures.lawful k.plan k.kept.members k.network.list c.args.q
    (λ scopes. (let no : Scopes ≡ Multi = sym scopes ∙ multi in absurd (let bad : ⊥ = cc in bad))) lawful)

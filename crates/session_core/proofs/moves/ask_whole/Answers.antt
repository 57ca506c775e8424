use Rattle.session_core.proofs.Prelude.{◌≡◌, ◌∙◌, sym, ap, subst, IsTrue, Scopes, Quacq, Multi, Idle, is_lawful, Knowledge}
use Rattle.session_core.proofs.Moving.{led_from}
use Rattle.session_core.proofs.moves.ask_whole.Goals as goal

pub invariant_of-result-clause-sound : goal.invariant_of-result-clause-sound
invariant_of-result-clause-sound c =
    let k : Knowledge = c.as_mut.result.now in
    let same : k ≡ c.args.knowledge.value = c.as_mut.ensures.value in
    let quacq : k.plan ≡ Quacq = ap (λ (x : Knowledge). x.plan) same ∙ c.requires.plan in
    record {
      plan = λ scopes. (let no : Scopes ≡ Quacq = sym scopes ∙ quacq in absurd (let bad : ⊥ = cc in bad));
      lawful = subst (λ (x : Knowledge). IsTrue (is_lawful x.lang x.plan x.kept.members x.network.list c.args.q)) (sym same) c.requires.lawful;
      walk = λ multi. (let no : Multi ≡ Quacq = sym multi ∙ quacq in absurd (let bad : ⊥ = cc in bad));
    }

pub returns-clause-stands : goal.returns-clause-stands
returns-clause-stands c = λ end t told.
    let k : Knowledge = c.as_mut.result.now in
    let same : k ≡ c.args.knowledge.value = c.as_mut.ensures.value in
    let led = led_from k c.args.knowledge.value t (λ (x : Knowledge). Idle x.network.list end) same told in
    let lawful = subst (λ (x : Knowledge). IsTrue (is_lawful x.lang x.plan x.kept.members x.network.list c.args.q)) (sym same) c.requires.lawful in
    record { after = record { end = end; idle = led.at; lawful = lawful }; knows = record { kept = led.knows.kept; count = led.knows.count } }

use Rattle.session_core.proofs.Prelude.{◌≡◌, sym, ◌∙◌, ap, subst, Some, Option, IsTrue, Assignment, Scopes, Idle, is_lawful, Knowledge, BeginsOnFirst, run_question}
use Rattle.session_core.proofs.Moving.{led_from}
use Rattle.session_core.proofs.Putting.{first_asks}
use Rattle.session_core.proofs.moves.ask_first.Goals as goal

pub returns-clause-question : goal.returns-clause-question
returns-clause-question c =
    let k : Knowledge = c.args.knowledge.value in
    let first = subst (λ (x : Knowledge). BeginsOnFirst x.lang x.kept.members x.network.list c.in-Some.run') c.deref.ensures c.in-Some.ensures in
    let asks : run_question k.lang c.in-Some.run' ≡ c.args.q = first_asks k.lang k.plan k.kept.members k.network.list c.in-Some.run' c.args.q c.requires.plan first c.requires.lawful in
    ap (λ (x : Knowledge). let o : Option Assignment = Some (run_question x.lang c.in-Some.run') in o) c.as_mut-known.ensures.value ∙ ap (λ (q : Assignment). let o : Option Assignment = Some q in o) asks

pub returns-clause-stands : goal.returns-clause-stands
returns-clause-stands c = λ end t told.
    let k : Knowledge = c.as_mut-known.result.now in
    let led = led_from k c.args.knowledge.value t (λ (x : Knowledge). Idle x.network.list end) c.as_mut-known.ensures.value told in
    let known = sym c.as_mut-known.ensures.value in
    let plan = subst (λ (x : Knowledge). x.plan ≡ Scopes) known c.requires.plan in
    let lawful = subst (λ (x : Knowledge). IsTrue (is_lawful x.lang x.plan x.kept.members x.network.list c.args.q)) known c.requires.lawful in
    let first = subst (λ (x : Knowledge). BeginsOnFirst x.lang x.kept.members x.network.list c.in-Some.run') (c.deref.ensures ∙ known) c.in-Some.ensures in
    let same : run_question k.lang c.in-Some.run' ≡ c.args.q = first_asks k.lang k.plan k.kept.members k.network.list c.in-Some.run' c.args.q plan first lawful in
    let Lawful : Assignment → Type 0 = λ q. IsTrue (is_lawful k.lang k.plan k.kept.members k.network.list q) in
    record { after = record { end = end; idle = led.at; lawful = subst Lawful (sym same) lawful }; knows = record { kept = led.knows.kept; count = led.knows.count } }

pub invariant_of-result-clause-asked : goal.invariant_of-result-clause-asked
invariant_of-result-clause-asked c =
    let k : Knowledge = c.as_mut-known.result.now in
    let known = sym c.as_mut-known.ensures.value in
    let plan = subst (λ (x : Knowledge). x.plan ≡ Scopes) known c.requires.plan in
    let lawful = subst (λ (x : Knowledge). IsTrue (is_lawful x.lang x.plan x.kept.members x.network.list c.args.q)) known c.requires.lawful in
    let first = subst (λ (x : Knowledge). BeginsOnFirst x.lang x.kept.members x.network.list c.in-Some.run') (c.deref.ensures ∙ known) c.in-Some.ensures in
    sym (first_asks k.lang k.plan k.kept.members k.network.list c.in-Some.run' c.args.q plan first lawful)

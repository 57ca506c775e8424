use Rattle.session_core.proofs.Prelude.{◌≡◌, ◌∙◌, [], ◌∷◌, ◌++◌, length, sym, ap, arith, numbers, Assignment, variable_count, Knowledge, Example, OnWalk, Part, part_replied}
use Rattle.std.proofs.lemmas.List.FromFn.{length-range_with_len}
use Rattle.session_core.proofs.Steps.{said}
use Rattle.session_core.proofs.Moving.{led_as}
use Rattle.session_core.proofs.Questions.{example_fits}
use Rattle.session_core.proofs.Turning.{sound_of, heard, replies_of, example_heard, walk_heard, part_heard}
use Rattle.session_core.proofs.session.Asking.example_heard.Goals as goal

pub part_answered-requires-clause-some : goal.part_answered-requires-clause-some
part_answered-requires-clause-some c =
    let size : length c.all-all.result ≡ c.n.result = ap length c.all-all.ensures ∙ length-range_with_len 0 c.n.result in
    omega (arith, size, c.n.ensures.is, c.n.ensures.lawful.some_variable)

pub part_answered-requires-clause-question : goal.part_answered-requires-clause-question
part_answered-requires-clause-question c =
    let k : Knowledge = c.args.self.knowledge.value in
    example_fits k c.known_after-knowledge.result.0.value c.in-Example.example c.known_after-knowledge.ensures.lawful c.known_after-knowledge.ensures.answered.lang
    (sound_of c.args.self (Example c.in-Example.example) (sym c.known_after-knowledge.ensures.put ∙ sym c.replace.ensures.value ∙ c.in-Example.is))

pub returns-in-Example-clause-stands : goal.returns-in-Example-clause-stands
returns-in-Example-clause-stands c = λ t q asked stands.
    let k' : Knowledge = c.known_after-knowledge.result.0.value in
    let e : Assignment = c.in-Example.example in
    let h = heard c.args.self (Example e) q c.args.yes t k' (sym c.known_after-knowledge.ensures.put ∙ sym c.replace.ensures.value ∙ c.in-Example.is) asked stands c.known_after-knowledge.ensures.lawful c.known_after-knowledge.ensures.answered in
    let all = ap numbers c.n.ensures.is ∙ ap (λ (x : Knowledge). numbers (variable_count x.lang)) c.deref.ensures in
    c.part_answered.ensures.stands (t ++ said q c.args.yes ∷ [])
    (led_as k' (t ++ said q c.args.yes ∷ []) _ _
    (ap (λ set. part_replied k'.lang (t ++ said q c.args.yes ∷ []) e set c.args.yes k'.network.list k'.tree) (sym (c.all-all.ensures ∙ all)))
    (example_heard c.args.self e q c.args.yes t k' h))

pub returns-in-OnWalk-clause-stands : goal.returns-in-OnWalk-clause-stands
returns-in-OnWalk-clause-stands c = λ t q asked stands.
    let k' : Knowledge = c.known_after-knowledge.result.0.value in
    let e : Assignment = c.in-OnWalk.example in
    let h = heard c.args.self (OnWalk e c.in-OnWalk.set) q c.args.yes t k' (sym c.known_after-knowledge.ensures.put ∙ sym c.replace.ensures.value ∙ c.in-OnWalk.is) asked stands c.known_after-knowledge.ensures.lawful c.known_after-knowledge.ensures.answered in
    c.part_answered-in-OnWalk.ensures.stands (t ++ said q c.args.yes ∷ []) (walk_heard c.args.self e q c.in-OnWalk.set c.args.yes t k' h)

pub returns-in-Part-clause-stands : goal.returns-in-Part-clause-stands
returns-in-Part-clause-stands c = λ t q asked stands.
    let k' : Knowledge = c.known_after-knowledge.result.0.value in
    let e : Assignment = c.in-Part.example in
    let run = c.in-Part.run' in
    let h = heard c.args.self (Part e c.in-Part.set run) q c.args.yes t k' (sym c.known_after-knowledge.ensures.put ∙ sym c.replace.ensures.value ∙ c.in-Part.is) asked stands c.known_after-knowledge.ensures.lawful c.known_after-knowledge.ensures.answered in
    let now = replies_of c.args.self e q c.in-Part.set run c.args.yes t k' h in
    c.halve_on.ensures.stands (now.replies ++ c.args.yes ∷ []) (c.reply.ensures c.in-Part.set now.replies now.running)
    (t ++ said q c.args.yes ∷ []) (part_heard c.args.self e q c.in-Part.set run c.args.yes t k' h)

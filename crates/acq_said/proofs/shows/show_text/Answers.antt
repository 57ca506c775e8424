use Rattle.acq_said.proofs.Prelude.{ℕ, List, append_assoc, ◌≡◌, ◌∙◌, ap, [], ◌∷◌, ◌++◌, length, codes, decimal, string_bytes, standing_on, network_text, knowledge_of, state_after, plan_words, answer_lines, back_line, is_back, reading_text}
use Rattle.std.specs.Prelude.{filter}
use Rattle.acq_said.proofs.shows.show_text.Goals as goal

begun : (plan lines more : List ℕ) → ((codes "plan " ++ (plan ++ 10 ∷ [])) ++ lines) ++ more ≡ codes "plan " ++ (plan ++ (10 ∷ (lines ++ more)))
begun plan lines more =
    ap (λ (x : List ℕ). x ++ more) (append_assoc (codes "plan ") (plan ++ 10 ∷ []) lines ∙ ap (λ (x : List ℕ). codes "plan " ++ x) (append_assoc plan (10 ∷ []) lines))
    ∙ append_assoc (codes "plan ") (plan ++ (10 ∷ lines)) more
    ∙ ap (λ (x : List ℕ). codes "plan " ++ x) (append_assoc plan (10 ∷ lines) more)

pub returns : goal.returns
returns c =
    let k = knowledge_of c.args.session.now in
    let t = standing_on k.lang c.args.events.now.items in
    let same = c.lang-lang.ensures.is in
    let network : string_bytes c.in-Ok-network_text.network ≡ network_text k.lang k.network.list = c.in-Ok-network_text.ensures ∙ (λ i. network_text (same i) (c.network-learned.ensures.is i).list) in
    let plan : c.plan_word-plan.result.now ≡ plan_words k.plan = c.plan_word-plan.ensures ∙ ap plan_words c.plan.ensures in
    let answers : c.answers-answers.result ≡ length t = c.answers-answers.ensures ∙ c.requires.stands.knows.count in
    let count : c.len-count.result ≡ length k.network.list = c.len-count.ensures.is ∙ ap (λ n. length n.list) c.network-learned.ensures.is in
    let state : c.state_word-state.result.now ≡ reading_text (state_after k.lang k.plan t) = c.state_word-state.ensures t c.requires.stands c.requires.settled in
    let backs : string_bytes c.in-Ok-back_line.backs ≡ back_line (length (filter is_back c.args.events.now.items)) = c.in-Ok-back_line.ensures ∙ ap back_line c.take_backs.ensures in
    let head = c.in-Ok-format.ensures.ok ∙ (λ i. codes "plan " ++ (plan i ++ 10 ∷ [])) in
    let lines = c.in_ok-push_events.ensures ∙ (λ i. head i ++ answer_lines (same i) 1 (standing_on (same i) c.args.events.now.items)) in
    let said = c.in-Ok-write.ensures.bytes ∙ (λ i. lines i ++ (codes "answers " ++ (decimal (answers i) ++ (10 ∷ backs i)))) in
    let known = c.in-Ok-write-2.ensures.bytes ∙ (λ i. said i ++ (codes "learned " ++ (decimal (count i) ++ (10 ∷ (network i ++ (codes "state " ++ (state i ++ 10 ∷ []))))))) in
    known ∙ ap (λ x. x ++ (codes "learned " ++ (decimal (length k.network.list) ++ (10 ∷ (network_text k.lang k.network.list ++ (codes "state " ++ (reading_text (state_after k.lang k.plan t) ++ 10 ∷ []))))))) (begun (plan_words k.plan) (answer_lines k.lang 1 t) (codes "answers " ++ (decimal (length t) ++ (10 ∷ back_line (length (filter is_back c.args.events.now.items))))))

use Rattle.query_gen.proofs.Prelude.{◌≤◌, List, length, drop, subst, sym, ◌∙◌, ap, All-drop, Candidate, IsCandidate, IsNetwork, accepts, outcome_of_candidate, byte_for}
use Rattle.query_gen.proofs.Parts.{found_next}
use Rattle.query_gen.proofs.Finds.{find_question, found_again}
use Rattle.query_gen.proofs.part.search_unless_found.Goals as goal

pub learned_since-requires : goal.learned_since-requires
learned_since-requires c =
    let find = c.in-Some.ensures.is c.args.lang.now c.args.net.now.list c.args.budget c.requires.marks in
    subst (λ (list : List Candidate). c.in-Some.find.now.learned ≤ length list) (sym c.list.ensures) find.learned

pub is_accepted-requires-clause-list : goal.is_accepted-requires-clause-list
is_accepted-requires-clause-list c =
    subst (IsNetwork c.args.lang.now) (sym (c.learned_since.ensures ∙ ap (drop c.in-Some.find.now.learned) c.list.ensures))
    (All-drop (IsCandidate c.args.lang.now) c.in-Some.find.now.learned c.args.net.now.list c.requires.network)

pub is_accepted-requires-clause-question : goal.is_accepted-requires-clause-question
is_accepted-requires-clause-question c =
    find_question c.args.lang.now c.n-variables.ensures.lawful c.args.net.now.list c.requires.network c.args.budget c.in-Some.find.now
    (c.in-Some.ensures.is c.args.lang.now c.args.net.now.list c.args.budget c.requires.marks) c.args.c c.requires.candidate.0 (c.requires.candidate.1 ∙ sym c.in-Some.ensures.number)

pub returns-clause-byte : goal.returns-clause-byte
returns-clause-byte c =
    sym (ap byte_for (found_again c.args.lang.now c.n-variables.ensures.lawful c.args.net.now.list c.requires.network c.args.budget c.in-Some.find.now
    (c.in-Some.ensures.is c.args.lang.now c.args.net.now.list c.args.budget c.requires.marks) c.args.c c.requires.candidate.0 (c.requires.candidate.1 ∙ sym c.in-Some.ensures.number)
    (sym (ap (λ list. accepts c.args.lang.now list c.in-Some.find.now.question) (c.learned_since.ensures ∙ ap (drop c.in-Some.find.now.learned) c.list.ensures)) ∙ sym c.is_accepted.ensures ∙ c.if-is_accepted.true)))

pub returns-clause-answer : goal.returns-clause-answer
returns-clause-answer c =
    found_next c.args.answer.now (outcome_of_candidate c.args.lang.now c.args.net.now.list c.args.c c.args.budget) c.in-Some.find.now.question c.requires.none
    (found_again c.args.lang.now c.n-variables.ensures.lawful c.args.net.now.list c.requires.network c.args.budget c.in-Some.find.now
    (c.in-Some.ensures.is c.args.lang.now c.args.net.now.list c.args.budget c.requires.marks) c.args.c c.requires.candidate.0 (c.requires.candidate.1 ∙ sym c.in-Some.ensures.number)
    (sym (ap (λ list. accepts c.args.lang.now list c.in-Some.find.now.question) (c.learned_since.ensures ∙ ap (drop c.in-Some.find.now.learned) c.list.ensures)) ∙ sym c.is_accepted.ensures ∙ c.if-is_accepted.true))

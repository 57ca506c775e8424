-- How few answers lead to convergence.
use Rattle.acq_loop.proofs.Prelude.{◌≡◌, ◌∙◌, ℕ, ◌+◌, ◌*◌, ◌≤◌, true, List, length, Option, refl, arith, ◌==◌, ◌&&◌, IsTrue, All, slice_index_or, list_any, and_from, eq-eqb, list_any_at, Answer, Plan, numbers, has, Candidate, Language, IsLanguage, variable_count, candidates, IsNetwork, has_scope, any-filter, any_number, Idle, At, state_after, WalkEnd, answers_are_few, learned_are_few}
use Rattle.std.specs.Prelude.{filter}
use Rattle.std.proofs.lemmas.Nat.{mul-le}
use Rattle.find_scope.specs.Bound.{log_up}
use Rattle.session_laws.specs.Bound.{greatest_arity}
use Rattle.language.specs.Answers.{agrees}

abbrev scopes_of_network : Language → List Candidate → List ℕ
scopes_of_network l network = filter (has_scope network) (numbers (length l.scopes))

-- a greater cost a candidate makes a greater sum
looser : (m c k arity lg : ℕ) → m ≤ c + k * (arity * lg + 1) → m ≤ c + k * (2 * arity * lg + 1)
looser m c k arity lg low =
    let one = mul-le arity lg (2 * arity) lg (omega arith) (omega arith) in
    let two = mul-le k (arity * lg + 1) k (2 * arity * lg + 1) (omega arith) (omega arith) in
    omega arith

-- the scope of each candidate of a network is one of its scopes
each_scope : (l : Language) (owner : List Candidate) → IsNetwork l owner → All (λ c. IsTrue (has (scopes_of_network l owner) c.scope)) owner
each_scope l owner legal k d low =
    let s : ℕ = (slice_index_or owner k d).scope in
    let here : list_any (λ c. c.scope == s) owner ≡ true = list_any_at (λ c. c.scope == s) owner k d low (eq-eqb s s refl) in
    any-filter (λ v. v == s) (has_scope owner) (numbers (length l.scopes)) ∙ any_number (λ v. has_scope owner v && (v == s)) (length l.scopes) s (legal k d low).scope (and_from _ _ here (eq-eqb s s refl))

pub bounded_loosely : (l : Language) (plan : Plan) (t : List Answer) (network : List Candidate) (end : Option WalkEnd) → IsLanguage l → state_after l plan t ≡ At (Idle network end) →
    length t ≤ length (candidates l) + length network * (2 * greatest_arity l * log_up (variable_count l) + 1)
bounded_loosely l plan t network end lawful at = looser (length t) (length (candidates l)) (length network) (greatest_arity l) (log_up (variable_count l)) (answers_are_few l plan t network end lawful at)

pub learned_few : (l : Language) (plan : Plan) (t : List Answer) (network : List Candidate) (end : Option WalkEnd) → IsLanguage l → state_after l plan t ≡ At (Idle network end) →
    (owner : List Candidate) → IsNetwork l owner → IsTrue (agrees l owner t) → length network ≤ length (scopes_of_network l owner)
learned_few l plan t network end lawful at owner legal agreeing = learned_are_few l plan t network end owner (scopes_of_network l owner) lawful at legal agreeing (each_scope l owner legal)

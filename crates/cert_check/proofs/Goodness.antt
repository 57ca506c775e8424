-- A network with a good list is covered.
use Rattle.cert_check.proofs.Prelude.{◌≡◌, Bool, true, List, [], ◌∷◌, ◌∙◌, ap, subst, inl, inr, ◌⊎◌, All, IsTrue, ◌==◌, list_any, All-head, All-tail, or_cases, eqb-true, Answer, Candidate, Language, IsLanguage, IsCandidate, IsImplied, number_of, IsNetwork, IsCovered, IsConverged, is_struck, covered_converged, numbered, Refutation, refutes, candidate_at, is_earned, has_refutation, IsGood}
use Rattle.cert_check.proofs.Refuted.{refuted_is_implied}

-- what follows from a member that passes
from_member : {X : Type 0} (p : X → Bool) (Q : X → Type 0) (R : Type 0) (xs : List X) → ((x : X) → p x ≡ true → Q x → R) → All Q xs → list_any p xs ≡ true → R
from_member p Q R [] h all at = absurd (let no : ⊥ = cc in no)
from_member p Q R (x ∷ xs) h all at = go (or_cases (p x) (list_any p xs) at) (from_member p Q R xs h (All-tail Q x xs all))
  where
    go : (p x ≡ true) ⊎ (list_any p xs ≡ true) → (list_any p xs ≡ true → R) → R
    go (inl here) rest = h x here (All-head Q x xs all)
    go (inr there) rest = rest there

pub good_is_covered : (l : Language) (network : List Candidate) (t : List Answer) (refutations : List Refutation) → IsLanguage l → IsGood l network t refutations → IsCovered l network t
good_is_covered l network t refutations lawful good = record {
  agreeing = good.agreeing;
  one_a_scope = good.one_a_scope;
  begun = good.begun;
  told = good.told;
  rest = λ c is free. go c is (good.rest c is free);
}
  where
    implied : (c : Candidate) → IsCandidate l c → (r : Refutation) → (r.candidate == number_of l c) ≡ true → IsTrue (is_earned l network r) → IsImplied l network c
    implied c is r same earned =
        let number : r.candidate ≡ number_of l c = eqb-true r.candidate (number_of l c) same in
        let there : candidate_at l r.candidate ≡ c = ap (candidate_at l) number ∙ (numbered l).there c (record { scope = 0; rel = 0 }) is in
        refuted_is_implied l network c r.tokens lawful is (subst (λ (d : Candidate). refutes l network d r.tokens ≡ true) there earned)

    go : (c : Candidate) → IsCandidate l c → IsTrue (is_struck l t c) ⊎ IsTrue (has_refutation refutations (number_of l c)) → IsTrue (is_struck l t c) ⊎ IsImplied l network c
    go c is (inl struck) = inl struck
    go c is (inr listed) = inr (from_member (λ (r : Refutation). r.candidate == number_of l c) (λ r. IsTrue (is_earned l network r)) (IsImplied l network c) refutations (implied c is) good.earned listed)

pub good_is_converged : (l : Language) (network : List Candidate) (t : List Answer) (refutations : List Refutation) → IsLanguage l → IsNetwork l network → IsGood l network t refutations → IsConverged l network t
good_is_converged l network t refutations lawful legal good = covered_converged l network t lawful legal (good_is_covered l network t refutations lawful good)

-- Finds that are kept: that they are true, and what they say of a longer network.
use Rattle.query_gen.proofs.Prelude.{◌≡◌, ℕ, ◌+◌, ◌-◌, ◌<◌, ◌≤◌, Bool, true, false, not, cond, List, [], ◌∷◌, ◌++◌, length, take, drop, get_or, set, Some, refl, sym, ◌∙◌, ap, subst, arith, All-set, All-take, take-append-drop, take_all, and_parts, not-true, Assignment, Candidate, Language, IsLanguage, IsCandidate, IsQuestion, IsNetwork, accepts, number_of, Outcome, outcome_of_candidate, found_is_lawful, found_stays, Ask, is_among, query_of, query_in, query_then, is_ask, is_looked_at, byte_for, IsSearched, Find, IsFindOf, Remembered, MarksHold}
use Rattle.std.specs.Option.{ForSome}
use Rattle.fd_solver.specs.declared.outcome.Outcome.TheVariants as outcomes
use Rattle.query_gen.proofs.Parts.{parts_are_joined, says_more_of_kept, then_found}

same_ask : (e x : Assignment) → Ask e ≡ Ask x → e ≡ x
same_ask e x h = cc

-- ---- What a part's search found

module _ (l : Language) (network kept : List Candidate) (budget first end : ℕ) (bytes : List ℕ) (e : Assignment) (part : IsSearched l network kept budget first end bytes (Ask e)) where
  -- the candidate with the byte for it gave the question
  pub found_there : (c : Candidate) → IsCandidate l c → first ≤ number_of l c → number_of l c < end → get_or bytes (number_of l c - first) 0 ≡ 3 → outcome_of_candidate l network c budget ≡ outcomes.Found e
  found_there c is from below h = go (is_looked_at l network kept budget first c) (outcome_of_candidate l network c budget) refl refl (sym h ∙ part.marked c is from below)
    where
      go : (b : Bool) (o : Outcome) → is_looked_at l network kept budget first c ≡ b → outcome_of_candidate l network c budget ≡ o → 3 ≡ cond b (byte_for o) 0 → outcome_of_candidate l network c budget ≡ outcomes.Found e
      go true (outcomes.Found x) looked at three =
          let parts = and_parts (is_among kept c) (not (is_ask (query_in l network kept budget first (number_of l c)))) looked in
          let here : query_in l network kept budget first (number_of l c + 1) ≡ Ask x =
          says_more_of_kept l network kept budget first c is from parts.0
          ∙ ap (λ o. query_then (query_in l network kept budget first (number_of l c)) (query_of (o ∷ []))) at
          ∙ then_found (query_in l network kept budget first (number_of l c)) x (not-true _ parts.1) in
          let whole : query_in l network kept budget first end ≡ Ask x =
          parts_are_joined l network kept budget first (number_of l c + 1) end (omega arith) (omega arith)
          ∙ ap (λ q. query_then q (query_in l network kept budget (number_of l c + 1) end)) here in
          at ∙ ap outcomes.Found (sym (same_ask e x (part.answered ∙ whole)))
      go true outcomes.Absent looked at three = absurd (omega arith)
      go true outcomes.Spent looked at three = absurd (omega arith)
      go false o looked at three = absurd (omega arith)

  pub is_find : (number : ℕ) → first ≤ number → number < end → get_or bytes (number - first) 0 ≡ 3 → IsFindOf l network budget (record { number = number; learned = length network; question = e })
  is_find number from below h = record {
    learned = omega arith;
    found = λ c is at.
        ap (λ ns. outcome_of_candidate l ns c budget) (take_all (length network) network (omega arith))
        ∙ found_there c is (omega arith) (omega arith) (ap (λ n. get_or bytes (n - first) 0) at ∙ h);
  }

-- ---- What a find says

module _ (l : Language) (lawful : IsLanguage l) (network : List Candidate) (legal : IsNetwork l network) (budget : ℕ) (f : Find) (is_find_of : IsFindOf l network budget f) (c : Candidate) (is : IsCandidate l c) (at : number_of l c ≡ f.number) where
  pub find_question : IsQuestion l f.question
  find_question = (found_is_lawful l (take f.learned network) c budget f.question lawful (All-take (IsCandidate l) f.learned network legal) is (is_find_of.found c is at)).question

  -- where the rest of the network accepts it, it is found again
  pub found_again : accepts l (drop f.learned network) f.question ≡ true → outcome_of_candidate l network c budget ≡ outcomes.Found f.question
  found_again accepted =
      let whole : take f.learned network ++ drop f.learned network ≡ network = take-append-drop f.learned network in
      subst (λ (ns : List Candidate). outcome_of_candidate l ns c budget ≡ outcomes.Found f.question) whole
      (found_stays l (take f.learned network) (drop f.learned network) c budget f.question lawful (subst (IsNetwork l) (sym whole) legal) is accepted (is_find_of.found c is at))

-- ---- A screen that keeps one more

pub find_kept : (l : Language) (network : List Candidate) (budget at : ℕ) (f : Find) (s : Remembered) → IsFindOf l network budget f → MarksHold l network budget s → MarksHold l network budget (record s { finds = set s.finds at (Some f) })
find_kept l network budget at f s is holds = record {
  implied = holds.implied;
  spent = holds.spent;
  earlier = holds.earlier;
  finds = All-set (λ f. ForSome f (IsFindOf l network budget)) s.finds at (Some f) (λ g same. subst (IsFindOf l network budget) (one f g same) is) holds.finds;
}
  where
    one : (f g : Find) → Some f ≡ Some g → f ≡ g
    one f g h = cc

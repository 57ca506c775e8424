-- What outcomes say, one after another.
use Rattle.query_gen.proofs.Prelude.{◌≡◌, ℕ, Bool, true, false, ◌||◌, cond, List, [], ◌∷◌, map, refl, sym, ◌∙◌, ap, list_any, filter, filter_map, Candidate, Language, candidates, Outcome, Found, Absent, Spent, outcome_of_candidate, Query, is_among, found_in, is_spent, query_from, next_query}

-- what further outcomes say, where one before was spent or none was
abbrev pub query_on : Bool → List Outcome → Query
query_on spent outcomes = query_from (filter_map found_in outcomes) (spent || list_any is_spent outcomes)

pub query_spent : (spent : Bool) (outcomes : List Outcome) → query_on spent (Spent ∷ outcomes) ≡ query_on true outcomes
query_spent true outcomes = refl
query_spent false outcomes = refl

-- an outcome of absent for each candidate that isn't kept changes nothing
only_kept : (f : Candidate → Outcome) (p : Candidate → Bool) (cs : List Candidate) (spent : Bool) → query_on spent (map f (filter p cs)) ≡ query_on spent (map (λ c. cond (p c) (f c) Absent) cs)
only_kept f p [] spent = refl
only_kept f p (c ∷ cs) spent = go (p c) (f c) refl (only_kept f p cs)
  where
    rest : List Outcome
    rest = map (λ c. cond (p c) (f c) Absent) cs

    go : (b : Bool) (o : Outcome) → f c ≡ o → ((t : Bool) → query_on t (map f (filter p cs)) ≡ query_on t (map (λ c. cond (p c) (f c) Absent) cs)) →
        query_on spent (map f (cond b (c ∷ filter p cs) (filter p cs))) ≡ query_on spent (cond b o Absent ∷ map (λ c. cond (p c) (f c) Absent) cs)
    go false o e next = next spent
    go true (Found x) e next = ap (λ o. query_on spent (o ∷ map f (filter p cs))) e
    go true Absent e next = ap (λ o. query_on spent (o ∷ map f (filter p cs))) e ∙ next spent
    go true Spent e next =
        ap (λ o. query_on spent (o ∷ map f (filter p cs))) e ∙ query_spent spent (map f (filter p cs)) ∙ next true
        ∙ sym (query_spent spent (map (λ c. cond (p c) (f c) Absent) cs))

-- ---- all candidates

-- a kept candidate's outcome. There is nothing to ask about one that isn't kept.
abbrev pub kept_outcome : Language → List Candidate → List Candidate → ℕ → Candidate → Outcome
kept_outcome l network kept budget c = cond (is_among kept c) (outcome_of_candidate l network c budget) Absent

abbrev pub all_outcomes : Language → List Candidate → List Candidate → ℕ → List Outcome
all_outcomes l network kept budget = map (kept_outcome l network kept budget) (candidates l)

pub query_all : (l : Language) (network kept : List Candidate) (budget : ℕ) → query_on false (all_outcomes l network kept budget) ≡ next_query l network kept budget
query_all l network kept budget = sym (only_kept (λ c. outcome_of_candidate l network c budget) (is_among kept) (candidates l) false)

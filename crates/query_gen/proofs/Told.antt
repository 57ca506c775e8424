-- What the next question says of the kept candidates.
use Rattle.query_gen.proofs.Prelude.{◌≡◌, ℕ, suc, ◌<◌, Bool, true, false, cond, List, [], ◌∷◌, length, map, get_or, refl, sym, ◌∙◌, ap, subst, arith, inl, inr, ◌⊎◌, ◌≢◌, All, Any, Contains, filter_map, get_or-map, length-map, All-nil, All-cons, Contains-get_or, Assignment, Candidate, Language, IsCandidate, IsImplied, candidates, number_of, IsNetwork, numbered, Outcome, Found, Absent, Spent, outcome_of_candidate, AbsentIsImplied, SpentIsLong, FoundIsLawful, IsQuestionAgainst, Ask, AllImplied, Undecided, is_among, found_in, query_from, AllAreImplied, AskedIsLawful, UndecidedIsSpent}
use Rattle.query_gen.proofs.Among.{among_contained, contained_among}
use Rattle.query_gen.proofs.Asking.{query_on, query_spent, query_all, kept_outcome, all_outcomes}

-- ---- Lists of outcomes

spent_isn't_implied : (outcomes : List Outcome) → query_on true outcomes ≡ AllImplied → ⊥
spent_isn't_implied outcomes h = go (filter_map found_in outcomes) h
  where
    go : (found : List Assignment) → query_from found true ≡ AllImplied → ⊥
    go [] h = cc
    go (e ∷ found) h = cc

each_absent : (outcomes : List Outcome) → query_on false outcomes ≡ AllImplied → All (λ o. o ≡ Absent) outcomes
each_absent [] h = All-nil (λ o. o ≡ Absent)
each_absent (Found e ∷ outcomes) h = cc
each_absent (Absent ∷ outcomes) h = All-cons (λ o. o ≡ Absent) Absent outcomes refl (each_absent outcomes h)
each_absent (Spent ∷ outcomes) h = absurd (spent_isn't_implied outcomes h)

-- a member of this kind stands in the list
abbrev pub Has : List Outcome → Outcome → Type 0
Has outcomes o = (k : ℕ) × (k < length outcomes) × (get_or outcomes k Absent ≡ o)

further : (outcomes : List Outcome) (x o : Outcome) → Has outcomes o → Has (x ∷ outcomes) o
further outcomes x o (k, low, at) = (suc k, omega arith, at)

found_there : (outcomes : List Outcome) (spent : Bool) (e : Assignment) → query_on spent outcomes ≡ Ask e → Has outcomes (Found e)
found_there [] true e h = cc
found_there [] false e h = cc
found_there (Found x ∷ outcomes) spent e h = (0, omega arith, (let same : x ≡ e = cc in ap Found same))
found_there (Absent ∷ outcomes) spent e h = further outcomes Absent (Found e) (found_there outcomes spent e h)
found_there (Spent ∷ outcomes) spent e h = further outcomes Spent (Found e) (found_there outcomes true e (sym (query_spent spent outcomes) ∙ h))

spent_there : (outcomes : List Outcome) → query_on false outcomes ≡ Undecided → Has outcomes Spent
spent_there [] h = cc
spent_there (Found e ∷ outcomes) h = cc
spent_there (Absent ∷ outcomes) h = further outcomes Absent Spent (spent_there outcomes h)
spent_there (Spent ∷ outcomes) h = (0, omega arith, refl)

-- an outcome without a question
abbrev pub IsNone : Outcome → Type 0
IsNone o = (o ≡ Spent) ⊎ (o ≡ Absent)

none_found : (outcomes : List Outcome) (spent : Bool) → query_on spent outcomes ≡ Undecided → All IsNone outcomes
none_found [] spent h = All-nil IsNone
none_found (Found e ∷ outcomes) spent h = cc
none_found (Absent ∷ outcomes) spent h = All-cons IsNone Absent outcomes (inr refl) (none_found outcomes spent h)
none_found (Spent ∷ outcomes) spent h = All-cons IsNone Spent outcomes (inl refl) (none_found outcomes true (sym (query_spent spent outcomes) ∙ h))

-- ---- Candidates

kept_here : (b : Bool) (o x : Outcome) → (x ≡ Absent → ⊥) → cond b o Absent ≡ x → (b ≡ true) × (o ≡ x)
kept_here true o x other h = (refl, h)
kept_here false o x other h = absurd (other (sym h))

module _ (l : Language) (network kept : List Candidate) (budget : ℕ) where
  abbrev of : Candidate → Outcome
  of c = outcome_of_candidate l network c budget

  -- what is true of each outcome is true of each kept candidate's
  each_kept : (P : Outcome → Type 0) → IsNetwork l kept → All P (all_outcomes l network kept budget) → All (λ c. P (of c)) kept
  each_kept P known all = λ k d low.
      (let c : Candidate = get_or kept k d in
      let is : IsCandidate l c = known k d low in
      let number : ℕ = number_of l c in
      let below : number < length (candidates l) = (numbered l).below c is in
      let at : get_or (map (kept_outcome l network kept budget) (candidates l)) number Absent ≡ of c =
      get_or-map (kept_outcome l network kept budget) (candidates l) number c Absent below
      ∙ ap (kept_outcome l network kept budget) ((numbered l).there c c is)
      ∙ ap (λ b. cond b (of c) Absent) (contained_among kept c (Contains-get_or kept k d low)) in
      subst P at (all number Absent (let long = length-map (candidates l) (kept_outcome l network kept budget) in omega arith)))

  -- an outcome that says something is some kept candidate's
  some_kept : (o : Outcome) → (o ≡ Absent → ⊥) → Has (all_outcomes l network kept budget) o → Any (λ c. of c ≡ o) kept
  some_kept o other (k, low, at) =
      let c : Candidate = get_or (candidates l) k (record { scope = 0; rel = 0 }) in
      let below : k < length (candidates l) = (let long = length-map (candidates l) (kept_outcome l network kept budget) in omega arith) in
      let here = kept_here (is_among kept c) (of c) o other (sym (get_or-map (kept_outcome l network kept budget) (candidates l) k (record { scope = 0; rel = 0 }) Absent below) ∙ at) in
      go c here.1 (among_contained kept c here.0)
    where
      go : (c : Candidate) → of c ≡ o → Contains kept c → Any (λ c. of c ≡ o) kept
      go c is (i, low, at) = (i, c, low, at, is)

-- ---- Laws, from those of outcomes

any_weaker : (P Q : Candidate → Type 0) (cs : List Candidate) → All (λ c. P c → Q c) cs → Any P cs → Any Q cs
any_weaker P Q cs every (k, c, low, at, p) = (k, c, low, at, subst (λ (x : Candidate). P x → Q x) at (every k c low) p)

pub all_are_implied : AbsentIsImplied → AllAreImplied
all_are_implied absent_is_implied l network kept budget lawful known h = λ k d low.
    absent_is_implied l network (get_or kept k d) budget lawful (known k d low)
    (each_kept l network kept budget (λ o. o ≡ Absent) known (each_absent (all_outcomes l network kept budget) (query_all l network kept budget ∙ h)) k d low)

pub asked_is_lawful : FoundIsLawful → AskedIsLawful
asked_is_lawful found_is_lawful l network kept budget e lawful legal known h =
    any_weaker (λ c. outcome_of_candidate l network c budget ≡ Found e) (λ c. IsQuestionAgainst l network c e) kept
    (λ k d low is. found_is_lawful l network (get_or kept k d) budget e lawful legal (known k d low) is)
    (some_kept l network kept budget (Found e) isn't_absent (found_there (all_outcomes l network kept budget) false e (query_all l network kept budget ∙ h)))
  where
    isn't_absent : Found e ≡ Absent → ⊥
    isn't_absent same = cc

pub undecided_is_spent : AbsentIsImplied → SpentIsLong → UndecidedIsSpent
undecided_is_spent absent_is_implied spent_is_long l network kept budget lawful legal known h = record {
  some = some_kept l network kept budget Spent isn't_absent (spent_there (all_outcomes l network kept budget) begun);
  each = λ k d low spent. spent_is_long l network (get_or kept k d) budget lawful legal (known k d low) spent;
  rest = λ k d low other. told (get_or kept k d) (known k d low) (each_kept l network kept budget IsNone known (none_found (all_outcomes l network kept budget) false begun) k d low) other;
}
  where
    begun : query_on false (all_outcomes l network kept budget) ≡ Undecided
    begun = query_all l network kept budget ∙ h

    isn't_absent : Spent ≡ Absent → ⊥
    isn't_absent same = cc

    told : (c : Candidate) → IsCandidate l c → IsNone (outcome_of_candidate l network c budget) → outcome_of_candidate l network c budget ≢ Spent → IsImplied l network c
    told c is (inl spent) other = absurd (other spent)
    told c is (inr absent) other = absent_is_implied l network c budget lawful is absent

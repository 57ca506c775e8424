-- The models of a network's clauses are its solutions.
use Rattle.net_cnf.proofs.Prelude.{◌≡◌, ℕ, ◌-◌, ◌<◌, ◌&&◌, ◌||◌, not, Bool, true, false, cond, List, [], ◌∷◌, ◌++◌, length, get_or, map, Option, Some, None, refl, sym, ◌∙◌, ap, arith, eqb, ◌⊎◌, inl, inr, find, is_some, unwrap_or, All, beq, list_all, list_any, flat_map, cases_eq, cases_lt, eq-eqb, eqb-true, ne_eqb, and_from, and_parts, or_left, or_right, both_ways, length-map, ext_get_or, get_or-map-range_with_len, length-map-range_with_len, list_all-append, list_all-map, AllPass-from_list_all, All-head, All-tail, numbers, Assignment, value_of, covers, tuple_on, is_complete, is_same_value, holds, Candidate, Language, variable_count, values_of, is_ranged, scope_of, relation_of, violates, accepts, IsLanguage, IsQuestion, IsCandidate, find_all, any-map, find_none, find_some, Boolean, boolean, booleans_of, booleans, boolean_number, gives, bits, Clause, is_met, satisfies_clauses, literal, some_value, each_two, not_both, no_two_values, tuples_on, values_in, rejected, none_rejected, clauses, IsOnlyModel, ClausesEncode}
use Rattle.language.specs.Answers.{IsNetwork}
use Rattle.net_cnf.proofs.Numbers.{truth_of, same_truths}
use Rattle.net_cnf.proofs.Runs.{IsValue, first_of, size_of, values-run, value_in, in_value, value_at, place_in, any_value, all_values}
use Rattle.net_cnf.proofs.Tests.{all-flat_map, all_failing, all_range, at_range, all_same, only_one, all_two, at_two}
use Rattle.shared_lemmas.proofs.Booleans.{beq-false, beq-true}

-- ---- An assignment

pub record Valued (l : Language) (e : Assignment) (v : ℕ) : Type 0 where
  pub value : ℕ
  pub among : IsValue l v value
  pub is : value_of e v ≡ Some value

pub valued : (l : Language) (e : Assignment) (v : ℕ) → IsQuestion l e → is_complete e ≡ true → v < variable_count l → Valued l e v
valued l e v question complete low = go (value_of e v) refl
  where
    inside : v < length e
    inside = let size = question.size in omega (arith, size)

    go : (o : Option ℕ) → value_of e v ≡ o → Valued l e v
    go None none = absurd (both_ways (is_some (value_of e v)) (ap is_some none) (AllPass-from_list_all is_some e complete v None inside))
    go (Some x) some = record {
      value = x;
      among = in_value l v x low (question.values_fit v None inside x some) (ap (is_ranged l v) (sym some) ∙ question.within v low);
      is = some;
    }

pub given_is : (e : Assignment) (v x y : ℕ) → value_of e v ≡ Some y → gives e (boolean v x) ≡ eqb y x
given_is e v x y is = ap (λ (o : Option ℕ). is_same_value o (Some x)) is

-- ---- Literals

-- the truth value of a Boolean
abbrev pub truth : Language → List Bool → Boolean → Bool
truth l truths b = get_or truths (boolean_number l b - 1) false

yes_met : (l : Language) (e : Assignment) (v x : ℕ) → IsValue l v x → is_met (bits l e) (literal l true (boolean v x)) ≡ gives e (boolean v x)
yes_met l e v x is = beq-true (truth l (bits l e) (boolean v x)) ∙ truth_of l (gives e) v x is

no_met : (l : Language) (e : Assignment) (v x : ℕ) → IsValue l v x → is_met (bits l e) (literal l false (boolean v x)) ≡ not (gives e (boolean v x))
no_met l e v x is = beq-false (truth l (bits l e) (boolean v x)) ∙ ap not (truth_of l (gives e) v x is)

-- ---- The clauses hold of a complete assignment's Booleans

some_met : (l : Language) (e : Assignment) (v : ℕ) → Valued l e v → list_any (is_met (bits l e)) (some_value l v) ≡ true
some_met l e v y =
    any-map (is_met (bits l e)) (literal l true) (booleans_of l v)
    ∙ any-map (λ b. is_met (bits l e) (literal l true b)) (boolean v) (values_of l v)
    ∙ any_value l v y.value (λ x. is_met (bits l e) (literal l true (boolean v x))) y.among
    (yes_met l e v y.value y.among ∙ given_is e v y.value y.value y.is ∙ eq-eqb y.value y.value refl)

not_given : (l : Language) (e : Assignment) (v x y : ℕ) → value_of e v ≡ Some y → IsValue l v x → (y ≡ x → ⊥) → is_met (bits l e) (literal l false (boolean v x)) ≡ true
not_given l e v x y is among apart = no_met l e v x among ∙ ap not (given_is e v x y is ∙ ne_eqb y x apart)

no_two_met : (l : Language) (e : Assignment) (v : ℕ) → Valued l e v → v < variable_count l → list_all (list_any (is_met (bits l e))) (no_two_values l v) ≡ true
no_two_met l e v y low =
    ap (λ xs. list_all (list_any (is_met (bits l e))) (each_two (not_both l) (map (boolean v) xs))) (values-run l v)
    ∙ all_two (list_any (is_met (bits l e))) (not_both l) (boolean v) (first_of l v) (size_of l v) (λ i j from before high.
    go i j before (value_at l v i low from (omega arith)) (value_at l v j low (omega arith) high) (cases_eq y.value i))
  where
    go : (i j : ℕ) → i < j → IsValue l v i → IsValue l v j → (y.value ≡ i) ⊎ (y.value ≡ i → ⊥) → list_any (is_met (bits l e)) (not_both l (boolean v i) (boolean v j)) ≡ true
    go i j before one two (inr apart) = or_left (is_met (bits l e) (literal l false (boolean v i))) _ (not_given l e v i y.value y.is one apart)
    go i j before one two (inl same) =
        or_right (is_met (bits l e) (literal l false (boolean v i))) _
        (or_left (is_met (bits l e) (literal l false (boolean v j))) false (not_given l e v j y.value y.is two (λ also. absurd (omega (arith, same, also)))))

plain : (b : Bool) → ((b || false) && true) ≡ b
plain true = refl
plain false = refl

all_pass : {X : Type 0} (p : X → Bool) (xs : List X) → ((x : X) → p x ≡ true) → list_all p xs ≡ true
all_pass p [] h = refl
all_pass p (x ∷ xs) h = and_from (p x) (list_all p xs) (h x) (all_pass p xs h)

-- all tuples of a scope are accepted or not the assignment's, where the assignment's is accepted
tuples_tell : (l : Language) (e : Assignment) (q : List ℕ → Bool) (h : Boolean → Bool) (scope : List ℕ) → All (λ v. v < variable_count l) scope →
    ((v : ℕ) → v < variable_count l → Valued l e v) →
    ((v x : ℕ) → IsValue l v x → h (boolean v x) ≡ not (gives e (boolean v x))) →
    list_all (λ tuple. q (values_in tuple) || list_any h tuple) (tuples_on l scope) ≡ q (tuple_on e scope)
tuples_tell l e q h [] known all is = plain (q [])
tuples_tell l e q h (v ∷ scope) known all is =
    all-flat_map test (λ b. map (λ tuple. b ∷ tuple) (tuples_on l scope)) (booleans_of l v)
    ∙ list_all-map (λ b. list_all test (map (λ tuple. b ∷ tuple) (tuples_on l scope))) (boolean v) (values_of l v)
    ∙ ap (list_all (λ x. list_all test (map (λ tuple. boolean v x ∷ tuple) (tuples_on l scope)))) (values-run l v)
    ∙ all_same (λ x. list_all test (map (λ tuple. boolean v x ∷ tuple) (tuples_on l scope))) (λ x. cond (eqb y.value x) (q (x ∷ tuple_on e scope)) true) (first_of l v) (size_of l v)
    (λ x from high. each (λ z. tuples_tell l e (λ values. q (z ∷ values)) h scope (All-tail (λ w. w < variable_count l) v scope known) all is) x (value_at l v x low from high))
    ∙ only_one (λ x. q (x ∷ tuple_on e scope)) y.value (first_of l v) (size_of l v) y.among.from (let inside = place_in l v y.value y.among in let from = y.among.from in omega (arith, inside, from))
    ∙ ap (λ (o : Option ℕ). q (unwrap_or o 0 ∷ tuple_on e scope)) (sym y.is)
  where
    low : v < variable_count l
    low = All-head (λ w. w < variable_count l) v scope known

    y : Valued l e v
    y = all v low

    test : List Boolean → Bool
    test = λ tuple. q (values_in tuple) || list_any h tuple

    each : ((z : ℕ) → list_all (λ tuple. q (z ∷ values_in tuple) || list_any h tuple) (tuples_on l scope) ≡ q (z ∷ tuple_on e scope)) → (x : ℕ) → IsValue l v x → list_all test (map (λ tuple. boolean v x ∷ tuple) (tuples_on l scope)) ≡ cond (eqb y.value x) (q (x ∷ tuple_on e scope)) true
    each further x among =
        list_all-map test (λ tuple. boolean v x ∷ tuple) (tuples_on l scope)
        ∙ ap (λ b. list_all (λ tuple. q (x ∷ values_in tuple) || (b || list_any h tuple)) (tuples_on l scope)) (is v x among ∙ ap not (given_is e v x y.value y.is))
        ∙ go (eqb y.value x)
      where
        go : (s : Bool) → list_all (λ tuple. q (x ∷ values_in tuple) || (not s || list_any h tuple)) (tuples_on l scope) ≡ cond s (q (x ∷ tuple_on e scope)) true
        go true = further x
        go false = all_pass _ (tuples_on l scope) (λ tuple. or_right (q (x ∷ values_in tuple)) true refl)

covered : (e : Assignment) (scope : List ℕ) (n : ℕ) → All (λ v. v < n) scope → ((v : ℕ) → v < n → is_some (value_of e v) ≡ true) → covers e scope ≡ true
covered e [] n known h = refl
covered e (v ∷ scope) n known h = and_from (is_some (value_of e v)) (covers e scope) (h v (All-head (λ w. w < n) v scope known)) (covered e scope n (All-tail (λ w. w < n) v scope known) h)

not_rejecting : (covering accepting : Bool) → covering ≡ true → accepting ≡ not (covering && not accepting)
not_rejecting true true h = refl
not_rejecting true false h = refl
not_rejecting false accepting h = absurd (both_ways false refl h)

candidate_met : (l : Language) (e : Assignment) (c : Candidate) → IsLanguage l → IsCandidate l c → ((v : ℕ) → v < variable_count l → Valued l e v) →
    list_all (list_any (is_met (bits l e))) (none_rejected l c) ≡ not (violates l c e)
candidate_met l e c lawful candidate all =
    list_all-map (list_any (is_met (bits l e))) (λ tuple. map (literal l false) tuple) (rejected l c)
    ∙ all_failing (λ tuple. holds l.value_count (relation_of l c) (values_in tuple)) (λ tuple. list_any (is_met (bits l e)) (map (literal l false) tuple)) (tuples_on l (scope_of l c))
    ∙ (λ i. list_all (λ tuple. holds l.value_count (relation_of l c) (values_in tuple) || any-map (is_met (bits l e)) (literal l false) tuple i) (tuples_on l (scope_of l c)))
    ∙ tuples_tell l e (holds l.value_count (relation_of l c)) (λ b. is_met (bits l e) (literal l false b)) (scope_of l c) known all (λ v x among. no_met l e v x among)
    ∙ not_rejecting (covers e (scope_of l c)) (holds l.value_count (relation_of l c) (tuple_on e (scope_of l c)))
    (covered e (scope_of l c) (variable_count l) known (λ v low. ap is_some (all v low).is))
  where
    known : All (λ v. v < variable_count l) (scope_of l c)
    known = (lawful.scopes c.scope [] candidate.scope).known

network_met : (l : Language) (e : Assignment) (network : List Candidate) → IsLanguage l → IsNetwork l network → ((v : ℕ) → v < variable_count l → Valued l e v) →
    list_all (λ c. list_all (list_any (is_met (bits l e))) (none_rejected l c)) network ≡ accepts l network e
network_met l e [] lawful known all = refl
network_met l e (c ∷ network) lawful known all =
    λ i. candidate_met l e c lawful (All-head (IsCandidate l) c network known) all i && network_met l e network lawful (All-tail (IsCandidate l) c network known) all i

-- the three kinds of clauses
kinds : (l : Language) (network : List Candidate) (truths : List Bool) →
    satisfies_clauses truths (clauses l network)
    ≡ (list_all (λ v. list_any (is_met truths) (some_value l v)) (numbers (variable_count l))
    && (list_all (λ v. list_all (list_any (is_met truths)) (no_two_values l v)) (numbers (variable_count l))
    && list_all (λ c. list_all (list_any (is_met truths)) (none_rejected l c)) network))
kinds l network truths =
    list_all-append sat (map (some_value l) (numbers (variable_count l))) (flat_map (no_two_values l) (numbers (variable_count l)) ++ flat_map (none_rejected l) network)
    ∙ (λ i. list_all-map sat (some_value l) (numbers (variable_count l)) i
    && (list_all-append sat (flat_map (no_two_values l) (numbers (variable_count l))) (flat_map (none_rejected l) network)
    ∙ (λ j. all-flat_map sat (no_two_values l) (numbers (variable_count l)) j && all-flat_map sat (none_rejected l) network j)) i)
  where
    sat : Clause → Bool
    sat = list_any (is_met truths)

pub same_answers : (l : Language) (network : List Candidate) (e : Assignment) → IsLanguage l → IsNetwork l network → IsQuestion l e → is_complete e ≡ true → accepts l network e ≡ satisfies_clauses (bits l e) (clauses l network)
same_answers l network e lawful known question complete =
    let all : (v : ℕ) → v < variable_count l → Valued l e v = λ v low. valued l e v question complete low in
    sym (kinds l network (bits l e)
    ∙ (λ i. all_range (λ v. list_any (is_met (bits l e)) (some_value l v)) 0 (variable_count l) (λ v from low. some_met l e v (all v (omega arith))) i
    && (all_range (λ v. list_all (list_any (is_met (bits l e))) (no_two_values l v)) 0 (variable_count l) (λ v from low. no_two_met l e v (all v (omega arith)) (omega arith)) i
    && network_met l e network lawful known all i)))

-- ---- The assignment of truth values that satisfy the clauses

-- each variable has a value, and no two
record AreValues (l : Language) (truths : List Bool) : Type 0 where
  some : (v : ℕ) → v < variable_count l → list_any (λ x. truth l truths (boolean v x)) (values_of l v) ≡ true
  apart : (v i j : ℕ) → i < j → IsValue l v i → IsValue l v j → truth l truths (boolean v i) ≡ true → truth l truths (boolean v j) ≡ true → ⊥

not_both_true : (a b : Bool) → (beq a false || (beq b false || false)) ≡ true → a ≡ true → b ≡ true → ⊥
not_both_true a b h on also = both_ways (beq a false || (beq b false || false)) (λ i. beq (on i) false || (beq (also i) false || false)) h

values_from : (l : Language) (network : List Candidate) (truths : List Bool) → satisfies_clauses truths (clauses l network) ≡ true → AreValues l truths
values_from l network truths h =
    let n : ℕ = variable_count l in
    let first = and_parts _ _ (sym (kinds l network truths) ∙ h) in
    let second = and_parts _ _ first.1 in
    record {
      some = λ v low.
          sym (any-map (is_met truths) (literal l true) (booleans_of l v)
          ∙ any-map (λ b. is_met truths (literal l true b)) (boolean v) (values_of l v)
          ∙ (λ i. list_any (λ x. beq-true (truth l truths (boolean v x)) i) (values_of l v)))
          ∙ at_range (λ w. list_any (is_met truths) (some_value l w)) 0 n v first.0 (omega arith) (omega arith);
      apart = λ v i j before one two.
          let low = one.variable in
          let from = two.from in
          let inside = place_in l v j two in
          not_both_true (truth l truths (boolean v i)) (truth l truths (boolean v j))
          (at_two (list_any (is_met truths)) (not_both l) (boolean v) (first_of l v) (size_of l v) i j
          (ap (λ xs. list_all (list_any (is_met truths)) (each_two (not_both l) (map (boolean v) xs))) (sym (values-run l v))
          ∙ at_range (λ w. list_all (list_any (is_met truths)) (no_two_values l w)) 0 n v second.0 (omega arith) (omega (arith, low))) one.from before (omega (arith, from, inside)));
    }

abbrev chosen : Language → List Bool → ℕ → Option ℕ
chosen l truths v = find (λ x. truth l truths (boolean v x)) (values_of l v)

-- each variable with its true Boolean
abbrev pub solution : Language → List Bool → Assignment
solution l truths = map (chosen l truths) (numbers (variable_count l))

solution_at : (l : Language) (truths : List Bool) (v : ℕ) → v < variable_count l → value_of (solution l truths) v ≡ chosen l truths v
solution_at l truths v low = get_or-map-range_with_len (chosen l truths) 0 (variable_count l) v v None low (omega arith)

record Chosen (l : Language) (truths : List Bool) (v : ℕ) : Type 0 where
  value : ℕ
  among : IsValue l v value
  is : chosen l truths v ≡ Some value
  on : truth l truths (boolean v value) ≡ true

choice : (l : Language) (truths : List Bool) (v : ℕ) → AreValues l truths → v < variable_count l → Chosen l truths v
choice l truths v values low = go (chosen l truths v) refl
  where
    go : (o : Option ℕ) → chosen l truths v ≡ o → Chosen l truths v
    go None none = absurd (both_ways (list_any (λ x. truth l truths (boolean v x)) (values_of l v)) (find_none (λ x. truth l truths (boolean v x)) (values_of l v) none) (values.some v low))
    go (Some x) some = record {
      value = x;
      among = find_all (IsValue l v) (λ y. truth l truths (boolean v y)) (values_of l v) x (all_values l v (IsValue l v) low (λ y is. is)) some;
      is = some;
      on = find_some (λ y. truth l truths (boolean v y)) (values_of l v) x some;
    }

-- the other Booleans of the variable are false
only_chosen : (l : Language) (truths : List Bool) (v x : ℕ) → AreValues l truths → (y : Chosen l truths v) → IsValue l v x → eqb y.value x ≡ truth l truths (boolean v x)
only_chosen l truths v x values y among = go (cases_eq y.value x) (truth l truths (boolean v x)) refl
  where
    go : (y.value ≡ x) ⊎ (y.value ≡ x → ⊥) → (b : Bool) → truth l truths (boolean v x) ≡ b → eqb y.value x ≡ truth l truths (boolean v x)
    go (inl same) b is = eq-eqb y.value x same ∙ sym (ap (λ z. truth l truths (boolean v z)) (sym same) ∙ y.on)
    go (inr apart) false off = ne_eqb y.value x apart ∙ sym off
    go (inr apart) true on = absurd (elim (cases_lt y.value x) [ inl before ↦ values.apart v y.value x before y.among among y.on on | inr after ↦ values.apart v x y.value (omega arith) among y.among on y.on ])

pub one_solution : (l : Language) (network : List Candidate) (truths : List Bool) → length truths ≡ length (booleans l) → satisfies_clauses truths (clauses l network) ≡ true → (e : Assignment) × IsOnlyModel l truths e
one_solution l network truths long h = (
  solution l truths,
  record {
    question = record {
      size = length-map-range_with_len (chosen l truths) 0 n;
      values_fit = λ k d low x some.
          let inside : k < n = omega (arith, length-map-range_with_len (chosen l truths) 0 n) in
          let y = choice l truths k values inside in
          let at : Some x ≡ Some y.value = sym some ∙ get_or-map-range_with_len (chosen l truths) 0 n k k d inside (omega arith) ∙ y.is in
          let same : x ≡ y.value = cc in
          let fits = y.among.fits in
          omega (arith, same, fits);
      within = λ v low.
          let y = choice l truths v values low in
          ap (is_ranged l v) (solution_at l truths v low ∙ y.is) ∙ value_in l v y.value y.among;
    };
    complete = list_all-map is_some (chosen l truths) (numbers n) ∙ all_range (λ v. is_some (chosen l truths v)) 0 n (λ v from low. ap is_some (choice l truths v values (omega arith)).is);
    is = same_truths l (bits l (solution l truths)) truths (length-map (booleans l) (gives (solution l truths))) long (λ v x among.
        let y = choice l truths v values among.variable in
        truth_of l (gives (solution l truths)) v x among
        ∙ given_is (solution l truths) v x y.value (solution_at l truths v among.variable ∙ y.is)
        ∙ only_chosen l truths v x values y among);
    only = λ other question complete same.
        ext_get_or None other (solution l truths) (question.size ∙ sym (length-map-range_with_len (chosen l truths) 0 n)) (λ v inside.
        let size = question.size in
        let low : v < n = omega (arith, size, inside) in
        let x = valued l other v question complete low in
        let y = choice l truths v values low in
        let on : eqb x.value y.value ≡ true =
        sym (given_is other v y.value x.value x.is)
        ∙ sym (truth_of l (gives other) v y.value y.among)
        ∙ ap (λ (all : List Bool). truth l all (boolean v y.value)) same
        ∙ y.on in
        x.is ∙ ap (λ (k : ℕ). Some k) (eqb-true x.value y.value on) ∙ sym (solution_at l truths v low ∙ y.is));
  },
)
  where
    n : ℕ
    n = variable_count l

    values : AreValues l truths
    values = values_from l network truths h

pub encode : ClausesEncode
encode l network lawful known = record {
  same = λ e question complete. same_answers l network e lawful known question complete;
  one = λ truths long h. one_solution l network truths long h;
}

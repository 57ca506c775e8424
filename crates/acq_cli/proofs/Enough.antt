-- Budgets that are enough.
use Rattle.acq_cli.proofs.Prelude.{All, All-filter, Answer, BudgetIsEnough, Candidate, GeneratedIsShort, IsGenerated, IsLeftOpen, IsTrue, Language, List, Terms, [], ap, arith, candidates, flat_map, get_or, inr, is_among, kept, length, length-append, length-map, map, name_of, open_candidates, refl, suc, variable_count, zero, ℕ, ◌*◌, ◌+◌, ◌<◌, ◌∙◌, ◌∷◌, ◌≡◌, ◌≢◌, ◌≤◌}
use Rattle.std.proofs.lemmas.List.FromFn.{length-range_with_len}
use Rattle.std.proofs.lemmas.List.Sums.{length-filter, count_by-le-length}
use Rattle.assign.specs.Sets.{numbers}
use Rattle.language.specs.Search.{prefixes, is_plain, plain_size}
use Rattle.fd_solver.proofs.Outcomes.{plain_is_less}

pub budget_is_enough : BudgetIsEnough
budget_is_enough turns l terms events bytes all =
    inr (λ run t more network end runs is at.
    let Fits : Candidate → Type 0 = λ c. plain_size l network c ≤ terms.budget in
    let fits : All Fits (candidates l) = λ k d low. (let less = plain_is_less l [] network (get_or (candidates l) k d) in let enough = all k d low in omega arith) in
    All-filter _ Fits (candidates l) fits)

-- ---- how many prefixes there are

prefix_count : ℕ → ℕ → ℕ
prefix_count d zero = 1
prefix_count d (suc k) = 1 + d * prefix_count d k

-- a list for each member of another, all as long
flat_map_length : (f : ℕ → List (List ℕ)) (size : ℕ) → ((x : ℕ) → length (f x) ≡ size) → (xs : List ℕ) → length (flat_map f xs) ≡ length xs * size
flat_map_length f size long [] = omega arith
flat_map_length f size long (x ∷ xs) = let rest = flat_map_length f size long xs in omega (arith, long x, rest, length-append (f x) (flat_map f xs))

count_is : (d k : ℕ) → length (prefixes d k) ≡ prefix_count d k
unfolding prefix_count
count_is d zero = refl
count_is d (suc k) =
    let each = flat_map_length (λ x. map (λ p. x ∷ p) (prefixes d k)) (length (prefixes d k)) (λ x. length-map (prefixes d k) (λ p. x ∷ p)) (numbers d) in
    let many : length (numbers d) ≡ d = length-range_with_len 0 d in
    let all : length (flat_map (λ x. map (λ p. x ∷ p) (prefixes d k)) (numbers d)) ≡ d * prefix_count d k = each ∙ ap (λ m. m * length (prefixes d k)) many ∙ ap (λ m. d * m) (count_is d k) in
    omega (arith, all)

ten_of_three : prefix_count 3 10 ≡ 88573
unfolding prefix_count
ten_of_three = refl

short : (l : Language) (network : List Candidate) (c : Candidate) → IsGenerated l → plain_size l network c ≤ 88573
short l network c made =
    let all = prefixes l.value_count (variable_count l) in
    let ten : variable_count l ≡ 10 = ap (λ (ns : List (List ℕ)). length ns) made.names ∙ length-map (numbers 10) name_of ∙ length-range_with_len 0 10 in
    let count : length all ≡ 88573 = count_is l.value_count (variable_count l) ∙ (λ i. prefix_count (made.value_count i) (ten i)) ∙ ten_of_three in
    let few = count_by-le-length (is_plain l network c) all in
    omega (arith, few, count, length-filter (is_plain l network c) all)

pub generated_is_short : GeneratedIsShort
generated_is_short = record {
  short = short;
  enough = λ turns l plan budget events bytes made most.
      budget_is_enough turns l _ events bytes (λ k d low. (let few = short l [] (get_or (candidates l) k d) made in omega arith));
}

-- so no session about it is left open under such a budget
pub generated_is_settled : (l : Language) (terms : Terms) (t : List Answer) → IsGenerated l → 88573 ≤ terms.budget → IsLeftOpen l terms t → ⊥
generated_is_settled l terms t made enough held = go (open_candidates l terms t held.network) held.some held.each
  where
    go : (cs : List Candidate) → cs ≢ [] → All (λ c. IsTrue (is_among (kept l t held.network) c) × (terms.budget < plain_size l held.network c)) cs → ⊥
    go [] some each = some refl
    go (c ∷ cs) some each =
        let large : terms.budget < plain_size l held.network c = (each 0 c (omega arith)).1 in
        let small = short l held.network c made in
        omega (arith, enough, large, small)

-- How many answers the largest language allows.
use Rattle.session_laws.proofs.Prelude.{ℕ, ◌+◌, ◌*◌, ◌≤◌, List, [], ◌∷◌, length, map, arith, length-append, All, flat_map, All-head, All-tail, All-map, length-map-range_with_len, length-range_with_len, numbers, Candidate, Language, IsLanguage, variable_count, relations_on, candidates, candidates_on, log_up, log_is_least, all_below, greatest_arity, AnswersFit}
use Rattle.std.proofs.lemmas.Nat.{mul-le}
use Rattle.session_laws.proofs.Lengths.{greatest_below}

-- lists of at most so many members each
flat_map_length : {X Y : Type 0} (f : X → List Y) (most : ℕ) (xs : List X) → All (λ x. length (f x) ≤ most) xs → length (flat_map f xs) ≤ length xs * most
flat_map_length f most [] all = omega arith
flat_map_length f most (x ∷ xs) all =
    let first = All-head (λ x. length (f x) ≤ most) x xs all in
    let rest = flat_map_length f most xs (All-tail (λ x. length (f x) ≤ most) x xs all) in
    omega (arith, length-append (f x) (flat_map f xs))

-- the number that the limits make of each part
in_numbers : (candidates scopes arity lg variables : ℕ) → candidates ≤ scopes * 64 → scopes ≤ 8192 → arity ≤ 4 → lg ≤ 7 → variables ≤ 128 →
    candidates + scopes * (arity * lg + 1) + variables * lg + 1 ≤ 762753
in_numbers candidates scopes arity lg variables c k a g n =
    let one = mul-le arity lg 4 7 a g in
    let two = mul-le scopes (arity * lg + 1) 8192 29 k (omega arith) in
    let three = mul-le variables lg 128 7 n g in
    omega arith

module _ (l : Language) (lawful : IsLanguage l) where
  candidates_few : length (candidates l) ≤ length l.scopes * 64
  candidates_few =
      let all = flat_map_length (candidates_on l) 64 (numbers (length l.scopes)) (all_below (λ s. length (candidates_on l s) ≤ 64) (length l.scopes) (λ s low.
      let few = lawful.few_relations s low in
      omega (arith, length-map-range_with_len (λ r. let c : Candidate = record { scope = s; rel = r } in c) 0 (length (relations_on l s))))) in
      omega (arith, length-range_with_len 0 (length l.scopes))

  arity_few : greatest_arity l ≤ 4
  arity_few = greatest_below 0 4 (map length l.scopes) (omega arith) (All-map (λ x. x ≤ 4) length l.scopes (λ k d low. (lawful.scopes k d low).short))

pub answers_fit : AnswersFit
answers_fit l lawful =
    in_numbers (length (candidates l)) (length l.scopes) (greatest_arity l) (log_up (variable_count l)) (variable_count l)
    (candidates_few l lawful) lawful.few_scopes (arity_few l lawful) (log_is_least.least (variable_count l) 7 lawful.few_variables) lawful.few_variables

-- The numbers of candidates.
use Rattle.language.proofs.Prelude.{◌≡◌, ℕ, zero, suc, ◌+◌, ◌-◌, ◌*◌, ◌<◌, ◌≤◌, [], ◌∷◌, ◌++◌, length, take, get_or, sym, ◌∙◌, ap, subst, arith, flat_map, length-map, length-append, map-id, append-nil, length-range_with_len, get_or-range_with_len, map-range_with_len_more, take-map-range_with_len, get_or-map-range_with_len, flat_map-append, get_or-flat_map, numbers, Candidate, Language, IsCandidate, candidates_on, candidates, number_of, relations_on, CandidatesAreNumbered}

-- how many candidates are on the first s scopes
abbrev pub count : Language → ℕ → ℕ
count l s = length (flat_map (candidates_on l) (numbers s))

pub numbers_more : (s : ℕ) → numbers (s + 1) ≡ numbers s ++ s ∷ []
numbers_more s = sym (map-id (numbers (s + 1))) ∙ map-range_with_len_more (λ (x : ℕ). x) 0 s s (let e : 0 + s ≡ s = omega arith in e) ∙ ap (λ xs. xs ++ s ∷ []) (map-id (numbers s))

numbers_take : (s n : ℕ) → s ≤ n → take s (numbers n) ≡ numbers s
numbers_take s n low = ap (take s) (sym (map-id (numbers n))) ∙ take-map-range_with_len (λ (x : ℕ). x) 0 n s low ∙ map-id (numbers s)

numbers_at : (s n : ℕ) → s < n → get_or (numbers n) s 0 ≡ s
numbers_at s n low = get_or-range_with_len 0 n s 0 low ∙ (let e : 0 + s ≡ s = omega arith in e)

pub length-candidates_on : (l : Language) (s : ℕ) → length (candidates_on l s) ≡ length (relations_on l s)
length-candidates_on l s =
    length-map (numbers (length (relations_on l s))) (λ (r : ℕ). let c : Candidate = record { scope = s; rel = r } in c) ∙ length-range_with_len 0 (length (relations_on l s))

pub count_more : (l : Language) (s : ℕ) → count l (s + 1) ≡ count l s + length (relations_on l s)
count_more l s =
    ap (λ xs. length (flat_map (candidates_on l) xs)) (numbers_more s)
    ∙ ap length (flat_map-append (candidates_on l) (numbers s) (s ∷ []))
    ∙ length-append (flat_map (candidates_on l) (numbers s)) (candidates_on l s ++ [])
    ∙ ap (λ n. count l s + n) (ap length (append-nil (candidates_on l s)) ∙ length-candidates_on l s)

rises_by : (l : Language) (s k : ℕ) → count l s ≤ count l (s + k)
rises_by l s zero = let same : count l (s + 0) ≡ count l s = ap (count l) (let e : s + 0 ≡ s = omega arith in e) in omega arith
rises_by l s (suc k) =
    let rest = rises_by l s k in
    let next = count_more l (s + k) in
    let same : count l (s + suc k) ≡ count l ((s + k) + 1) = ap (count l) (let e : s + suc k ≡ (s + k) + 1 = omega arith in e) in
    omega arith

pub count_rises : (l : Language) (s t : ℕ) → s ≤ t → count l s ≤ count l t
count_rises l s t low = let far = rises_by l s (t - s) in let same : count l (s + (t - s)) ≡ count l t = ap (count l) (let e : s + (t - s) ≡ t = omega arith in e) in omega arith

-- at most 64 candidates on each scope
pub count_few : (l : Language) (n : ℕ) → ((s : ℕ) → s < n → length (relations_on l s) ≤ 64) → count l n ≤ 64 * n
count_few l zero few = omega arith
count_few l (suc n) few =
    let rest = count_few l n (λ s low. few s (omega arith)) in
    let here = few n (omega arith) in
    let next = count_more l n in
    let same : count l (suc n) ≡ count l (n + 1) = ap (count l) (let e : suc n ≡ n + 1 = omega arith in e) in
    omega arith

-- ---- Each candidate at its number

pub number_below : (l : Language) (c : Candidate) → IsCandidate l c → number_of l c < length (candidates l)
number_below l c is =
    let next = count_more l c.scope in
    let low = is.scope in
    let rel = is.rel in
    let rest = count_rises l (c.scope + 1) (length l.scopes) (omega arith) in
    omega arith

there : (l : Language) (c other : Candidate) → IsCandidate l c → get_or (candidates l) (number_of l c) other ≡ c
there l c other is =
    let n : ℕ = length l.scopes in
    let at = numbers_at c.scope n is.scope in
    let inside : c.rel < length (candidates_on l (get_or (numbers n) c.scope 0)) =
    subst (λ (s : ℕ). c.rel < length (candidates_on l s)) (sym at) (subst (λ (k : ℕ). c.rel < k) (sym (length-candidates_on l c.scope)) is.rel) in
    ap (λ xs. get_or (candidates l) (length (flat_map (candidates_on l) xs) + c.rel) other) (sym (numbers_take c.scope n (let low = is.scope in omega arith)))
    ∙ get_or-flat_map (candidates_on l) (numbers n) c.scope c.rel 0 other (let low = is.scope in omega (arith, length-range_with_len 0 n)) inside
    ∙ ap (λ (s : ℕ). get_or (candidates_on l s) c.rel other) at
    ∙ get_or-map-range_with_len (λ (r : ℕ). let c : Candidate = record { scope = c.scope; rel = r } in c) 0 (length (relations_on l c.scope)) c.rel c.rel other is.rel (let e : 0 + c.rel ≡ c.rel = omega arith in e)

pub numbered : CandidatesAreNumbered
numbered l = record {
  below = number_below l;
  there = there l;
  apart = λ c d is_c is_d same. sym (there l c c is_c) ∙ ap (λ k. get_or (candidates l) k c) same ∙ there l d c is_d;
}

-- Candidates by their numbers.
use Rattle.query_gen.proofs.Prelude.{◌≡◌, ℕ, ◌+◌, ◌<◌, ◌≤◌, List, [], ◌∷◌, ◌++◌, length, map, take, get_or, sym, ◌∙◌, ap, arith, length-map, map_more, take_all, get_or_read, numbers, Candidate, Language, IsCandidate, candidates, number_of, numbered, Remembered, AreMarksFor}
use Rattle.std.proofs.lemmas.List.FromFn.{length-range_with_len, get_or-range_with_len, get_or-map-range_with_len}

-- the first candidate on a scope
abbrev pub first_on : ℕ → Candidate
first_on s = record { scope = s; rel = 0 }

-- no two candidates have one number
pub same_number : (l : Language) (c d : Candidate) → IsCandidate l c → IsCandidate l d → number_of l c ≡ number_of l d → c ≡ d
same_number l c d is_c is_d same = sym ((numbered l).there c (first_on 0) is_c) ∙ ap (λ n. get_or (candidates l) n (first_on 0)) same ∙ (numbered l).there d (first_on 0) is_d

-- ---- The numbers that a screen holds

pub length-first : (l : Language) (s : Remembered) → AreMarksFor l s → length s.first ≡ length l.scopes
length-first l s made =
    ap length made.first
    ∙ length-map (numbers (length l.scopes)) (λ (at : ℕ). number_of l (first_on at))
    ∙ length-range_with_len 0 (length l.scopes)

-- a candidate's number, from that of the first on its scope
pub number_from : (l : Language) (s : Remembered) (c : Candidate) → AreMarksFor l s → IsCandidate l c → get_or s.first c.scope 0 + c.rel ≡ number_of l c
number_from l s c made is =
    let first : get_or s.first c.scope 0 ≡ number_of l (first_on c.scope) =
    ap (λ xs. get_or xs c.scope 0) made.first ∙ get_or-map-range_with_len (λ (at : ℕ). number_of l (first_on at)) 0 (length l.scopes) c.scope c.scope 0 is.scope (let e : 0 + c.scope ≡ c.scope = omega arith in e) in
    omega arith

-- ---- One scope after another

pub one_more : (f : ℕ → ℕ) (n i y : ℕ) (xs ys : List ℕ) → i < n → y ≡ f i → ys ≡ xs ++ y ∷ [] → xs ≡ map f (take i (numbers n)) → ys ≡ map f (take (i + 1) (numbers n))
one_more f n i y xs ys low is pushed so_far =
    pushed
    ∙ ap (λ zs. zs ++ y ∷ []) so_far
    ∙ ap (λ z. map f (take i (numbers n)) ++ z ∷ []) (is ∙ ap f (sym (get_or-range_with_len 0 n i 0 low ∙ (let e : 0 + i ≡ i = omega arith in e))))
    ∙ sym (map_more f (numbers n) i 0 (let long = length-range_with_len 0 n in omega arith))

pub all_numbers : (f : ℕ → ℕ) (n i : ℕ) (xs : List ℕ) → n ≤ i → xs ≡ map f (take i (numbers n)) → xs ≡ map f (numbers n)
all_numbers f n i xs past so_far = so_far ∙ ap (map f) (take_all i (numbers n) (let long = length-range_with_len 0 n in omega arith))

-- ---- Reading a mark

-- the number that the fields of a screen give a candidate
pub read_number : (l : Language) (s : Remembered) (c : Candidate) → AreMarksFor l s → IsCandidate l c → (at first rel : ℕ) → at ≡ c.scope → at < length s.first → first ≡ get_or s.first at first → rel ≡ c.rel → first + rel ≡ number_of l c
read_number l s c made is at first rel here low read same =
    let all : first ≡ get_or s.first c.scope 0 = get_or_read s.first at first low read 0 ∙ ap (λ k. get_or s.first k 0) here in
    let from = number_from l s c made is in
    omega arith

-- The lines of clauses, a piece for each number.
use Rattle.net_cnf.proofs.Prelude.{◌≡◌, ℕ, zero, suc, ◌+◌, ◌-◌, ◌*◌, ◌/◌, ◌^◌, ◌<◌, ◌≤◌, ◌&&◌, Bool, true, false, not, cond, List, [], ◌∷◌, ◌++◌, length, map, take, get_or, set, replicate, ℤ, Some, None, refl, sym, ◌∙◌, ap, arith, slice_get, flat_map, filter, range_with_len, append-nil, length-append, length-map, map-append, map-id, take_more, get_or_from_slice_get, and_from, and_right, filter-append, mul-le-mul, flat_map-append, fill_by_all, length-map-range_with_len, filter_of_map_range_with_len_more, numbers, holds, tuples, tuple_at, length-tuples, get_or-tuples, length-tuple_at, place-tuple_at, Candidate, Language, IsLanguage, IsCandidate, variable_count, range_of, values_of, scope_of, relation_of, is_in, are_in, IsRange, value_text, values_text, Boolean, boolean, booleans, booleans_of, literal, some_value, each_two, not_both, no_two_values, tuples_on, values_in, rejected, none_rejected, clauses, paired, tuple_there, accepts_there, place_piece, item_piece, literal_text, clause_text, boolean_text}
use Rattle.net_cnf.proofs.Adding.{pieces_more}
use Rattle.net_cnf.proofs.Outside.{rejected_within}
use Rattle.net_cnf.proofs.Runs.{first_of, size_of, values-run}
use Rattle.shared_lemmas.proofs.Lists.{filter-map, map-flat_map}

pub flat_map-map : {X Y Z : Type 0} (f : Y → List Z) (g : X → Y) (xs : List X) → flat_map f (map g xs) ≡ flat_map (λ x. f (g x)) xs
flat_map-map f g [] = refl
flat_map-map f g (x ∷ xs) = ap (λ r. f (g x) ++ r) (flat_map-map f g xs)

pub flat_map-flat_map : {X Y Z : Type 0} (f : Y → List Z) (g : X → List Y) (xs : List X) → flat_map f (flat_map g xs) ≡ flat_map (λ x. flat_map f (g x)) xs
flat_map-flat_map f g [] = refl
flat_map-flat_map f g (x ∷ xs) = flat_map-append f (g x) (flat_map g xs) ∙ ap (λ r. flat_map f (g x) ++ r) (flat_map-flat_map f g xs)

-- ---- clauses of literals of one sign

-- a Boolean's literal, and a space
abbrev pub literal_piece : Language → Bool → Boolean → List ℕ
literal_piece l positive b = literal_text (literal l positive b) ++ 32 ∷ []

pub some_value_pieces : (l : Language) (v : ℕ) → flat_map (λ x. literal_piece l true (boolean v x)) (range_with_len (first_of l v) (size_of l v)) ++ 48 ∷ 10 ∷ [] ≡ clause_text (some_value l v)
some_value_pieces l v = ap (λ r. r ++ 48 ∷ 10 ∷ [])
    (sym (flat_map-map (λ literal. literal_text literal ++ 32 ∷ []) (literal l true) (booleans_of l v) ∙ flat_map-map (literal_piece l true) (boolean v) (values_of l v)
    ∙ ap (flat_map (λ x. literal_piece l true (boolean v x))) (values-run l v)))

-- ---- each two

abbrev pub pair_piece : Language → ℕ → ℕ → ℕ → List ℕ
pair_piece l v x y = clause_text (not_both l (boolean v x) (boolean v y))

-- a value with each above it, up to the last
abbrev pub row_piece : Language → ℕ → ℕ → ℕ → List ℕ
row_piece l v last x = flat_map (pair_piece l v x) (range_with_len (x + 1) (last - x))

rows : (l : Language) (v last a n : ℕ) → last + 1 ≡ a + n → flat_map clause_text (each_two (not_both l) (map (boolean v) (range_with_len a n))) ≡ flat_map (row_piece l v last) (range_with_len a n)
rows l v last a zero e = refl
rows l v last a (suc n) e =
    flat_map-append clause_text (map (not_both l (boolean v a)) (map (boolean v) (range_with_len (a + 1) n))) (each_two (not_both l) (map (boolean v) (range_with_len (a + 1) n)))
    ∙ (λ i. (flat_map-map clause_text (not_both l (boolean v a)) (map (boolean v) (range_with_len (a + 1) n))
    ∙ flat_map-map (λ b. clause_text (not_both l (boolean v a) b)) (boolean v) (range_with_len (a + 1) n)
    ∙ ap (λ k. flat_map (pair_piece l v a) (range_with_len (a + 1) k)) (let g : n ≡ last - a = omega arith in g)) i
    ++ rows l v last (a + 1) n (omega arith) i)

pub no_two_pieces : (l : Language) (v : ℕ) → IsRange l.value_count (range_of l v) → flat_map (row_piece l v (range_of l v).last) (range_with_len (first_of l v) (size_of l v)) ≡ flat_map clause_text (no_two_values l v)
no_two_pieces l v range =
    let some = range.some in
    let known = range.known in
    sym (ap (λ xs. flat_map clause_text (each_two (not_both l) (map (boolean v) xs))) (values-run l v)
    ∙ rows l v (range_of l v).last (first_of l v) (size_of l v) (omega (arith, some, known)))

-- ---- the Booleans of a tuple

length-paired : (scope values : List ℕ) → length scope ≡ length values → length (paired scope values) ≡ length scope
length-paired [] values e = refl
length-paired (v ∷ scope) [] e = absurd (omega arith)
length-paired (v ∷ scope) (x ∷ values) e = ap suc (length-paired scope values (omega arith))

get_or-paired : (scope values : List ℕ) (k : ℕ) (d : Boolean) → length scope ≡ length values → k < length scope → get_or (paired scope values) k d ≡ boolean (get_or scope k 0) (get_or values k 0)
get_or-paired [] values k d e low = absurd (omega arith)
get_or-paired (v ∷ scope) [] k d e low = absurd (omega arith)
get_or-paired (v ∷ scope) (x ∷ values) zero d e low = refl
get_or-paired (v ∷ scope) (x ∷ values) (suc k) d e low = get_or-paired scope values k d (omega arith) (omega arith)

pub paired-is : (scope values : List ℕ) → length scope ≡ length values → paired scope values ≡ map (λ i. boolean (get_or scope i 0) (get_or values i 0)) (range_with_len 0 (length scope))
paired-is scope values e = fill_by_all (λ i. boolean (get_or scope i 0) (get_or values i 0)) (paired scope values) (length scope) (boolean 0 0) (length-paired scope values e) (λ k low. get_or-paired scope values k (boolean 0 0) e low)

abbrev pub not_all_piece : Language → List ℕ → List ℕ → ℕ → List ℕ
not_all_piece l scope values i = literal_piece l false (boolean (get_or scope i 0) (get_or values i 0))

pub not_all_pieces : (l : Language) (scope values : List ℕ) → length scope ≡ length values →
    flat_map (not_all_piece l scope values) (range_with_len 0 (length scope)) ++ 48 ∷ 10 ∷ [] ≡ clause_text (map (literal l false) (paired scope values))
not_all_pieces l scope values e = ap (λ r. r ++ 48 ∷ 10 ∷ [])
    (sym (flat_map-map (λ literal. literal_text literal ++ 32 ∷ []) (literal l false) (paired scope values)
    ∙ ap (flat_map (literal_piece l false)) (paired-is scope values e)
    ∙ flat_map-map (literal_piece l false) (λ i. boolean (get_or scope i 0) (get_or values i 0)) (range_with_len 0 (length scope))))

-- ---- what a Boolean stands for

nothing_shown : (least : ℤ) (names : List (List ℕ)) (n : ℕ) → values_text least names (replicate n None) ≡ []
nothing_shown least [] n = refl
nothing_shown least (name ∷ names) zero = refl
nothing_shown least (name ∷ names) (suc n) = nothing_shown least names n

pub alone_shown : (least : ℤ) (names : List (List ℕ)) (v x : ℕ) → v < length names → values_text least names (set (replicate (length names) None) v (Some x)) ≡ value_text least (get_or names v []) (Some x)
alone_shown least [] v x low = absurd (omega arith)
alone_shown least (name ∷ names) zero x low = ap (λ t. value_text least name (Some x) ++ t) (nothing_shown least names (length names)) ∙ append-nil (value_text least name (Some x))
alone_shown least (name ∷ names) (suc v) x low = alone_shown least names v x (omega arith)

-- ---- the whole, by numbers of variables

pub booleans_of_pieces : (l : Language) (v : ℕ) → flat_map (λ x. boolean_text l (boolean v x)) (range_with_len (first_of l v) (size_of l v)) ≡ flat_map (boolean_text l) (booleans_of l v)
booleans_of_pieces l v = sym (flat_map-map (boolean_text l) (boolean v) (values_of l v) ∙ ap (flat_map (λ x. boolean_text l (boolean v x))) (values-run l v))

pub booleans_pieces : (l : Language) → flat_map (λ v. flat_map (boolean_text l) (booleans_of l v)) (range_with_len 0 (variable_count l)) ≡ flat_map (boolean_text l) (booleans l)
booleans_pieces l = sym (flat_map-flat_map (boolean_text l) (booleans_of l) (numbers (variable_count l)))

pub some_pieces : (l : Language) → flat_map (λ v. clause_text (some_value l v)) (range_with_len 0 (variable_count l)) ≡ flat_map clause_text (map (some_value l) (numbers (variable_count l)))
some_pieces l = sym (flat_map-map clause_text (some_value l) (numbers (variable_count l)))

pub no_two_all_pieces : (l : Language) → flat_map (λ v. flat_map clause_text (no_two_values l v)) (range_with_len 0 (variable_count l)) ≡ flat_map clause_text (flat_map (no_two_values l) (numbers (variable_count l)))
no_two_all_pieces l = sym (flat_map-flat_map clause_text (no_two_values l) (numbers (variable_count l)))

-- ---- the tuples of a scope, by their places

paired_with : (v x : ℕ) (scope : List ℕ) (tuples : List (List ℕ)) → map (λ t. boolean v x ∷ t) (map (paired scope) tuples) ≡ map (paired (v ∷ scope)) (map (λ t. x ∷ t) tuples)
paired_with v x scope [] = refl
paired_with v x scope (t ∷ tuples) = ap (λ r. (boolean v x ∷ paired scope t) ∷ r) (paired_with v x scope tuples)

filter-filter : {X : Type 0} (q p : X → Bool) (xs : List X) → filter q (filter p xs) ≡ filter (λ x. p x && q x) xs
filter-filter q p [] = refl
filter-filter q p (x ∷ xs) = go (p x) ∙ ap (λ r. cond (p x && q x) (x ∷ r) r) (filter-filter q p xs)
  where
    go : (b : Bool) → filter q (cond b (x ∷ filter p xs) (filter p xs)) ≡ cond (b && q x) (x ∷ filter q (filter p xs)) (filter q (filter p xs))
    go true = refl
    go false = refl

-- of tuples that begin with each of several values, those whose first value and whose rest pass
filter-first : (p : ℕ → Bool) (q : List ℕ → Bool) (r : List ℕ → Bool) (tuples : List (List ℕ)) → ((x : ℕ) (t : List ℕ) → r (x ∷ t) ≡ (p x && q t)) → (xs : List ℕ) →
    filter r (flat_map (λ x. map (λ t. x ∷ t) tuples) xs) ≡ flat_map (λ x. map (λ t. x ∷ t) (filter q tuples)) (filter p xs)
filter-first p q r tuples is [] = refl
filter-first p q r tuples is (x ∷ xs) =
    filter-append r (map (λ t. x ∷ t) tuples) (flat_map (λ y. map (λ t. y ∷ t) tuples) xs)
    ∙ (λ i. (filter-map r (λ t. x ∷ t) tuples ∙ ap (map (λ t. x ∷ t)) (same_tests (λ t. is x t) tuples)) i ++ filter-first p q r tuples is xs i)
    ∙ go (p x)
  where
    same_tests : {f g : List ℕ → Bool} → ((t : List ℕ) → f t ≡ g t) → (ts : List (List ℕ)) → filter f ts ≡ filter g ts
    same_tests h [] = refl
    same_tests h (t ∷ ts) = λ i. cond (h t i) (t ∷ same_tests h ts i) (same_tests h ts i)

    none : (ts : List (List ℕ)) → filter (λ t. false) ts ≡ []
    none [] = refl
    none (t ∷ ts) = none ts

    go : (b : Bool) → map (λ t. x ∷ t) (filter (λ t. b && q t) tuples) ++ flat_map (λ y. map (λ t. y ∷ t) (filter q tuples)) (filter p xs)
        ≡ flat_map (λ y. map (λ t. y ∷ t) (filter q tuples)) (cond b (x ∷ filter p xs) (filter p xs))
    go true = refl
    go false = ap (λ r. map (λ t. x ∷ t) r ++ flat_map (λ y. map (λ t. y ∷ t) (filter q tuples)) (filter p xs)) (none tuples)

-- those within the ranges
tuples_paired : (l : Language) (scope : List ℕ) → tuples_on l scope ≡ map (paired scope) (filter (are_in l.ranges scope) (tuples l.value_count (length scope)))
tuples_paired l [] = refl
tuples_paired l (v ∷ scope) =
    flat_map-map (λ b. map (λ t. b ∷ t) (tuples_on l scope)) (boolean v) (values_of l v)
    ∙ (λ i. flat_map (λ x. (ap (map (λ t. boolean v x ∷ t)) (tuples_paired l scope) ∙ paired_with v x scope (filter (are_in l.ranges scope) (tuples l.value_count (length scope)))) i) (values_of l v))
    ∙ sym (map-flat_map (paired (v ∷ scope)) (λ x. map (λ t. x ∷ t) (filter (are_in l.ranges scope) (tuples l.value_count (length scope)))) (values_of l v))
    ∙ ap (map (paired (v ∷ scope)))
    (sym (filter-first (is_in (range_of l v)) (are_in l.ranges scope) (are_in l.ranges (v ∷ scope)) (tuples l.value_count (length scope)) (λ x t. refl) (range_with_len 0 l.value_count)))

by_place : (d a : ℕ) → tuples d a ≡ map (tuple_at d a) (range_with_len 0 (d ^ a))
by_place d a = fill_by_all (tuple_at d a) (tuples d a) (d ^ a) [] (length-tuples d a) (λ k low. get_or-tuples d a k low)

values-paired : (scope values : List ℕ) → length scope ≡ length values → values_in (paired scope values) ≡ values
values-paired [] [] e = refl
values-paired [] (x ∷ values) e = absurd (omega arith)
values-paired (v ∷ scope) [] e = absurd (omega arith)
values-paired (v ∷ scope) (x ∷ values) e = ap (λ r. x ∷ r) (values-paired scope values (omega arith))

-- the relation's answer to the tuple at a place
there : (l : Language) (c : Candidate) (at : ℕ) → at < l.value_count ^ length (scope_of l c) → holds l.value_count (relation_of l c) (values_in (tuple_there l c at)) ≡ accepts_there l c at
there l c at low =
    ap (holds l.value_count (relation_of l c)) (values-paired (scope_of l c) (tuple_at l.value_count (length (scope_of l c)) at) (sym (length-tuple_at l.value_count (length (scope_of l c)) at)))
    ∙ ap (λ k. get_or (relation_of l c) k false) (place-tuple_at l.value_count (length (scope_of l c)) at low)

filter_range : (p q : ℕ → Bool) (a n : ℕ) → ((k : ℕ) → k < a + n → p k ≡ q k) → filter p (range_with_len a n) ≡ filter q (range_with_len a n)
filter_range p q a zero h = refl
filter_range p q a (suc n) h = λ i.
    let rest : filter p (range_with_len (a + 1) n) ≡ filter q (range_with_len (a + 1) n) = filter_range p q (a + 1) n (λ k low. h k (omega arith)) in
    cond (h a (omega arith) i) (a ∷ rest i) (rest i)

-- a tuple outside the ranges is accepted
pub rejected-is : (l : Language) (c : Candidate) → IsLanguage l → IsCandidate l c → rejected l c ≡ map (tuple_there l c) (filter (λ at. not (accepts_there l c at)) (range_with_len 0 (l.value_count ^ length (scope_of l c))))
rejected-is l c lawful candidate =
    ap (filter rejects) (tuples_paired l scope)
    ∙ filter-map rejects (paired scope) (filter (are_in l.ranges scope) (tuples d a))
    ∙ ap (map (paired scope))
    (filter-filter (λ t. rejects (paired scope t)) (are_in l.ranges scope) (tuples d a)
    ∙ ap (filter (λ t. are_in l.ranges scope t && rejects (paired scope t))) (by_place d a)
    ∙ filter-map (λ t. are_in l.ranges scope t && rejects (paired scope t)) (tuple_at d a) (range_with_len 0 (d ^ a))
    ∙ ap (map (tuple_at d a)) (filter_range (λ at. are_in l.ranges scope (tuple_at d a at) && rejects (tuple_there l c at)) (λ at. not (accepts_there l c at)) 0 (d ^ a) (λ k low. told k (omega arith))))
    ∙ map-map (paired scope) (tuple_at d a) (filter (λ at. not (accepts_there l c at)) (range_with_len 0 (d ^ a)))
  where
    scope : List ℕ
    scope = scope_of l c

    d : ℕ
    d = l.value_count

    a : ℕ
    a = length scope

    rejects : List Boolean → Bool
    rejects tuple = not (holds d (relation_of l c) (values_in tuple))

    told : (at : ℕ) → at < d ^ a → (are_in l.ranges scope (tuple_at d a at) && rejects (tuple_there l c at)) ≡ not (accepts_there l c at)
    told at low = ap (λ b. are_in l.ranges scope (tuple_at d a at) && not b) (there l c at low) ∙ go (accepts_there l c at) refl
      where
        go : (b : Bool) → accepts_there l c at ≡ b → (are_in l.ranges scope (tuple_at d a at) && not b) ≡ not b
        go true on = and_right (are_in l.ranges scope (tuple_at d a at)) false refl
        go false off = and_from (are_in l.ranges scope (tuple_at d a at)) true (rejected_within l c at lawful candidate low off) refl

    map-map : {X Y Z : Type 0} (f : Y → Z) (g : X → Y) (xs : List X) → map f (map g xs) ≡ map (λ x. f (g x)) xs
    map-map f g [] = refl
    map-map f g (x ∷ xs) = ap (λ r. f (g x) ∷ r) (map-map f g xs)

-- the pieces of those that fail a test
pieces_cond : (s : Bool) (x r : List ℕ) → cond s [] x ++ r ≡ cond (not s) (x ++ r) r
pieces_cond true x r = refl
pieces_cond false x r = refl

flat_cond : {X : Type 0} (f : X → List ℕ) (s : Bool) (x : X) (xs : List X) → flat_map f (cond (not s) (x ∷ xs) xs) ≡ cond (not s) (f x ++ flat_map f xs) (flat_map f xs)
flat_cond f true x xs = refl
flat_cond f false x xs = refl

flat_map-failing : {X : Type 0} (f : X → List ℕ) (q : X → Bool) (xs : List X) → flat_map (λ x. cond (q x) [] (f x)) xs ≡ flat_map f (filter (λ x. not (q x)) xs)
flat_map-failing f q [] = refl
flat_map-failing f q (x ∷ xs) =
    ap (λ r. cond (q x) [] (f x) ++ r) (flat_map-failing f q xs)
    ∙ pieces_cond (q x) (f x) (flat_map f (filter (λ y. not (q y)) xs))
    ∙ sym (flat_cond f (q x) x (filter (λ y. not (q y)) xs))

pub place_pieces : (l : Language) (c : Candidate) → IsLanguage l → IsCandidate l c → flat_map (place_piece l c) (range_with_len 0 (l.value_count ^ length (scope_of l c))) ≡ flat_map clause_text (none_rejected l c)
place_pieces l c lawful candidate =
    flat_map-failing (λ at. clause_text (map (literal l false) (tuple_there l c at))) (accepts_there l c) (range_with_len 0 (l.value_count ^ length (scope_of l c)))
    ∙ sym (flat_map-map clause_text (λ tuple. map (literal l false) tuple) (rejected l c)
    ∙ ap (flat_map (λ tuple. clause_text (map (literal l false) tuple))) (rejected-is l c lawful candidate)
    ∙ flat_map-map (λ tuple. clause_text (map (literal l false) tuple)) (tuple_there l c) (filter (λ at. not (accepts_there l c at)) (range_with_len 0 (l.value_count ^ length (scope_of l c)))))

pub item_pieces : (l : Language) (network : List Candidate) → flat_map (item_piece l network) (range_with_len 0 (length network)) ≡ flat_map clause_text (flat_map (none_rejected l) network)
item_pieces l network =
    sym (flat_map-flat_map clause_text (none_rejected l) network
    ∙ ap (flat_map (λ c. flat_map clause_text (none_rejected l c))) (fill_by_all (λ i. get_or network i none) network (length network) none refl (λ k low. refl))
    ∙ flat_map-map (λ c. flat_map clause_text (none_rejected l c)) (λ i. get_or network i none) (range_with_len 0 (length network)))
  where
    none : Candidate
    none = record { scope = 0; rel = 0 }

-- ---- how many clauses there are

length-two : {X Y : Type 0} (f : X → X → Y) (xs : List X) → 2 * length (each_two f xs) + length xs ≡ length xs * length xs
length-two f [] = refl
length-two f (x ∷ xs) = step (length xs) (length (each_two f xs)) _ (length-append (map (f x) xs) (each_two f xs)) (length-map xs (f x)) (length-two f xs)
  where
    step : (m k t : ℕ) → t ≡ length (map (f x) xs) + k → length (map (f x) xs) ≡ m → 2 * k + m ≡ m * m → 2 * t + suc m ≡ suc m * suc m
    step m k t e h more = omega arith

half : (d k : ℕ) → 2 * k + d ≡ d * d → k ≡ d * (d - 1) / 2
half zero k e = omega arith
half (suc m) k e =
    let less : suc m - 1 ≡ m = omega arith in
    let twice : suc m * (suc m - 1) ≡ 2 * k = ap (λ j. suc m * j) less ∙ (let g : suc m * m ≡ 2 * k = omega arith in g) in
    omega (arith, twice)

pub length-no_two : (l : Language) (v d : ℕ) → d ≡ length (values_of l v) → length (no_two_values l v) ≡ d * (d - 1) / 2
length-no_two l v d is =
    let long = length-map (values_of l v) (boolean v) ∙ sym is in
    half d (length (no_two_values l v))
    ((λ i. 2 * length (no_two_values l v) + sym long i) ∙ length-two (not_both l) (booleans_of l v) ∙ (λ i. long i * long i))

-- those of a variable more
pub pairs_more : (l : Language) (v d : ℕ) → d ≡ length (values_of l v) → length (flat_map (no_two_values l) (range_with_len 0 (v + 1))) ≡ length (flat_map (no_two_values l) (range_with_len 0 v)) + d * (d - 1) / 2
pairs_more l v d is =
    let one = length-no_two l v d is in
    ap length (pieces_more (no_two_values l) 0 v v (omega arith)) ∙ (let both = length-append (flat_map (no_two_values l) (range_with_len 0 v)) (no_two_values l v) in omega (arith, both, one))

pub length-rejected : (l : Language) (c : Candidate) → IsLanguage l → IsCandidate l c → length (rejected l c) ≡ length (filter (λ at. not (accepts_there l c at)) (range_with_len 0 (l.value_count ^ length (scope_of l c))))
length-rejected l c lawful candidate = ap length (rejected-is l c lawful candidate) ∙ length-map (filter (λ at. not (accepts_there l c at)) (range_with_len 0 (l.value_count ^ length (scope_of l c)))) (tuple_there l c)

pub length-clauses : (l : Language) (network : List Candidate) → variable_count l + length (flat_map (no_two_values l) (numbers (variable_count l))) + length (flat_map (none_rejected l) network) ≡ length (clauses l network)
length-clauses l network =
    let some = length-map-range_with_len (some_value l) 0 (variable_count l) in
    omega (arith, some, length-append (map (some_value l) (numbers (variable_count l))) (flat_map (no_two_values l) (numbers (variable_count l)) ++ flat_map (none_rejected l) network), length-append (flat_map (no_two_values l) (numbers (variable_count l))) (flat_map (none_rejected l) network))

-- ---- counts of those that fail a test

length_cond : (s : Bool) (x : ℕ) → length (cond (not s) (x ∷ []) []) ≡ cond s 0 1
length_cond true x = refl
length_cond false x = refl

pub failing_more : (q : ℕ → Bool) (n : ℕ) → length (filter (λ k. not (q k)) (range_with_len 0 (n + 1))) ≡ length (filter (λ k. not (q k)) (range_with_len 0 n)) + cond (q n) 0 1
failing_more q n =
    ap length (sym (ap (filter (λ k. not (q k))) (map-id (range_with_len 0 (n + 1)))) ∙ filter_of_map_range_with_len_more (λ k. not (q k)) (λ k. k) 0 n n (omega arith) ∙ ap (λ r. r ++ cond (not (q n)) (n ∷ []) []) (ap (filter (λ k. not (q k))) (map-id (range_with_len 0 n))))
    ∙ length-append (filter (λ k. not (q k)) (range_with_len 0 n)) (cond (not (q n)) (n ∷ []) [])
    ∙ ap (λ k. length (filter (λ k. not (q k)) (range_with_len 0 n)) + k) (length_cond (q n) n)

pub counted_more : (l : Language) (network : List Candidate) (i : ℕ) (c : Candidate) → i < length network → slice_get network i ≡ Some c →
    length (flat_map (none_rejected l) (take (i + 1) network)) ≡ length (flat_map (none_rejected l) (take i network)) + length (rejected l c)
counted_more l network i c low at =
    ap (λ (part : List Candidate). length (flat_map (none_rejected l) part)) (take_more network i c low)
    ∙ ap length (flat_map-append (none_rejected l) (take i network) (get_or network i c ∷ []))
    ∙ length-append (flat_map (none_rejected l) (take i network)) (flat_map (none_rejected l) (get_or network i c ∷ []))
    ∙ ap (λ k. length (flat_map (none_rejected l) (take i network)) + k)
    (ap length (append-nil (none_rejected l (get_or network i c))) ∙ length-map (rejected l (get_or network i c)) (λ tuple. map (literal l false) tuple)
    ∙ ap (λ d. length (rejected l d)) (get_or_from_slice_get network i c c at))

-- how many pairs so many values have
pub few_products : (d : ℕ) → d ≤ 256 → d * (d - 1) ≤ 65280
few_products d low =
    let most : d * (d - 1) ≤ 256 * 255 = mul-le-mul low (let e : d - 1 ≤ 255 = omega arith in e) in
    omega (arith, most)

-- How many intersections relations have.
use Rattle.language.proofs.Prelude.{◌≡◌, ◌≢◌, ℕ, zero, ◌<◌, ◌≤◌, Bool, true, false, cond, nat_lt, nat_eq, ◌-◌, List, [], ◌∷◌, ◌++◌, length, map, Option, Some, None, get_or, refl, sym, ◌∙◌, ap, subst, arith, ◌⊎◌, inl, inr, All, AllPairs, Contains, option_map, ◌==◌, filter, cases_Bool, both_ways, lt-ltb, le-ltb, All-nil, All-cons, All-head, All-tail, All-append, All-weaker, All-map, Contains-append_left, Contains-append_right, Contains-append_cases, get_or_default, AllPairs-cons, Relation, meet, meet_all, IsIntersection, IsClosing, TruthTable, relations_in, relations_of, HasTooMany, HasFew, IsClosed, IsFirstTooMany, TooMany, meet_itself, IsImage, image_of, contains_map, meet_comm, meet_assoc, one_given, wider, cons_cases, no_longer, few_of, no_pairs, Given, RelPart, LangFault, Closing, given_by, is_listed, without_repeats, intersections, relations_given, relations_of_arity, has_too_many, closing_refusal, IsClosedOf}
use Rattle.language.proofs.Arities.{each_arity}
use Rattle.language.proofs.Repeats.{contains_listed, listed_contains}
use Rattle.language.proofs.Meets.{intersections_meet}

-- ---- The intersections of a list

pub later : (r : Relation) (rest : List Relation) (q : Relation) → Contains rest q → Contains (r ∷ rest) q
later r rest q has = Contains-append_right (r ∷ []) rest q has

pub first : (r : Relation) (rest : List Relation) → Contains (r ∷ rest) r
first r rest = (zero, omega arith, refl)

-- each member is one
each_intersection : (file : List Relation) → All (IsIntersection file) (intersections file)
each_intersection [] = All-nil (IsIntersection [])
each_intersection (r ∷ rest) =
    let more : All (IsIntersection (r ∷ rest)) (intersections rest) =
    All-weaker (IsIntersection rest) (IsIntersection (r ∷ rest)) (λ q is. wider rest (r ∷ rest) q (later r rest) is) (intersections rest) (each_intersection rest) in
    let here : IsIntersection (r ∷ rest) r = one_given (r ∷ rest) r (first r rest) in
    All-cons (IsIntersection (r ∷ rest)) r (map (meet r) (intersections rest) ++ intersections rest) here
    (All-append (IsIntersection (r ∷ rest)) (map (meet r) (intersections rest)) (intersections rest)
    (All-map (IsIntersection (r ∷ rest)) (meet r) (intersections rest)
    (All-weaker (IsIntersection (r ∷ rest)) (λ q. IsIntersection (r ∷ rest) (meet r q)) (λ q is. intersections_meet (r ∷ rest) r q here is) (intersections rest) more))
    more)

-- where one of a longer list comes from
from_where : (r : Relation) (rest : List Relation) (q : Relation) → Contains (intersections (r ∷ rest)) q → (r ≡ q) ⊎ (IsImage (meet r) (intersections rest) q ⊎ Contains (intersections rest) q)
from_where r rest q has = go (cons_cases r (map (meet r) (intersections rest) ++ intersections rest) q has)
  where
    more : Contains (map (meet r) (intersections rest)) q ⊎ Contains (intersections rest) q → (r ≡ q) ⊎ (IsImage (meet r) (intersections rest) q ⊎ Contains (intersections rest) q)
    more (inl met) = inr (inl (image_of (meet r) (intersections rest) q met))
    more (inr old) = inr (inr old)

    go : (r ≡ q) ⊎ Contains (map (meet r) (intersections rest) ++ intersections rest) q → (r ≡ q) ⊎ (IsImage (meet r) (intersections rest) q ⊎ Contains (intersections rest) q)
    go (inl same) = inl same
    go (inr there) = more (Contains-append_cases (map (meet r) (intersections rest)) (intersections rest) q there)

old_one : (r : Relation) (rest : List Relation) (q : Relation) → Contains (intersections rest) q → Contains (intersections (r ∷ rest)) q
old_one r rest q has = later r (map (meet r) (intersections rest) ++ intersections rest) q (Contains-append_right (map (meet r) (intersections rest)) (intersections rest) q has)

new_one : (r : Relation) (rest : List Relation) (q : Relation) → Contains (intersections rest) q → Contains (intersections (r ∷ rest)) (meet r q)
new_one r rest q has =
    later r (map (meet r) (intersections rest) ++ intersections rest) (meet r q)
    (Contains-append_left (map (meet r) (intersections rest)) (intersections rest) (meet r q) (contains_map (meet r) (intersections rest) q has))

itself : (r : Relation) (rest : List Relation) → Contains (intersections (r ∷ rest)) r
itself r rest = first r (map (meet r) (intersections rest) ++ intersections rest)

given_one : (file : List Relation) (q : Relation) → Contains file q → Contains (intersections file) q
given_one [] q has = let low = has.1 in absurd (omega arith)
given_one (r ∷ rest) q has = go (cons_cases r rest q has) (given_one rest q)
  where
    go : (r ≡ q) ⊎ Contains rest q → (Contains rest q → Contains (intersections rest) q) → Contains (intersections (r ∷ rest)) q
    go (inl same) less = subst (Contains (intersections (r ∷ rest))) same (itself r rest)
    go (inr there) less = old_one r rest q (less there)

-- one of them meets a relation of the list in one of them
meets_one : (file : List Relation) (q s : Relation) → Contains (intersections file) q → Contains file s → Contains (intersections file) (meet q s)
meets_one [] q s has given = let low = given.1 in absurd (omega arith)
meets_one (r ∷ rest) q s has given = go (from_where r rest q has) (cons_cases r rest s given) (meets_one rest)
  where
    go : (r ≡ q) ⊎ (IsImage (meet r) (intersections rest) q ⊎ Contains (intersections rest) q) → (r ≡ s) ⊎ Contains rest s →
        ((x y : Relation) → Contains (intersections rest) x → Contains rest y → Contains (intersections rest) (meet x y)) → Contains (intersections (r ∷ rest)) (meet q s)
    go (inl is_q) (inl is_s) less = subst (Contains (intersections (r ∷ rest))) (sym (meet_itself r) ∙ (λ i. meet (is_q i) (is_s i))) (itself r rest)
    go (inl is_q) (inr there) less = subst (λ x. Contains (intersections (r ∷ rest)) (meet x s)) is_q (new_one r rest s (given_one rest s there))
    go (inr (inl image)) (inl is_s) less =
        subst (Contains (intersections (r ∷ rest)))
        (ap (λ x. meet x image.of) (sym (meet_itself r)) ∙ meet_assoc r r image.of ∙ meet_comm r (meet r image.of) ∙ (λ i. meet (image.is i) (is_s i)))
        (new_one r rest image.of image.has)
    go (inr (inl image)) (inr there) less =
        subst (Contains (intersections (r ∷ rest))) (sym (meet_assoc r image.of s) ∙ ap (λ x. meet x s) image.is) (new_one r rest (meet image.of s) (less image.of s image.has there))
    go (inr (inr old)) (inl is_s) less = subst (Contains (intersections (r ∷ rest))) (meet_comm r q ∙ ap (meet q) is_s) (new_one r rest q old)
    go (inr (inr old)) (inr there) less = old_one r rest (meet q s) (less q s old there)

meets_all : (file : List Relation) (q : Relation) (more : List Relation) → Contains (intersections file) q → All (Contains file) more → Contains (intersections file) (meet_all q more)
meets_all file q [] has given = has
meets_all file q (s ∷ more) has given = meets_all file (meet q s) more (meets_one file q s has (All-head (Contains file) s more given)) (All-tail (Contains file) s more given)

every_intersection : (file : List Relation) (r : Relation) → IsIntersection file r → Contains (intersections file) r
every_intersection file r is = subst (Contains (intersections file)) (sym is.is) (meets_all file is.first is.more (given_one file is.first is.first_given) is.more_given)

-- ---- Each once

cond_all : (P : Relation → Type 0) (b : Bool) (r : Relation) (rest : List Relation) → P r → All P rest → All P (cond b rest (r ∷ rest))
cond_all P true r rest here more = more
cond_all P false r rest here more = All-cons P r rest here more

each_kept : (P : Relation → Type 0) (relations : List Relation) → All P relations → All P (without_repeats relations)
each_kept P [] all = All-nil P
each_kept P (r ∷ relations) all = cond_all P (is_listed relations r) r (without_repeats relations) (All-head P r relations all) (each_kept P relations (All-tail P r relations all))

pub every_kept : (relations : List Relation) (q : Relation) → Contains relations q → Contains (without_repeats relations) q
every_kept [] q has = let low = has.1 in absurd (omega arith)
every_kept (r ∷ relations) q has = go (cases_Bool (is_listed relations r)) (cons_cases r relations q has) (every_kept relations)
  where
    whole : (b : Bool) → is_listed relations r ≡ b → Contains (cond b (without_repeats relations) (r ∷ without_repeats relations)) q → Contains (without_repeats (r ∷ relations)) q
    whole b is there = subst (λ (x : Bool). Contains (cond x (without_repeats relations) (r ∷ without_repeats relations)) q) (sym is) there

    go : (is_listed relations r ≡ true) ⊎ (is_listed relations r ≡ false) → (r ≡ q) ⊎ Contains relations q → ((x : Relation) → Contains relations x → Contains (without_repeats relations) x) →
        Contains (without_repeats (r ∷ relations)) q
    go (inl listed) (inl same) rest = whole true listed (subst (Contains (without_repeats relations)) same (rest r (contains_listed relations r listed)))
    go (inl listed) (inr there) rest = whole true listed (rest q there)
    go (inr new) (inl same) rest = whole false new (subst (Contains (r ∷ without_repeats relations)) same (first r (without_repeats relations)))
    go (inr new) (inr there) rest = whole false new (later r (without_repeats relations) q (rest q there))

-- no two are equal
cond_apart : (b : Bool) (r : Relation) (rest : List Relation) → (b ≡ false → All (λ q. r ≢ q) rest) → AllPairs (λ x y. x ≢ y) rest → AllPairs (λ x y. x ≢ y) (cond b rest (r ∷ rest))
cond_apart true r rest here more = more
cond_apart false r rest here more = AllPairs-cons (λ x y. x ≢ y) r rest (here refl) more

apart : (relations : List Relation) → AllPairs (λ x y. x ≢ y) (without_repeats relations)
apart [] = no_pairs (λ x y. x ≢ y)
apart (r ∷ relations) = cond_apart (is_listed relations r) r (without_repeats relations) others (apart relations)
  where
    others : is_listed relations r ≡ false → All (λ q. r ≢ q) (without_repeats relations)
    others new = each_kept (λ q. r ≢ q) relations (λ k d low same. both_ways (is_listed relations r) new (listed_contains relations r (k, low, get_or_default relations k r d low ∙ sym same)))

-- ---- How many they are

few_once : (file : List Relation) → HasFew file → nat_lt 64 (length (without_repeats (intersections file))) ≡ false
few_once file few =
    let once : List Relation = without_repeats (intersections file) in
    let short : length once ≤ length few.all = no_longer once few.all
    (All-weaker (IsIntersection file) (Contains few.all) few.closing.every once (each_kept (IsIntersection file) (intersections file) (each_intersection file))) (apart (intersections file)) in
    le-ltb 64 (length once) (omega (arith, short, few.few))

many_once : (file : List Relation) → HasTooMany file → nat_lt 64 (length (without_repeats (intersections file))) ≡ true
many_once file many =
    let once : List Relation = without_repeats (intersections file) in
    let short : length many.some ≤ length once = no_longer many.some once
    (All-weaker (IsIntersection file) (Contains once) (λ r is. every_kept (intersections file) r (every_intersection file r is)) many.some many.each) many.apart in
    lt-ltb 64 (length once) (omega (arith, short, many.many))

-- ---- The relations of one arity, by their tables

same_step : (b : Bool) (part : RelPart) (given : List Given) (tables : List TruthTable) → relations_given given ≡ relations_in tables →
    relations_given (cond b (given_by part ∷ given) given) ≡ relations_in (cond b (part.table ∷ tables) tables)
same_step true part given tables same = ap (λ rs. part.table.truth ∷ rs) same
same_step false part given tables same = same

pub same_file : (arity : ℕ) (parts : List RelPart) → relations_of_arity (map given_by parts) arity ≡ relations_of arity (map (λ (part : RelPart). part.table) parts)
same_file arity [] = refl
same_file arity (part ∷ parts) =
    same_step (part.table.arity == arity) part (filter (λ (g : Given). g.arity == arity) (map given_by parts)) (filter (λ (t : TruthTable). nat_eq t.arity arity) (map (λ (p : RelPart). p.table) parts)) (same_file arity parts)

-- ---- Whether they are refused

none_refused : (given : List Given) → ((arity : ℕ) → 1 ≤ arity → arity ≤ 4 → has_too_many given arity ≡ false) → closing_refusal given ≡ None
none_refused given few = λ i. option_map (λ (arity : ℕ). Closing (TooMany arity)) (cond (few 1 (omega arith) (omega arith) i) (Some 1)
    (cond (few 2 (omega arith) (omega arith) i) (Some 2) (cond (few 3 (omega arith) (omega arith) i) (Some 3) (cond (few 4 (omega arith) (omega arith) i) (Some 4) None))))

-- the first of which there are too many
abbrev IsTold : List Given → ℕ → Type 0
IsTold given arity = has_too_many given arity ≡ true → ((less : ℕ) → 1 ≤ less → less < arity → has_too_many given less ≡ false) → closing_refusal given ≡ Some (Closing (TooMany arity))

told : (given : List Given) (arity : ℕ) → 1 ≤ arity → arity ≤ 4 → IsTold given arity
told given = each_arity (IsTold given)
    (λ many few i. fault (cond (many i) (Some 1) (from_two)))
    (λ many few i. fault (cond (few 1 (omega arith) (omega arith) i) (Some 1) (cond (many i) (Some 2) from_three)))
    (λ many few i. fault (cond (few 1 (omega arith) (omega arith) i) (Some 1) (cond (few 2 (omega arith) (omega arith) i) (Some 2) (cond (many i) (Some 3) from_four))))
    (λ many few i. fault (cond (few 1 (omega arith) (omega arith) i) (Some 1) (cond (few 2 (omega arith) (omega arith) i) (Some 2)
    (cond (few 3 (omega arith) (omega arith) i) (Some 3) (cond (many i) (Some 4) None)))))
  where
    fault : Option ℕ → Option LangFault
    fault first_one = option_map (λ (arity : ℕ). Closing (TooMany arity)) first_one

    from_four : Option ℕ
    from_four = cond (has_too_many given 4) (Some 4) None

    from_three : Option ℕ
    from_three = cond (has_too_many given 3) (Some 3) from_four

    from_two : Option ℕ
    from_two = cond (has_too_many given 2) (Some 2) from_three

-- ---- The two accounts of closing agree

few_given : (parts : List RelPart) (arity : ℕ) → HasFew (relations_of arity (map (λ (part : RelPart). part.table) parts)) → has_too_many (map given_by parts) arity ≡ false
few_given parts arity few = few_once (relations_of_arity (map given_by parts) arity) (subst HasFew (sym (same_file arity parts)) few)

pub made : (d : ℕ) (parts : List RelPart) (lists : List (List TruthTable)) →
    ((arity : ℕ) → 1 ≤ arity → arity ≤ 4 → IsClosed arity d (map (λ (part : RelPart). part.table) parts) (get_or lists (arity - 1) [])) → closing_refusal (map given_by parts) ≡ None
made d parts lists closed = none_refused (map given_by parts) (λ arity some short. few_given parts arity (few_of arity d (map (λ (part : RelPart). part.table) parts) (get_or lists (arity - 1) []) (closed arity some short)))

pub closed_of : (d : ℕ) (parts : List RelPart) (arity : ℕ) (tables : List TruthTable) → IsClosed arity d (map (λ (part : RelPart). part.table) parts) tables → IsClosedOf d arity (map given_by parts) tables
closed_of d parts arity tables closed = record {
  closing = subst (λ file. IsClosing file (relations_in tables)) (sym (same_file arity parts)) closed.closing;
  kinds = closed.kinds;
  few = closed.few;
}

pub refused_for : (parts : List RelPart) (arity : ℕ) → IsFirstTooMany (map (λ (part : RelPart). part.table) parts) arity → closing_refusal (map given_by parts) ≡ Some (Closing (TooMany arity))
refused_for parts arity refused =
    told (map given_by parts) arity refused.some refused.short
    (many_once (relations_of_arity (map given_by parts) arity) (subst HasTooMany (sym (same_file arity parts)) refused.many))
    (λ less some low. few_given parts less (refused.before less some low))

-- Relations that lie within others: an intersection is told by the given relations that contain it.
use Rattle.network.proofs.Prelude.{◌≡◌, ℕ, Bool, true, false, ◌&&◌, ◌||◌, not, List, [], ◌∷◌, length, refl, sym, ◌∙◌, ap, arith, All, Contains, slice_index_or, and_parts, and_from, All-head, All-tail, All-contains, All-nil, All-cons, All-weaker, Relation, meet, meet_all, IsIntersection, is_part}
use Rattle.rel_table.proofs.Meets.{length-meet}

pub part-itself : (r : Relation) → is_part r r ≡ true
part-itself [] = refl
part-itself (true ∷ r) = part-itself r
part-itself (false ∷ r) = part-itself r

part-left : (r q : Relation) → is_part (meet r q) r ≡ true
part-left [] q = refl
part-left (x ∷ r) [] = refl
part-left (x ∷ r) (y ∷ q) = and_from _ _ (go x y) (part-left r q)
  where
    go : (x y : Bool) → (not (x && y) || x) ≡ true
    go true true = refl
    go true false = refl
    go false y = refl

part-right : (r q : Relation) → is_part (meet r q) q ≡ true
part-right [] q = refl
part-right (x ∷ r) [] = refl
part-right (x ∷ r) (y ∷ q) = and_from _ _ (go x y) (part-right r q)
  where
    go : (x y : Bool) → (not (x && y) || y) ≡ true
    go true true = refl
    go true false = refl
    go false y = refl

-- what lies within both lies within their intersection
part-meet : (x r q : Relation) → is_part x r ≡ true → is_part x q ≡ true → is_part x (meet r q) ≡ true
part-meet [] r q h k = refl
part-meet (b ∷ x) [] q h k = refl
part-meet (b ∷ x) (c ∷ r) [] h k = refl
part-meet (b ∷ x) (c ∷ r) (d ∷ q) h k =
    let left = and_parts (not b || c) (is_part x r) h in
    let right = and_parts (not b || d) (is_part x q) k in
    and_from _ _ (go b c d left.0 right.0) (part-meet x r q left.1 right.1)
  where
    go : (b c d : Bool) → (not b || c) ≡ true → (not b || d) ≡ true → (not b || (c && d)) ≡ true
    go true true true h k = refl
    go true true false h k = k
    go true false d h k = h
    go false c d h k = refl

part_through : (x y z : Relation) → length x ≡ length y → is_part x y ≡ true → is_part y z ≡ true → is_part x z ≡ true
part_through [] y z e h k = refl
part_through (b ∷ x) [] z e h k = absurd (omega arith)
part_through (b ∷ x) (c ∷ y) [] e h k = refl
part_through (b ∷ x) (c ∷ y) (d ∷ z) e h k =
    let left = and_parts (not b || c) (is_part x y) h in
    let right = and_parts (not c || d) (is_part y z) k in
    and_from _ _ (go b c d left.0 right.0) (part_through x y z (omega arith) left.1 right.1)
  where
    go : (b c d : Bool) → (not b || c) ≡ true → (not c || d) ≡ true → (not b || d) ≡ true
    go true true d h k = k
    go true false d h k = cc
    go false c d h k = refl

same_parts : (x y : Relation) → length x ≡ length y → is_part x y ≡ true → is_part y x ≡ true → x ≡ y
same_parts [] [] e h k = refl
same_parts [] (c ∷ y) e h k = absurd (omega arith)
same_parts (b ∷ x) [] e h k = absurd (omega arith)
same_parts (b ∷ x) (c ∷ y) e h k =
    let left = and_parts (not b || c) (is_part x y) h in
    let right = and_parts (not c || b) (is_part y x) k in
    λ i. go b c left.0 right.0 i ∷ same_parts x y (omega arith) left.1 right.1 i
  where
    go : (b c : Bool) → (not b || c) ≡ true → (not c || b) ≡ true → b ≡ c
    go true true h k = refl
    go true false h k = cc
    go false true h k = cc
    go false false h k = refl

-- ---- intersections of several

length-meet_all : (n : ℕ) (first : Relation) (more : List Relation) → length first ≡ n → All (λ q. length q ≡ n) more → length (meet_all first more) ≡ n
length-meet_all n first [] e all = e
length-meet_all n first (q ∷ more) e all =
    length-meet_all n (meet first q) more (length-meet first q (e ∙ sym (All-head (λ r. length r ≡ n) q more all)) ∙ e) (All-tail (λ r. length r ≡ n) q more all)

pub part_of_first : (n : ℕ) (first : Relation) (more : List Relation) → length first ≡ n → All (λ q. length q ≡ n) more → is_part (meet_all first more) first ≡ true
part_of_first n first [] e all = part-itself first
part_of_first n first (q ∷ more) e all =
    let long : length (meet first q) ≡ n = length-meet first q (e ∙ sym (All-head (λ r. length r ≡ n) q more all)) ∙ e in
    let rest = All-tail (λ r. length r ≡ n) q more all in
    part_through (meet_all (meet first q) more) (meet first q) first (length-meet_all n (meet first q) more long rest ∙ sym long) (part_of_first n (meet first q) more long rest) (part-left first q)

pub part_of_more : (n : ℕ) (first : Relation) (more : List Relation) → length first ≡ n → All (λ q. length q ≡ n) more → All (λ q. is_part (meet_all first more) q ≡ true) more
part_of_more n first [] e all = All-nil (λ q. is_part first q ≡ true)
part_of_more n first (q ∷ more) e all =
    let long : length (meet first q) ≡ n = length-meet first q (e ∙ sym (All-head (λ r. length r ≡ n) q more all)) ∙ e in
    let rest = All-tail (λ r. length r ≡ n) q more all in
    All-cons (λ r. is_part (meet_all (meet first q) more) r ≡ true) q more
    (part_through (meet_all (meet first q) more) (meet first q) q (length-meet_all n (meet first q) more long rest ∙ sym long) (part_of_first n (meet first q) more long rest) (part-right first q))
    (part_of_more n (meet first q) more long rest)

pub part_of_all : (x first : Relation) (more : List Relation) → is_part x first ≡ true → All (λ q. is_part x q ≡ true) more → is_part x (meet_all first more) ≡ true
part_of_all x first [] h all = h
part_of_all x first (q ∷ more) h all = part_of_all x (meet first q) more (part-meet x first q h (All-head (λ r. is_part x r ≡ true) q more all)) (All-tail (λ r. is_part x r ≡ true) q more all)

-- what lies within the given relations that contain an intersection lies within it
within_too : (n : ℕ) (file : List Relation) (r x : Relation) → All (λ q. length q ≡ n) file → IsIntersection file r →
    ((q : Relation) → Contains file q → is_part r q ≡ true → is_part x q ≡ true) → is_part x r ≡ true
within_too n file r x sized is follows =
    let first = is.first in
    let more = is.more in
    let long : length first ≡ n = All-contains (λ q. length q ≡ n) file first sized is.first_given in
    let all : All (λ q. length q ≡ n) more = All-weaker (Contains file) (λ q. length q ≡ n) (λ q given. All-contains (λ s. length s ≡ n) file q sized given) more is.more_given in
    let lies_first : is_part r first ≡ true = ap (λ s. is_part s first) is.is ∙ part_of_first n first more long all in
    let lies_more : All (λ q. is_part (meet_all first more) q ≡ true) more = part_of_more n first more long all in
    ap (is_part x) is.is
    ∙ part_of_all x first more (follows first is.first_given lies_first)
    (λ k d low. follows (slice_index_or more k d) (is.more_given k d low) (ap (λ s. is_part s (slice_index_or more k d)) is.is ∙ lies_more k d low))

length_of : (n : ℕ) (file : List Relation) (r : Relation) → All (λ q. length q ≡ n) file → IsIntersection file r → length r ≡ n
length_of n file r sized is =
    ap length is.is
    ∙ length-meet_all n is.first is.more (All-contains (λ q. length q ≡ n) file is.first sized is.first_given)
    (All-weaker (Contains file) (λ q. length q ≡ n) (λ q given. All-contains (λ s. length s ≡ n) file q sized given) is.more is.more_given)

-- intersections that lie within the same given relations are the same
pub same_intersection : (n : ℕ) (file : List Relation) (r s : Relation) → All (λ q. length q ≡ n) file → IsIntersection file r → IsIntersection file s →
    ((q : Relation) → Contains file q → is_part r q ≡ is_part s q) → r ≡ s
same_intersection n file r s sized is other same = same_parts r s (length_of n file r sized is ∙ sym (length_of n file s sized other))
    (within_too n file s r sized other (λ q given lies. same q given ∙ lies))
    (within_too n file r s sized is (λ q given lies. sym (same q given) ∙ lies))

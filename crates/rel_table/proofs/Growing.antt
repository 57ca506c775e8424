-- One more relation, and its intersections with all that stand, keep relations closed.
use Rattle.rel_table.proofs.Prelude.{◌≡◌, ◌≢◌, ℕ, zero, suc, ◌+◌, ◌-◌, ◌<◌, ◌≤◌, Bool, true, false, ◌&&◌, List, Vec, [], ◌∷◌, ◌++◌, length, map, take, drop, set, get_or, refl, sym, ◌∙◌, ap, subst, arith, ◌⊎◌, inl, inr, All, AllPairs, Contains, both_ways, cases_eq, get_or-map, length-map, length_push, get_or_push, get_or_append_left, map-append, set-get_or, set_split, length-append, length-take, length-drop, Global, All-nil, All-head, All-tail, All-push, All-weaker, All-contains, Contains-append_left, Contains-append_right, Contains-append_cases, Contains-push, Contains-push_cases, Relation, is_above, meet, meet_all, IsIntersection, IsClosing, IsInOrder, Overflows, TruthTable, relations_in, relations_of, HasTooMany, HasFew, IsClosed, IsFirstTooMany, IsRefused}
use Rattle.rel_table.specs.declared.table.CloseFault.{CloseFault}
use Rattle.rel_table.specs.declared.table.CloseFault.TheVariants.{TooMany, Memory}
use Rattle.rel_table.proofs.Tables.{not_above_itself}
use Rattle.rel_table.proofs.Pairwise.{pairs_head, pairs_tail}
use Rattle.rel_table.proofs.Inserting.{meet_itself, relations_more, taken}

-- ---- intersection

and_comm : (x y : Bool) → (x && y) ≡ (y && x)
and_comm true true = refl
and_comm true false = refl
and_comm false true = refl
and_comm false false = refl

and_assoc : (x y z : Bool) → ((x && y) && z) ≡ (x && (y && z))
and_assoc true y z = refl
and_assoc false y z = refl

pub meet_comm : (r q : Relation) → meet r q ≡ meet q r
meet_comm [] [] = refl
meet_comm [] (y ∷ q) = refl
meet_comm (x ∷ r) [] = refl
meet_comm (x ∷ r) (y ∷ q) = λ i. and_comm x y i ∷ meet_comm r q i

pub meet_assoc : (r q s : Relation) → meet (meet r q) s ≡ meet r (meet q s)
meet_assoc [] q s = refl
meet_assoc (x ∷ r) [] s = refl
meet_assoc (x ∷ r) (y ∷ q) [] = refl
meet_assoc (x ∷ r) (y ∷ q) (z ∷ s) = λ i. and_assoc x y z i ∷ meet_assoc r q s i

-- the last two in the other order
meet_turned : (r q s : Relation) → meet (meet r q) s ≡ meet (meet r s) q
meet_turned r q s = meet_assoc r q s ∙ ap (meet r) (meet_comm q s) ∙ sym (meet_assoc r s q)

meet_twice : (r q : Relation) → meet (meet r q) q ≡ meet r q
meet_twice r q = meet_assoc r q q ∙ ap (meet r) (meet_itself q)

meet_all_more : (r : Relation) (more : List Relation) (s : Relation) → meet_all r (more ++ s ∷ []) ≡ meet (meet_all r more) s
meet_all_more r [] s = refl
meet_all_more r (q ∷ more) s = meet_all_more (meet r q) more s

-- ---- intersections of a list, and of one more

pub one_given : (file : List Relation) (r : Relation) → Contains file r → IsIntersection file r
one_given file r has = record { first = r; more = []; first_given = has; more_given = All-nil (Contains file); is = refl }

meets_given : (file : List Relation) (r s : Relation) → IsIntersection file r → Contains file s → IsIntersection file (meet r s)
meets_given file r s is has = record {
  first = is.first;
  more = is.more ++ s ∷ [];
  first_given = is.first_given;
  more_given = All-push (Contains file) is.more s is.more_given has;
  is = ap (λ x. meet x s) is.is ∙ sym (meet_all_more is.first is.more s);
}

-- a file with more has the same intersections and more
pub wider : (file other : List Relation) (r : Relation) → ((q : Relation) → Contains file q → Contains other q) → IsIntersection file r → IsIntersection other r
wider file other r has is = record {
  first = is.first;
  more = is.more;
  first_given = has is.first is.first_given;
  more_given = All-weaker (Contains file) (Contains other) has is.more is.more_given;
  is = is.is;
}

pub with_more : (file : List Relation) (t r : Relation) → IsIntersection file r → IsIntersection (file ++ t ∷ []) r
with_more file t r is = wider file (file ++ t ∷ []) r (λ q has. Contains-append_left file (t ∷ []) q has) is

pub contains_map : (f : Relation → Relation) (rs : List Relation) (r : Relation) → Contains rs r → Contains (map f rs) (f r)
contains_map f rs r has = (has.0, omega (arith, has.1, length-map rs f), get_or-map f rs has.0 r (f r) has.1 ∙ ap f has.2)

-- what is one of the images is the image of one
pub record IsImage (f : Relation → Relation) (rs : List Relation) (q : Relation) : Type 0 where
  pub of : Relation
  pub has : Contains rs of
  pub is : f of ≡ q

pub image_of : (f : Relation → Relation) (rs : List Relation) (q : Relation) → Contains (map f rs) q → IsImage f rs q
image_of f [] q has = let low = has.1 in absurd (omega arith)
image_of f (r ∷ rs) q (zero, low, is) = record { of = r; has = (zero, omega arith, refl); is = is }
image_of f (r ∷ rs) q (suc k, low, is) =
    let rest = image_of f rs q (k, omega arith, is) in record { of = rest.of; has = Contains-append_right (r ∷ []) rs rest.of rest.has; is = rest.is }

-- ---- the step

-- the relations that stand, their intersections with one more, and that one
abbrev pub grown : List Relation → Relation → List Relation
grown closed t = closed ++ (map (λ r. meet r t) closed ++ t ∷ [])

stands : (closed : List Relation) (t q : Relation) → Contains closed q → Contains (grown closed t) q
stands closed t q has = Contains-append_left closed (map (λ r. meet r t) closed ++ t ∷ []) q has

met : (closed : List Relation) (t r : Relation) → Contains closed r → Contains (grown closed t) (meet r t)
met closed t r has = Contains-append_right closed (map (λ s. meet s t) closed ++ t ∷ []) (meet r t)
    (Contains-append_left (map (λ s. meet s t) closed) (t ∷ []) (meet r t) (contains_map (λ s. meet s t) closed r has))

itself : (closed : List Relation) (t : Relation) → Contains (grown closed t) t
itself closed t = Contains-append_right closed (map (λ s. meet s t) closed ++ t ∷ []) t (Contains-push (map (λ s. meet s t) closed) t)

-- where a grown relation comes from
grown_cases : (closed : List Relation) (t q : Relation) → Contains (grown closed t) q → Contains closed q ⊎ (IsImage (λ r. meet r t) closed q ⊎ (t ≡ q))
grown_cases closed t q has = go (Contains-append_cases closed (map (λ r. meet r t) closed ++ t ∷ []) q has)
  where
    far : Contains (map (λ r. meet r t) closed) q ⊎ (t ≡ q) → Contains closed q ⊎ (IsImage (λ r. meet r t) closed q ⊎ (t ≡ q))
    far (inl image) = inr (inl (image_of (λ r. meet r t) closed q image))
    far (inr same) = inr (inr same)

    go : Contains closed q ⊎ Contains (map (λ r. meet r t) closed ++ t ∷ []) q → Contains closed q ⊎ (IsImage (λ r. meet r t) closed q ⊎ (t ≡ q))
    go (inl here) = inl here
    go (inr there) = far (Contains-push_cases (map (λ r. meet r t) closed) t q there)

-- each of them is an intersection
pub grown_each : (file closed : List Relation) (t : Relation) → IsClosing file closed → (q : Relation) → Contains (grown closed t) q → IsIntersection (file ++ t ∷ []) q
grown_each file closed t closing q has = go (grown_cases closed t q has)
  where
    old : (r : Relation) → Contains closed r → IsIntersection (file ++ t ∷ []) r
    old r there = with_more file t r (All-contains (IsIntersection file) closed r closing.each there)

    go : Contains closed q ⊎ (IsImage (λ r. meet r t) closed q ⊎ (t ≡ q)) → IsIntersection (file ++ t ∷ []) q
    go (inl here) = old q here
    go (inr (inl image)) = subst (IsIntersection (file ++ t ∷ [])) image.is (meets_given (file ++ t ∷ []) image.of t (old image.of image.has) (Contains-push file t))
    go (inr (inr same)) = subst (IsIntersection (file ++ t ∷ [])) same (one_given (file ++ t ∷ []) t (Contains-push file t))

-- the intersection of one of them with a relation of the file is one of them
grown_meets : (file closed : List Relation) (t : Relation) → IsClosing file closed → (q s : Relation) → Contains (grown closed t) q → Contains (file ++ t ∷ []) s → Contains (grown closed t) (meet q s)
grown_meets file closed t closing q s has given = go (grown_cases closed t q has) (Contains-push_cases file t s given)
  where
    kept : (r : Relation) → Contains closed r → Contains file s → Contains closed (meet r s)
    kept r there of_file = closing.every (meet r s) (meets_given file r s (All-contains (IsIntersection file) closed r closing.each there) of_file)

    go : Contains closed q ⊎ (IsImage (λ r. meet r t) closed q ⊎ (t ≡ q)) → Contains file s ⊎ (t ≡ s) → Contains (grown closed t) (meet q s)
    go (inl here) (inl of_file) = stands closed t (meet q s) (kept q here of_file)
    go (inl here) (inr last) = subst (λ x. Contains (grown closed t) (meet q x)) last (met closed t q here)
    go (inr (inl image)) (inl of_file) =
        subst (Contains (grown closed t)) (meet_turned image.of s t ∙ ap (λ x. meet x s) image.is) (met closed t (meet image.of s) (kept image.of image.has of_file))
    go (inr (inl image)) (inr last) =
        subst (Contains (grown closed t)) (sym (meet_twice image.of t) ∙ (λ i. meet (image.is i) (last i))) (met closed t image.of image.has)
    go (inr (inr same)) (inl of_file) =
        subst (Contains (grown closed t)) (meet_comm s t ∙ ap (λ x. meet x s) same) (met closed t s (closing.every s (one_given file s of_file)))
    go (inr (inr same)) (inr last) = subst (Contains (grown closed t)) (sym (meet_itself t) ∙ (λ i. meet (same i) (last i))) (itself closed t)

grown_all : (file closed : List Relation) (t : Relation) → IsClosing file closed → (q : Relation) (more : List Relation) → Contains (grown closed t) q → All (Contains (file ++ t ∷ [])) more → Contains (grown closed t) (meet_all q more)
grown_all file closed t closing q [] has given = has
grown_all file closed t closing q (s ∷ more) has given =
    grown_all file closed t closing (meet q s) more (grown_meets file closed t closing q s has (All-head (Contains (file ++ t ∷ [])) s more given)) (All-tail (Contains (file ++ t ∷ [])) s more given)

-- and each intersection is one of them
grown_every : (file closed : List Relation) (t : Relation) → IsClosing file closed → (r : Relation) → IsIntersection (file ++ t ∷ []) r → Contains (grown closed t) r
grown_every file closed t closing r is = subst (Contains (grown closed t)) (sym is.is) (grown_all file closed t closing is.first is.more (first (Contains-push_cases file t is.first is.first_given)) is.more_given)
  where
    first : Contains file is.first ⊎ (t ≡ is.first) → Contains (grown closed t) is.first
    first (inl of_file) = stands closed t is.first (closing.every is.first (one_given file is.first of_file))
    first (inr last) = subst (Contains (grown closed t)) last (itself closed t)

pub closing_more : (file closed ordered : List Relation) (t : Relation) → IsClosing file closed → IsInOrder (grown closed t) ordered → IsClosing (file ++ t ∷ []) ordered
closing_more file closed ordered t closing order = record {
  each = All-weaker (Contains (grown closed t)) (IsIntersection (file ++ t ∷ [])) (grown_each file closed t closing) ordered order.each;
  every = λ r is. All-contains (Contains ordered) (grown closed t) r order.every (grown_every file closed t closing r is);
  falling = order.falling;
}

-- ---- too many

pub too_many : (file many_of : List Relation) → ((q : Relation) → Contains many_of q → IsIntersection file q) → Overflows many_of → HasTooMany file
too_many file many_of each over = record {
  some = over.some;
  many = over.many;
  each = All-weaker (Contains many_of) (IsIntersection file) each over.some over.each;
  apart = λ i j d low high same. both_ways _ (not_above_itself (get_or over.some j d)) (subst (λ r. is_above r (get_or over.some j d) ≡ true) same (over.falling i j d low high));
}

pub too_many_wider : (file other : List Relation) → ((q : Relation) → Contains file q → Contains other q) → HasTooMany file → HasTooMany other
too_many_wider file other has many = record {
  some = many.some;
  many = many.many;
  each = All-weaker (IsIntersection file) (IsIntersection other) (λ r is. wider file other r has is) many.some many.each;
  apart = many.apart;
}

-- among those that were put in before the 65th
pub overflowed : (file closed : List Relation) (t : Relation) (meets : List TruthTable) (i : ℕ) (m : TruthTable) → IsClosing file closed → relations_in meets ≡ map (λ r. meet r t) closed ++ t ∷ [] →
    i < length meets → m ≡ get_or meets i m → Overflows ((closed ++ relations_in (take i meets)) ++ m.truth ∷ []) → HasTooMany (file ++ t ∷ [])
overflowed file closed t meets i m closing is low at over = too_many (file ++ t ∷ []) ((closed ++ relations_in (take i meets)) ++ m.truth ∷ []) each over
  where
    inside : (q : Relation) → Contains closed q ⊎ Contains (relations_in (take (i + 1) meets)) q → Contains (grown closed t) q
    inside q (inl here) = stands closed t q here
    inside q (inr there) = Contains-append_right closed (map (λ r. meet r t) closed ++ t ∷ []) q (subst (λ rs. Contains rs q) is (taken meets (i + 1) q there))

    each : (q : Relation) → Contains ((closed ++ relations_in (take i meets)) ++ m.truth ∷ []) q → IsIntersection (file ++ t ∷ []) q
    each q has =
        grown_each file closed t closing q (inside q (Contains-append_cases closed (relations_in (take (i + 1) meets)) q (subst (λ rs. Contains rs q) (sym (relations_more closed meets i m low at)) has)))

-- ---- what is told at the end

pub few_of : (arity d : ℕ) (file closed : List TruthTable) → IsClosed arity d file closed → HasFew (relations_of arity file)
few_of arity d file closed is = record { all = relations_in closed; closing = is.closing; few = let few = is.few in omega (arith, few, length-map closed (λ (t : TruthTable). t.truth)) }

pub refused : (file : List TruthTable) (arity : ℕ) (e : CloseFault) → 1 ≤ arity → arity ≤ 4 → (e ≢ Memory → e ≡ TooMany arity) → (e ≢ Memory → HasTooMany (relations_of arity file)) →
    ((less : ℕ) → 1 ≤ less → less < arity → HasFew (relations_of less file)) → IsRefused file e
refused file arity Memory some short is many before = tt
refused file arity (TooMany a) some short is many before =
    let told : TooMany a ≢ Memory = λ e. cc in
    let same : arity ≡ a = let e : TooMany a ≡ TooMany arity = is told in cc in
    subst (IsFirstTooMany file) same (record { some = some; short = short; many = many told; before = before })

-- ---- a list for each arity

pub length_more : (lists : List (Vec TruthTable Global)) (list : Vec TruthTable Global) → length (lists ++ list ∷ []) ≡ length lists + 1
length_more lists list = length_push lists list

pub lists_more : (d : ℕ) (file : List TruthTable) (lists whole : List (Vec TruthTable Global)) (list : Vec TruthTable Global) (arity : ℕ) → length lists + 1 ≡ arity → whole ≡ lists ++ list ∷ [] →
    ((a : ℕ) → 1 ≤ a → a < arity → IsClosed a d file (get_or (map (λ (v : Vec TruthTable Global). v.items) lists) (a - 1) [])) → IsClosed arity d file list.items →
    (a : ℕ) → 1 ≤ a → a < arity + 1 → IsClosed a d file (get_or (map (λ (v : Vec TruthTable Global). v.items) whole) (a - 1) [])
lists_more d file lists whole list arity count is before last a some low =
    subst (λ xs. IsClosed a d file (get_or (map (λ (v : Vec TruthTable Global). v.items) xs) (a - 1) [])) (sym is)
    (subst (λ xs. IsClosed a d file (get_or xs (a - 1) [])) (sym (map-append (λ (v : Vec TruthTable Global). v.items) lists (list ∷ []))) (go (cases_eq a arity)))
  where
    old : List (List TruthTable)
    old = map (λ (v : Vec TruthTable Global). v.items) lists

    long : length old ≡ length lists
    long = length-map lists (λ (v : Vec TruthTable Global). v.items)

    go : (a ≡ arity) ⊎ (a ≢ arity) → IsClosed a d file (get_or (old ++ list.items ∷ []) (a - 1) [])
    go (inl same) =
        let here : length old ≡ a - 1 = omega (arith, long, count, same) in
        subst (IsClosed a d file) (sym (get_or_push old list.items [] (a - 1) here)) (subst (λ n. IsClosed n d file list.items) (sym same) last)
    go (inr other) =
        let within : a - 1 < length old = omega (arith, long, count, low, some, other) in
        subst (IsClosed a d file) (sym (get_or_append_left old (list.items ∷ []) [] (a - 1) within)) (before a some (omega (arith, low, other)))

-- ---- there can't be both too many and few

pub cons_cases : (x : Relation) (b : List Relation) (q : Relation) → Contains (x ∷ b) q → (x ≡ q) ⊎ Contains b q
cons_cases x b q (zero, low, is) = inl is
cons_cases x b q (suc k, low, is) = inr (k, omega arith, is)

-- a list without the element at a place
abbrev less : List Relation → ℕ → List Relation
less ys k = take k ys ++ drop (suc k) ys

split_at : (ys : List Relation) (k : ℕ) (x : Relation) → k < length ys → get_or ys k x ≡ x → ys ≡ take k ys ++ x ∷ drop (suc k) ys
split_at ys k x low is = sym (set-get_or ys k x) ∙ ap (set ys k) is ∙ set_split ys k x low

length-less : (ys : List Relation) (k : ℕ) → k < length ys → length (less ys k) + 1 ≡ length ys
length-less ys k low = omega (arith, low, length-append (take k ys) (drop (suc k) ys), length-take k ys, length-drop (suc k) ys)

still_there : (ys : List Relation) (k : ℕ) (x q : Relation) → k < length ys → get_or ys k x ≡ x → Contains ys q → x ≢ q → Contains (less ys k) q
still_there ys k x q low is has apart = go (Contains-append_cases (take k ys) (x ∷ drop (suc k) ys) q (subst (λ zs. Contains zs q) (split_at ys k x low is) has))
  where
    after : (x ≡ q) ⊎ Contains (drop (suc k) ys) q → Contains (less ys k) q
    after (inl same) = absurd (apart same)
    after (inr right) = Contains-append_right (take k ys) (drop (suc k) ys) q right

    go : Contains (take k ys) q ⊎ Contains (x ∷ drop (suc k) ys) q → Contains (less ys k) q
    go (inl left) = Contains-append_left (take k ys) (drop (suc k) ys) q left
    go (inr right) = after (cons_cases x (drop (suc k) ys) q right)

-- a list without repeats is no longer than one that has all its elements
pub no_longer : (xs ys : List Relation) → All (Contains ys) xs → AllPairs (λ r q. r ≢ q) xs → length xs ≤ length ys
no_longer [] ys each apart = omega arith
no_longer (x ∷ xs) ys each apart =
    let has : Contains ys x = All-head (Contains ys) x xs each in
    let rest : length xs ≤ length (less ys has.0) = no_longer xs (less ys has.0)
    (λ j d low. still_there ys has.0 x (get_or xs j d) has.1 has.2 (All-tail (Contains ys) x xs each j d low) (pairs_head (λ r q. r ≢ q) x xs apart j d low))
    (pairs_tail (λ r q. r ≢ q) x xs apart) in
    omega (arith, rest, length-less ys has.0 has.1)

pub not_too_many : (file : List Relation) → HasTooMany file → HasFew file → ⊥
not_too_many file many few =
    let short : length many.some ≤ length few.all = no_longer many.some few.all (All-weaker (IsIntersection file) (Contains few.all) few.closing.every many.some many.each) many.apart in
    let high = many.many in
    let low = few.few in
    omega (arith, short, high, low)

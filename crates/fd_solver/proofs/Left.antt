-- What an assignment leaves to the variables.
use Rattle.fd_solver.proofs.Prelude.{◌≡◌, ℕ, zero, suc, ◌<◌, ◌≤◌, true, List, [], length, map, replicate, Option, Some, None, refl, sym, ◌∙◌, ap, subst, arith, inl, inr, ◌⊎◌, ◌==◌, slice_index_or, nat_le, filter, get_or-eq_default, length-map-range_with_len, get_or-map-range_with_len, and_parts, and_from, both_ways, cases_lt, eq-eqb, eqb-true, leb-true, numbers, has, Assignment, value_of, value_beside, assigned, is_in, Language, IsLanguage, variable_count, range_of, values_of, is_ranged, are_ranged, value_of_assigned, HasMore, ranged_at, any_number, domain_of, left_by, IsSubfamily, has-filter}

pub length-left : (l : Language) (e : Assignment) → length (left_by l e) ≡ variable_count l
length-left l e = length-map-range_with_len (λ v. domain_of l v (value_of e v)) 0 (variable_count l)

-- to each variable of the language what the assignment leaves it, and nothing past them
pub left_at : (l : Language) (e : Assignment) (v : ℕ) → v < variable_count l → slice_index_or (left_by l e) v [] ≡ domain_of l v (value_of e v)
left_at l e v low = get_or-map-range_with_len (λ v. domain_of l v (value_of e v)) 0 (variable_count l) v v [] low (omega arith)

pub left_past : (l : Language) (e : Assignment) (v : ℕ) → variable_count l ≤ v → slice_index_or (left_by l e) v [] ≡ []
left_past l e v high = get_or-eq_default (left_by l e) [] {n = v} (let size = length-left l e in omega arith)

pub left_known : (l : Language) (e : Assignment) (v x : ℕ) → has (slice_index_or (left_by l e) v []) x ≡ true → v < variable_count l
left_known l e v x h = go (cases_lt v (variable_count l))
  where
    go : (v < variable_count l) ⊎ (variable_count l ≤ v) → v < variable_count l
    go (inl low) = low
    go (inr high) = absurd (both_ways _ refl (sym (ap (λ xs. has xs x) (left_past l e v high)) ∙ h))

-- of its values the one that it has
pub left_value : (l : Language) (e : Assignment) (v x : ℕ) → v < variable_count l → value_of e v ≡ Some x → slice_index_or (left_by l e) v [] ≡ filter (λ y. x == y) (values_of l v)
left_value l e v x low h = left_at l e v low ∙ ap (domain_of l v) h

-- no other value is left to it
pub left_only : (l : Language) (e : Assignment) (v x y : ℕ) → value_of e v ≡ Some x → has (slice_index_or (left_by l e) v []) y ≡ true → (x ≡ y) × (has (values_of l v) y ≡ true)
left_only l e v x y is h =
    let here : has (filter (λ z. x == z) (values_of l v)) y ≡ true = ap (λ xs. has xs y) (sym (left_value l e v x (left_known l e v y h) is)) ∙ h in
    let parts = and_parts (has (values_of l v) y) (x == y) (sym (has-filter (λ z. x == z) (values_of l v) y) ∙ here) in
    (eqb-true x y parts.1, parts.0)

-- values in a variable's range are its values
pub has_value : (l : Language) → IsLanguage l → (v x : ℕ) → v < variable_count l → is_in (range_of l v) x ≡ true → has (values_of l v) x ≡ true
has_value l lawful v x low h =
    let bounds = and_parts (nat_le (range_of l v).first x) (nat_le x (range_of l v).last) h in
    let last = leb-true x (range_of l v).last bounds.1 in
    let known = (lawful.ranges v (record { first = 0; last = 63 }) (let many = lawful.ranged in omega arith)).known in
    has-filter (is_in (range_of l v)) (numbers l.value_count) x ∙ and_from _ _ (any_number (λ y. y == x) l.value_count x (omega arith) (eq-eqb x x refl)) h

-- its value is left to it, where it is one of its own
pub left_own : (l : Language) → IsLanguage l → (e : Assignment) (v x : ℕ) → v < variable_count l → value_of e v ≡ Some x → are_ranged l e ≡ true → has (slice_index_or (left_by l e) v []) x ≡ true
left_own l lawful e v x low is ranged =
    ap (λ xs. has xs x) (left_value l e v x low is) ∙ has-filter (λ y. x == y) (values_of l v) x
    ∙ and_from _ _ (has_value l lawful v x low (ap (is_ranged l v) (sym is) ∙ ranged_at l e ranged v low)) (eq-eqb x x refl)

-- what is left by the values of some variables in their order
pub left_beside : (l : Language) (order p : List ℕ) (v : ℕ) → v < variable_count l → slice_index_or (left_by l (assigned (variable_count l) order p)) v [] ≡ domain_of l v (value_beside order p v)
left_beside l order p v low = left_at l (assigned (variable_count l) order p) v low ∙ ap (domain_of l v) (value_of_assigned (variable_count l) order p v low)

-- where e has fewer values than f, it leaves more
pub left_more : (l : Language) (e f : Assignment) → HasMore e f → IsSubfamily (left_by l f) (left_by l e)
left_more l e f more v x h = ap (λ xs. has xs x) (left_at l e v low) ∙ go (value_of e v) (value_of f v) (more v) (sym (ap (λ xs. has xs x) (left_at l f v low)) ∙ h)
  where
    low : v < variable_count l
    low = left_known l f v x h

    go : (o u : Option ℕ) → ((y : ℕ) → o ≡ Some y → u ≡ Some y) → has (domain_of l v u) x ≡ true → has (domain_of l v o) x ≡ true
    go None None more h = h
    go None (Some y) more h = (and_parts (has (values_of l v) x) (y == x) (sym (has-filter (λ z. y == z) (values_of l v) x) ∙ h)).0
    go (Some y) None more h = absurd (let never : None ≡ Some y = more y refl in let is : ⊥ = cc in is)
    go (Some y) (Some z) more h = (let same : Some z ≡ Some y = more y refl in subst (λ (o : Option ℕ). has (domain_of l v o) x ≡ true) same h)

-- with no value at all each variable has all of its own
pub left_none : (l : Language) → left_by l (replicate (variable_count l) None) ≡ map (values_of l) (numbers (variable_count l))
left_none l = λ i. map (λ v. domain_of l v (none_at (variable_count l) v i)) (numbers (variable_count l))
  where
    none_at : (n v : ℕ) → value_of (replicate n None) v ≡ None
    none_at zero v = refl
    none_at (suc n) zero = refl
    none_at (suc n) (suc v) = none_at n v

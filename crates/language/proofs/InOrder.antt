-- Sets of one size, no two the same: none lies within another.
use Rattle.language.proofs.Prelude.{◌≡◌, ◌≢◌, ◌⊎◌, inl, inr, ℕ, ◌+◌, ◌*◌, ◌<◌, ◌≤◌, Bool, true, false, cond, ◌&&◌, ◌||◌, Some, None, List, [], ◌∷◌, ◌++◌, length, take, is_some, true≢false, refl, sym, ◌∙◌, ap, subst, arith, All, ◌%◌, ◌^◌, not, position, slice_index_or, ◌==◌, list_any, position_or_len, and_parts, both_ways, eqb-true, ne_eqb, false_from_ne_true, cases_eq, or_from, and_from, take_more, All-nil, All-cons, All-head, All-tail, All-weaker, All-append, Rises, IsSet, has, without, is_within, least_of, set_where-same, canonical, lacks, rises_lower, are_nested, digits}
use Rattle.language.proofs.Pairs.{first_is}

-- ---- Digits

pub at_digit : (k v : ℕ) (vs : List ℕ) → digits k (v ∷ vs) ≡ digits (((k * 128) % 2 ^ 32 + v) % 2 ^ 32) vs
unfolding digits
at_digit k v vs = refl

pub at_last : (k : ℕ) → digits k [] ≡ k
unfolding digits
at_last k = refl

-- ---- Rising lists

low_member : (a v : ℕ) (xs : List ℕ) → Rises a xs → has xs v ≡ true → a ≤ v
low_member a v [] r h = absurd (let e : false ≡ true = h in cc)
low_member a v (x ∷ xs) r h = go (x == v) refl h (low_member (x + 1) v xs r.2)
  where
    go : (b : Bool) → (x == v) ≡ b → (b || has xs v) ≡ true → (has xs v ≡ true → x + 1 ≤ v) → a ≤ v
    go true e h rest = let same = eqb-true x v e in let low = r.0 in omega (arith, same, low)
    go false e h rest = let more = rest h in let low = r.0 in omega (arith, more, low)

pub all_low : (a : ℕ) (xs : List ℕ) → Rises a xs → All (λ v. a ≤ v) xs
all_low a [] r = All-nil (λ v. a ≤ v)
all_low a (x ∷ xs) r = All-cons (λ v. a ≤ v) x xs r.0 (All-weaker (λ v. x + 1 ≤ v) (λ v. a ≤ v) (λ v h. let low = r.0 in omega (arith, low, h)) xs (all_low (x + 1) xs r.2))

but_first : (b c : Bool) → (b ≡ true → c ≡ false) → ((b || c) && not (b || false)) ≡ c
but_first true c h = sym (h refl)
but_first false true h = refl
but_first false false h = refl

-- a set without its least member is the rest
pub rest_is : (v : ℕ) (xs : List ℕ) → IsSet (v ∷ xs) → without (v ∷ xs) v ≡ xs
rest_is v xs set =
    set_where-same _ _ (λ w small. but_first (v == w) (has xs w) (λ e. let is = eqb-true v w e in lacks (v + 1) w xs (omega (arith, is)) set.2))
    ∙ canonical xs (rises_lower 0 (v + 1) xs (omega arith) set.2)

-- ---- Sets within others

right_of : (b c : Bool) → b ≡ false → (b || c) ≡ true → c ≡ true
right_of true c e h = absurd (both_ways _ e refl)
right_of false c e h = h

without_first : (y : ℕ) (xs ys : List ℕ) → All (λ v. y < v) xs → is_within xs (y ∷ ys) ≡ true → is_within xs ys ≡ true
without_first y [] ys all h = refl
without_first y (x ∷ xs) ys all h =
    let parts = and_parts (has (y ∷ ys) x) (is_within xs (y ∷ ys)) h in
    let above : y < x = All-head (λ v. y < v) x xs all in
    and_from (has ys x) (is_within xs ys) (right_of (y == x) (has ys x) (ne_eqb y x (λ e. omega (arith, e, above))) parts.0) (without_first y xs ys (All-tail (λ v. y < v) x xs all) parts.1)

-- a set within another is no larger, and is that one where it is as large
fits : (xs ys : List ℕ) (a b : ℕ) → Rises a xs → Rises b ys → is_within xs ys ≡ true → (length xs ≤ length ys) × (length ys ≤ length xs → xs ≡ ys)
fits [] [] a b r s h = (omega arith, λ le. refl)
fits [] (y ∷ ys) a b r s h = (omega arith, λ le. absurd (omega (arith, le)))
fits (x ∷ xs) [] a b r s h = absurd (let e : false ≡ true = h in cc)
fits (x ∷ xs) (y ∷ ys) a b r s h = go (cases_eq y x) (fits xs ys (x + 1) (y + 1) r.2 s.2) (fits (x ∷ xs) ys a (y + 1) r s.2)
  where
    parts : (has (y ∷ ys) x ≡ true) × (is_within xs (y ∷ ys) ≡ true)
    parts = and_parts (has (y ∷ ys) x) (is_within xs (y ∷ ys)) h

    above : (z : ℕ) → z ≤ x → All (λ v. z < v) xs
    above z low = All-weaker (λ v. x + 1 ≤ v) (λ v. z < v) (λ v le. omega (arith, le, low)) xs (all_low (x + 1) xs r.2)

    go : ((y ≡ x) ⊎ (y ≢ x)) → (is_within xs ys ≡ true → (length xs ≤ length ys) × (length ys ≤ length xs → xs ≡ ys)) →
        (is_within (x ∷ xs) ys ≡ true → (length (x ∷ xs) ≤ length ys) × (length ys ≤ length (x ∷ xs) → (x ∷ xs) ≡ ys)) →
        (length (x ∷ xs) ≤ length (y ∷ ys)) × (length (y ∷ ys) ≤ length (x ∷ xs) → (x ∷ xs) ≡ (y ∷ ys))
    go (inl e) both later =
        let more = both (without_first y xs ys (above y (omega (arith, e))) parts.1) in
        let few = more.0 in
        (omega (arith, few), λ le. λ i. sym e i ∷ more.1 (omega (arith, le)) i)
    go (inr other) both later =
        let low = low_member (y + 1) x ys s.2 (right_of (y == x) (has ys x) (ne_eqb y x other) parts.0) in
        let more = later (without_first y (x ∷ xs) ys (All-cons (λ v. y < v) x xs (omega (arith, low)) (above y (omega (arith, low)))) h) in
        let few = more.0 in
        (omega (arith, few), λ le. absurd (omega (arith, few, le)))

-- ---- Sets in order

-- a set of so many members whose number is below the next
pub record IsBefore (size next : ℕ) (s : List ℕ) : Type 0 where
  pub set : IsSet s
  pub long : length s ≡ size
  pub low : digits 0 s < next

not_nested : (s u : List ℕ) → IsSet s → IsSet u → length s ≡ length u → digits 0 s < digits 0 u → are_nested s u ≡ false
not_nested s u is_s is_u long less =
    or_from (is_within s u) (is_within u s)
    (false_from_ne_true _ (λ h. apart ((fits s u 0 0 is_s is_u h).1 (omega (arith, long)))))
    (false_from_ne_true _ (λ h. apart (sym ((fits u s 0 0 is_u is_s h).1 (omega (arith, long))))))
  where
    apart : s ≡ u → ⊥
    apart e = let same = ap (digits 0) e in omega (arith, same, less)

none_nested : (size next : ℕ) (before : List (List ℕ)) (set : List ℕ) → All (IsBefore size next) before → IsSet set → length set ≡ size → next ≤ digits 0 set →
    list_any (λ earlier. are_nested earlier set) before ≡ false
none_nested size next [] set all is long low = refl
none_nested size next (s ∷ before) set all is long low =
    let first = All-head (IsBefore size next) s before all in
    let first_long = first.long in
    let first_low = first.low in
    or_from (are_nested s set) _ (not_nested s set first.set is (omega (arith, first_long, long)) (omega (arith, first_low, low)))
    (none_nested size next before set (All-tail (IsBefore size next) s before all) is long low)

pub none_before : (size next : ℕ) (before : List (List ℕ)) (set : List ℕ) → All (IsBefore size next) before → IsSet set → length set ≡ size → next ≤ digits 0 set →
    position (λ earlier. are_nested earlier set) before ≡ None
none_before size next before set all is long low =
    let p : List ℕ → Bool = λ earlier. are_nested earlier set in
    first_is p before ∙ ap (λ b. cond b (Some (position_or_len p before)) None) (none_nested size next before set all is long low)

pub one_more : (size next j : ℕ) (sets : List (List ℕ)) (set : List ℕ) → j < length sets → set ≡ slice_index_or sets j set → All (IsBefore size next) (take j sets) → IsSet set → length set ≡ size → next ≤ digits 0 set →
    All (IsBefore size (digits 0 set + 1)) (take (j + 1) sets)
one_more size next j sets set at is all of_set long low =
    subst (All (IsBefore size (digits 0 set + 1))) (ap (λ s. take j sets ++ s ∷ []) is ∙ sym (take_more sets j set at))
    (All-append (IsBefore size (digits 0 set + 1)) (take j sets) (set ∷ [])
    (All-weaker (IsBefore size next) (IsBefore size (digits 0 set + 1)) (λ s b. let below = b.low in record { set = b.set; long = b.long; low = omega (arith, below, low) }) (take j sets) all)
    (All-cons (IsBefore size (digits 0 set + 1)) set [] (record { set = of_set; long = long; low = omega arith }) (All-nil (IsBefore size (digits 0 set + 1)))))

-- what one turn of the loop does: the least member becomes a digit, and the others are left
pub digits_on : (k v u : ℕ) (rest others : List ℕ) → IsSet rest → least_of rest ≡ Some v → u ≡ v → others ≡ without rest v →
    digits (((k * 128) % 2 ^ 32 + u) % 2 ^ 32) others ≡ digits k rest
digits_on k v u [] others set is same left = absurd (true≢false (ap (λ o. is_some o) (sym is)))
digits_on k v u (x ∷ xs) others set is same left =
    let one : u ≡ x = cc in
    let rest : others ≡ xs = left ∙ ap (without (x ∷ xs)) (let e : v ≡ x = cc in e) ∙ rest_is x xs set in
    ap (digits (((k * 128) % 2 ^ 32 + u) % 2 ^ 32)) rest ∙ ap (λ y. digits (((k * 128) % 2 ^ 32 + y) % 2 ^ 32) xs) one ∙ sym (at_digit k x xs)

pub shorter : (v : ℕ) (rest others : List ℕ) → IsSet rest → least_of rest ≡ Some v → others ≡ without rest v → length others < length rest
shorter v [] others set is left = absurd (true≢false (ap (λ o. is_some o) (sym is)))
shorter v (x ∷ xs) others set is left =
    let long : length others ≡ length xs = ap length (left ∙ ap (without (x ∷ xs)) (let e : v ≡ x = cc in e) ∙ rest_is x xs set) in
    omega (arith, long)

pub none_left : (k : ℕ) (rest : List ℕ) → length rest ≡ 0 → digits k rest ≡ k
none_left k [] h = at_last k
none_left k (x ∷ xs) h = absurd (omega (arith, h))

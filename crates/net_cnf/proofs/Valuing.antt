-- The values whose Booleans are true.
use Rattle.net_cnf.proofs.Prelude.{◌≡◌, ℕ, zero, suc, ◌+◌, ◌-◌, ◌<◌, ◌≤◌, ◌&&◌, ◌||◌, not, Bool, true, false, cond, List, [], ◌∷◌, ◌++◌, length, get_or, set, Option, Some, None, refl, sym, ◌∙◌, ap, subst, arith, eqb, ◌⊎◌, inl, inr, All, is_some, nat_eq, IfSome, option_to_list, list_any, range_with_len, cases_eq, cases_order, eq-eqb, ne_eqb, none-some, same_Some, append-nil, get_or-map, get_or-set_same, get_or-set_other, length-set, map-id, filter-append, All-filter, All-head, map-range_with_len_more, Assignment, value_of, Language, IsQuestion, variable_count, values_of, is_ranged, boolean, boolean_number, positive_signs, boolean_count, true_values, not_one, only_of, Signs}
use Rattle.std.specs.Prelude.{filter}
use Rattle.net_cnf.proofs.Marking.{find_at, find_nowhere}
use Rattle.net_cnf.proofs.Numbers.{number_fits}
use Rattle.net_cnf.proofs.Runs.{IsValue, value_in, all_values}
use Rattle.std.proofs.Math.Bool.{and-false, and-true, or-false}
use Rattle.shared_lemmas.proofs.Runs.{run_parts, none_pass}

-- ---- one element

pub only_tells : {X : Type 0} (xs : List X) → is_some (only_of xs) ≡ nat_eq (length xs) 1
only_tells [] = refl
only_tells (x ∷ []) = refl
only_tells (x ∷ y ∷ more) = sym (ne_eqb (length (x ∷ y ∷ more)) 1 (λ e. absurd (omega (arith, e))))

pub only_listed : {X : Type 0} (o : Option X) → only_of (option_to_list o) ≡ o
only_listed None = refl
only_listed (Some x) = refl

pub only_some : {X : Type 0} (xs : List X) (x : X) → only_of xs ≡ Some x → xs ≡ x ∷ []
only_some [] x h = absurd (none-some x h)
only_some (y ∷ []) x h = ap (λ z. z ∷ []) (same_Some y x h)
only_some (y ∷ z ∷ more) x h = absurd (none-some x h)

-- ---- runs of numbers

pub range_more : (p : ℕ → Bool) (a x : ℕ) → a ≤ x → filter p (range_with_len a (x + 1 - a)) ≡ filter p (range_with_len a (x - a)) ++ cond (p x) (x ∷ []) []
range_more p a x from =
    ap (λ n. filter p (range_with_len a n)) (let e : x + 1 - a ≡ (x - a) + 1 = omega arith in e)
    ∙ ap (filter p) (sym (map-id (range_with_len a ((x - a) + 1))) ∙ map-range_with_len_more (λ z. z) a (x - a) x (omega arith) ∙ ap (λ r. r ++ x ∷ []) (map-id (range_with_len a (x - a))))
    ∙ filter-append p (range_with_len a (x - a)) (x ∷ [])

-- a second value in front of the end leaves none alone
two_leave_none : (p : ℕ → Bool) (a x n y : ℕ) → a ≤ x → x < a + n → filter p (range_with_len a (x - a)) ≡ y ∷ [] → p x ≡ true → only_of (filter p (range_with_len a n)) ≡ None
two_leave_none p a x n y from low one passes =
    let split : n ≡ (x + 1 - a) + (n - (x + 1 - a)) = omega arith in
    ap only_of
    (ap (λ k. filter p (range_with_len a k)) split
    ∙ ap (filter p) (run_parts a (x + 1 - a) (n - (x + 1 - a)))
    ∙ filter-append p (range_with_len a (x + 1 - a)) (range_with_len (a + (x + 1 - a)) (n - (x + 1 - a)))
    ∙ ap (λ front. front ++ filter p (range_with_len (a + (x + 1 - a)) (n - (x + 1 - a)))) (range_more p a x from ∙ (λ i. one i ++ cond (passes i) (x ∷ []) [])))

pub two_leave_none_of : (p : ℕ → Bool) (a x n : ℕ) (o : Option ℕ) → a ≤ x → x < a + n → filter p (range_with_len a (x - a)) ≡ option_to_list o → is_some o ≡ true → p x ≡ true → only_of (filter p (range_with_len a n)) ≡ None
two_leave_none_of p a x n None from low listed some passes = absurd cc
two_leave_none_of p a x n (Some y) from low listed some passes = two_leave_none p a x n y from low listed passes

-- the first that passes
pub first_listed : (p : ℕ → Bool) (a x : ℕ) (o : Option ℕ) → a ≤ x → filter p (range_with_len a (x - a)) ≡ option_to_list o → is_some o ≡ false → p x ≡ true → filter p (range_with_len a (x + 1 - a)) ≡ option_to_list (Some x)
first_listed p a x None from listed none passes = range_more p a x from ∙ (λ i. listed i ++ cond (passes i) (x ∷ []) [])
first_listed p a x (Some y) from listed none passes = absurd cc

-- one that doesn't
pub none_listed : (p : ℕ → Bool) (a x : ℕ) (o : Option ℕ) → a ≤ x → filter p (range_with_len a (x - a)) ≡ option_to_list o → p x ≡ false → filter p (range_with_len a (x + 1 - a)) ≡ option_to_list o
none_listed p a x o from listed fails = range_more p a x from ∙ (λ i. listed i ++ cond (fails i) (x ∷ []) []) ∙ append-nil (option_to_list o)

any_filter : (q p : ℕ → Bool) (xs : List ℕ) → list_any q (filter p xs) ≡ list_any (λ x. p x && q x) xs
any_filter q p [] = refl
any_filter q p (x ∷ xs) = go (p x) ∙ ap (λ b. (p x && q x) || b) (any_filter q p xs)
  where
    go : (b : Bool) → list_any q (cond b (x ∷ filter p xs) (filter p xs)) ≡ ((b && q x) || list_any q (filter p xs))
    go true = refl
    go false = refl

any_none : (p : ℕ → Bool) (a n y : ℕ) → ((x : ℕ) → a ≤ x → x < a + n → (x ≡ y → ⊥)) → list_any (λ x. p x && eqb x y) (range_with_len a n) ≡ false
any_none p a zero y h = refl
any_none p a (suc n) y h =
    (λ i. (p a && ne_eqb a y (h a (omega arith) (omega arith)) i) || any_none p (a + 1) n y (λ x low high. h x (omega arith) (omega arith)) i)
    ∙ or-false (p a && false) ∙ and-false (p a)

any_at : (p : ℕ → Bool) (a n y : ℕ) → a ≤ y → y < a + n → list_any (λ x. p x && eqb x y) (range_with_len a n) ≡ p y
any_at p a zero y low high = absurd (omega arith)
any_at p a (suc n) y low high = go (cases_order a y) (λ from. any_at p (a + 1) n y from (omega arith))
  where
    go : (a ≡ y) ⊎ ((a < y) ⊎ (y < a)) → (a + 1 ≤ y → list_any (λ x. p x && eqb x y) (range_with_len (a + 1) n) ≡ p y) → list_any (λ x. p x && eqb x y) (range_with_len a (suc n)) ≡ p y
    go (inl same) next =
        (λ i. (p a && eq-eqb a y same i) || any_none p (a + 1) n y (λ x above under is. absurd (omega (arith, same, is, above))) i)
        ∙ or-false (p a && true) ∙ and-true (p a) ∙ ap p same
    go (inr (inl before)) next =
        (λ i. (p a && ne_eqb a y (λ is. absurd (omega (arith, is, before))) i) || next (omega arith) i)
        ∙ ap (λ b. b || p y) (and-false (p a))
    go (inr (inr past)) next = absurd (omega arith)

-- where one number alone passes, the test asks for it
pub one_passes : (p : ℕ → Bool) (a n y x : ℕ) → filter p (range_with_len a n) ≡ y ∷ [] → a ≤ x → x < a + n → p x ≡ eqb y x
one_passes p a n y x one from low =
    sym (any_at p a n x from low)
    ∙ sym (any_filter (λ z. eqb z x) p (range_with_len a n))
    ∙ ap (list_any (λ z. eqb z x)) one
    ∙ or-false (eqb y x)

-- where the test asks for one number, it alone passes
pub passes_one : (p : ℕ → Bool) (a n y : ℕ) → ((x : ℕ) → a ≤ x → x < a + n → p x ≡ eqb y x) → a ≤ y → y < a + n → filter p (range_with_len a n) ≡ y ∷ []
passes_one p a zero y h low high = absurd (omega arith)
passes_one p a (suc n) y h low high = go (cases_order a y) (λ from. passes_one p (a + 1) n y (λ x above under. h x (omega arith) (omega arith)) from (omega arith))
  where
    here : (b : Bool) → p a ≡ b → filter p (range_with_len a (suc n)) ≡ cond b (a ∷ filter p (range_with_len (a + 1) n)) (filter p (range_with_len (a + 1) n))
    here b is = ap (λ t. cond t (a ∷ filter p (range_with_len (a + 1) n)) (filter p (range_with_len (a + 1) n))) is

    go : (a ≡ y) ⊎ ((a < y) ⊎ (y < a)) → (a + 1 ≤ y → filter p (range_with_len (a + 1) n) ≡ y ∷ []) → filter p (range_with_len a (suc n)) ≡ y ∷ []
    go (inl same) next =
        here true (h a (omega arith) (omega arith) ∙ eq-eqb y a (sym same))
        ∙ (λ i. same i ∷ none_pass p (a + 1) n (λ x above under. h x (omega arith) (omega arith) ∙ ne_eqb y x (λ is. absurd (omega (arith, same, is, above)))) i)
    go (inr (inl before)) next = here false (h a (omega arith) (omega arith) ∙ ne_eqb y a (λ is. absurd (omega (arith, is, before)))) ∙ next (omega arith)
    go (inr (inr past)) next = absurd (omega arith)

-- ---- of a language

pub true_of : (l : Language) (positive_signs : List Bool) (v y : ℕ) → v < variable_count l → only_of (true_values l positive_signs v) ≡ Some y → IsValue l v y
true_of l positive_signs v y low h =
    All-head (IsValue l v) y []
    (subst (All (IsValue l v)) (only_some (true_values l positive_signs v) y h)
    (All-filter (λ x. get_or positive_signs (boolean_number l (boolean v x) - 1) false) (IsValue l v) (values_of l v) (all_values l v (IsValue l v) low (λ x is. is))))

pub value_below : (l : Language) (positive_signs : List Bool) (v : ℕ) (o : Option ℕ) → v < variable_count l → o ≡ only_of (true_values l positive_signs v) → IfSome o (λ x. x < l.value_count)
value_below l positive_signs v None low h = tt
value_below l positive_signs v (Some y) low h = (true_of l positive_signs v y low (sym h)).fits

-- ---- variables one by one

pub one_missing : (l : Language) (positive_signs : List Bool) (v : ℕ) → v < variable_count l → ((k : ℕ) → k < v → length (true_values l positive_signs k) ≡ 1) → only_of (true_values l positive_signs v) ≡ None → not_one l positive_signs ≡ Some v
one_missing l positive_signs v low before none =
    find_at (λ w. not (nat_eq (length (true_values l positive_signs w)) 1)) 0 (variable_count l) v low
    (λ k lower. ap (λ w. not (nat_eq (length (true_values l positive_signs w)) 1)) (let e : 0 + k ≡ k = omega arith in e) ∙ ap not (eq-eqb (length (true_values l positive_signs k)) 1 (before k lower)))
    (ap (λ w. not (nat_eq (length (true_values l positive_signs w)) 1)) (let e : 0 + v ≡ v = omega arith in e) ∙ ap not (sym (only_tells (true_values l positive_signs v)) ∙ ap is_some none))
    ∙ ap Some (let e : 0 + v ≡ v = omega arith in e)

pub ones_all : (l : Language) (positive_signs : List Bool) → ((k : ℕ) → k < variable_count l → length (true_values l positive_signs k) ≡ 1) → not_one l positive_signs ≡ None
ones_all l positive_signs each =
    find_nowhere (λ w. not (nat_eq (length (true_values l positive_signs w)) 1)) 0 (variable_count l)
    (λ k low. ap (λ w. not (nat_eq (length (true_values l positive_signs w)) 1)) (let e : 0 + k ≡ k = omega arith in e) ∙ ap not (eq-eqb (length (true_values l positive_signs k)) 1 (each k low)))

pub one_long : (l : Language) (positive_signs : List Bool) (v x : ℕ) → only_of (true_values l positive_signs v) ≡ Some x → length (true_values l positive_signs v) ≡ 1
one_long l positive_signs v x h = ap length (only_some (true_values l positive_signs v) x h)

pub question_set : (l : Language) (e : Assignment) (v x : ℕ) → IsQuestion l e → IsValue l v x → IsQuestion l (set e v (Some x))
question_set l e v x h among = record {
  size = length-set e v (Some x) ∙ h.size;
  values_fit = λ k d inside y is. go k d (let long = length-set e v (Some x) in omega (arith, long, inside)) y is (cases_eq k v);
  within = λ k low. ranged k low (cases_eq k v);
}
  where
    fits : x < l.value_count
    fits = among.fits

    size : length e ≡ variable_count l
    size = h.size

    go : (k : ℕ) (d : Option ℕ) → k < length e → (y : ℕ) → get_or (set e v (Some x)) k d ≡ Some y → (k ≡ v) ⊎ (k ≡ v → ⊥) → y < l.value_count
    go k d low y is (inl same) =
        let this : x ≡ y = same_Some x y (sym (ap (λ i. get_or (set e v (Some x)) i d) same ∙ get_or-set_same e v (Some x) d (omega (arith, low, same))) ∙ is) in
        omega (arith, this, fits)
    go k d low y is (inr apart) = h.values_fit k d low y (sym (get_or-set_other e v k (Some x) d apart) ∙ is)

    ranged : (k : ℕ) → k < variable_count l → (k ≡ v) ⊎ (k ≡ v → ⊥) → is_ranged l k (value_of (set e v (Some x)) k) ≡ true
    ranged k low (inl same) =
        ap (λ i. is_ranged l i (value_of (set e v (Some x)) i)) same
        ∙ ap (is_ranged l v) (get_or-set_same e v (Some x) None (omega (arith, low, same, size)))
        ∙ value_in l v x among
    ranged k low (inr apart) = ap (is_ranged l k) (get_or-set_other e v k (Some x) None apart) ∙ h.within k low

-- ---- of signs

pub truth_there : (l : Language) (signs : List Signs) (v x number : ℕ) (d : Signs) (truth : Bool) → IsValue l v x → length signs ≡ boolean_count l → number ≡ boolean_number l (boolean v x) →
    (get_or signs (number - 1) d).positive ≡ truth → get_or (positive_signs signs) (boolean_number l (boolean v x) - 1) false ≡ truth
truth_there l signs v x number d truth among long is here =
    let inside = (number_fits l v x among).1 in
    ap (λ n. get_or (positive_signs signs) (n - 1) false) (sym is)
    ∙ get_or-map (λ (s : Signs). s.positive) signs (number - 1) d false (omega (arith, inside, long, is))
    ∙ here

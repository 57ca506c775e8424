-- Marks of the literals that are read.
use Rattle.net_cnf.proofs.Prelude.{◌≡◌, ℕ, zero, suc, ◌+◌, ◌<◌, ◌&&◌, ◌||◌, Bool, true, false, cond, List, [], ◌∷◌, ◌++◌, length, map, get_or, set, replicate, Some, None, refl, sym, ◌∙◌, ap, arith, eqb, ◌⊎◌, inl, inr, find, beq, range_with_len, cases_eq, eq-eqb, ne_eqb, length-set, get_or-set_same, get_or-set_other, ext_get_or, list_any-append, get_or-map-range_with_len, length-map-range_with_len, signs_of, marks, IsMarked, is_named, both_named, Literal, Signs}
use Rattle.std.proofs.Math.Bool.{or-false, or-true}

-- ---- a literal more

one_more : (literals : List Literal) (x : Literal) (positive : Bool) (number : ℕ) → is_named (literals ++ x ∷ []) positive number ≡ (is_named literals positive number || ((eqb x.number number && beq x.positive positive) || false))
one_more literals x positive number = list_any-append (λ (y : Literal). eqb y.number number && beq y.positive positive) literals (x ∷ [])

named_other : (literals : List Literal) (x : Literal) (positive : Bool) (number : ℕ) → (x.number ≡ number → ⊥) → is_named (literals ++ x ∷ []) positive number ≡ is_named literals positive number
named_other literals x positive number apart =
    one_more literals x positive number
    ∙ ap (λ b. is_named literals positive number || ((b && beq x.positive positive) || false)) (ne_eqb x.number number apart)
    ∙ or-false (is_named literals positive number)

-- the same number, and this sign
named_here : (literals : List Literal) (x : Literal) (positive sign : Bool) (number : ℕ) → x.number ≡ number → x.positive ≡ sign → is_named (literals ++ x ∷ []) positive number ≡ (is_named literals positive number || (beq sign positive || false))
named_here literals x positive sign number same is =
    one_more literals x positive number
    ∙ (λ i. is_named literals positive number || ((eq-eqb x.number number same i && beq (is i) positive) || false))

-- what a literal marks
abbrev pub marked_by : Bool → Signs → Signs
marked_by true s = record s { positive = true }
marked_by false s = record s { negative = true }

more_here : (literals : List Literal) (x : Literal) (sign : Bool) (number : ℕ) → x.number ≡ number → x.positive ≡ sign → signs_of (literals ++ x ∷ []) number ≡ marked_by sign (signs_of literals number)
more_here literals x true number same is = λ i. record {
  positive = (named_here literals x true true number same is ∙ or-true (is_named literals true number)) i;
  negative = (named_here literals x false true number same is ∙ or-false (is_named literals false number)) i;
}
more_here literals x false number same is = λ i. record {
  positive = (named_here literals x true false number same is ∙ or-false (is_named literals true number)) i;
  negative = (named_here literals x false false number same is ∙ or-true (is_named literals false number)) i;
}

more_other : (literals : List Literal) (x : Literal) (number : ℕ) → (x.number ≡ number → ⊥) → signs_of (literals ++ x ∷ []) number ≡ signs_of literals number
more_other literals x number apart = λ i. record {
  positive = named_other literals x true number apart i;
  negative = named_other literals x false number apart i;
}

length-marks : (literals : List Literal) (count : ℕ) → length (marks literals count) ≡ count
length-marks literals count = length-map-range_with_len (signs_of literals) 1 count

pub marks_at : (literals : List Literal) (count k : ℕ) (d : Signs) → k < count → get_or (marks literals count) k d ≡ signs_of literals (1 + k)
marks_at literals count k d low = get_or-map-range_with_len (signs_of literals) 1 count k (1 + k) d low refl

-- the signs of one literal more, where its own place is marked
pub marked_more : (literals : List Literal) (x : Literal) (sign : Bool) (signs : List Signs) (k : ℕ) (old new : Signs) → x.positive ≡ sign → x.number ≡ 1 + k → k < length signs → get_or signs k old ≡ old → new ≡ marked_by sign old →
    IsMarked literals signs → IsMarked (literals ++ x ∷ []) (set signs k new)
marked_more literals x sign signs k old new is number low here by marked =
    ext_get_or old (set signs k new) (marks (literals ++ x ∷ []) (length (set signs k new)))
    (sym (length-marks (literals ++ x ∷ []) (length (set signs k new))))
    (λ j inside.
    let within : j < length signs = (let e = length-set signs k new in omega (arith, e, inside)) in
    let now : get_or (marks (literals ++ x ∷ []) (length (set signs k new))) j old ≡ signs_of (literals ++ x ∷ []) (1 + j) = marks_at (literals ++ x ∷ []) (length (set signs k new)) j old inside in
    at j within (cases_eq j k) ∙ sym now)
  where
    before : (j : ℕ) → j < length signs → get_or signs j old ≡ signs_of literals (1 + j)
    before j within = ap (λ s. get_or s j old) marked ∙ marks_at literals (length signs) j old within

    at : (j : ℕ) → j < length signs → (j ≡ k) ⊎ (j ≡ k → ⊥) → get_or (set signs k new) j old ≡ signs_of (literals ++ x ∷ []) (1 + j)
    at j within (inl same) =
        ap (λ i. get_or (set signs k new) i old) same
        ∙ get_or-set_same signs k new old low
        ∙ by
        ∙ ap (marked_by sign) (sym here ∙ before k low)
        ∙ sym (more_here literals x sign (1 + k) number is)
        ∙ ap (λ i. signs_of (literals ++ x ∷ []) (1 + i)) (sym same)
    at j within (inr apart) =
        get_or-set_other signs k j new old apart
        ∙ before j within
        ∙ sym (more_other literals x (1 + j) (λ same. absurd (apart (omega (arith, same, number)))))

blank : (count a : ℕ) → replicate count (record { positive = false; negative = false }) ≡ map (signs_of []) (range_with_len a count)
blank zero a = refl
blank (suc count) a = ap (λ signs. signs_of [] a ∷ signs) (blank count (a + 1))

-- nothing is named yet
pub marked_none : (count : ℕ) (signs : List Signs) → signs ≡ replicate count (record { positive = false; negative = false }) → IsMarked [] signs
marked_none count signs none = let all = none ∙ blank count 1 in all ∙ ap (marks []) (sym (ap length all ∙ length-marks [] count))

-- ---- the first of a run of numbers that passes

pub find_at : (p : ℕ → Bool) (a n k : ℕ) → k < n → ((j : ℕ) → j < k → p (a + j) ≡ false) → p (a + k) ≡ true → find p (range_with_len a n) ≡ Some (a + k)
find_at p a zero k low before passes = absurd (omega arith)
find_at p a (suc n) zero low before passes =
    let here : a + 0 ≡ a = omega arith in
    ap (λ b. cond b (Some a) (find p (range_with_len (a + 1) n))) (ap p (sym here) ∙ passes) ∙ ap Some (sym here)
find_at p a (suc n) (suc k) low before passes =
    let here : a + 0 ≡ a = omega arith in
    let next : (a + 1) + k ≡ a + suc k = omega arith in
    ap (λ b. cond b (Some a) (find p (range_with_len (a + 1) n))) (ap p (sym here) ∙ before 0 (omega arith))
    ∙ find_at p (a + 1) n k (omega arith) (λ j lower. ap p (let e : (a + 1) + j ≡ a + suc j = omega arith in e) ∙ before (suc j) (omega arith)) (ap p next ∙ passes)
    ∙ ap Some next

pub find_nowhere : (p : ℕ → Bool) (a n : ℕ) → ((j : ℕ) → j < n → p (a + j) ≡ false) → find p (range_with_len a n) ≡ None
find_nowhere p a zero h = refl
find_nowhere p a (suc n) h =
    let here : a + 0 ≡ a = omega arith in
    ap (λ b. cond b (Some a) (find p (range_with_len (a + 1) n))) (ap p (sym here) ∙ h 0 (omega arith))
    ∙ find_nowhere p (a + 1) n (λ j low. ap p (let e : (a + 1) + j ≡ a + suc j = omega arith in e) ∙ h (suc j) (omega arith))

abbrev pub is_both : Signs → Bool
is_both s = s.positive && s.negative

pub both_at : (literals : List Literal) (signs : List Signs) (k : ℕ) (d : Signs) → IsMarked literals signs → k < length signs → ((j : ℕ) → j < k → is_both (get_or signs j d) ≡ false) → is_both (get_or signs k d) ≡ true → both_named (length signs) literals ≡ Some (1 + k)
both_at literals signs k d marked low before passes =
    find_at (λ number. is_named literals true number && is_named literals false number) 1 (length signs) k low
    (λ j lower. ap is_both (sym (at j (omega arith))) ∙ before j lower) (ap is_both (sym (at k low)) ∙ passes)
  where
    at : (j : ℕ) → j < length signs → get_or signs j d ≡ signs_of literals (1 + j)
    at j within = ap (λ s. get_or s j d) marked ∙ marks_at literals (length signs) j d within

pub both_nowhere : (literals : List Literal) (signs : List Signs) (d : Signs) → IsMarked literals signs → ((j : ℕ) → j < length signs → is_both (get_or signs j d) ≡ false) → both_named (length signs) literals ≡ None
both_nowhere literals signs d marked before =
    find_nowhere (λ number. is_named literals true number && is_named literals false number) 1 (length signs)
    (λ j low. ap is_both (sym (ap (λ s. get_or s j d) marked ∙ marks_at literals (length signs) j d low)) ∙ before j low)

-- The conditions of constraints, and what a revision needs of one.
use Rattle.propagators.proofs.Prelude.{◌≡◌, ℕ, zero, suc, ◌+◌, ◌*◌, ◌<◌, ◌≤◌, Bool, true, false, List, [], ◌∷◌, length, map, take, Option, Some, None, refl, sym, ◌∙◌, ap, subst, arith, ◌==◌, slice_index_or, All, list_any, fold, option_map_or, length-take, length-map, get_or-map, All-nil, All-cons, All-head, All-append, All-map, and_from, or_left, both_ways, eq-eqb, numbers, has, Rises, holds, TruthTable, Candidate, is_in, are_in, Language, IsLanguage, IsCandidate, IsScope, variable_count, range_of, scope_of, relation_of, any_number, lacks, AreConstraints, ones_of, Family, Arc, is_wanted, arc_of, arcs_of, sets_on, is_not_empty, IsSubfamily, IsWithin, AreSupported, continues, AreBelow, IsFamilyOf, AreSettled, AreDifferent, IsUnderway, IsRevised, IsDead, replaced}
use Rattle.language.proofs.Beside.{scope_rises}
use Rattle.propagators.proofs.Cutting.{sets_for, set_for}
use Rattle.propagators.proofs.Replacing.{is_revised, is_dead, set_at, supported_within, member_of_some}

-- ---- scopes

-- a scope of 1 to 4 variables of n
pub record IsOver (n : ℕ) (a : Arc) : Type 0 where
  pub some : 1 ≤ length a.scope
  pub known : All (λ v. v < n) a.scope

pub arc_over : (l : Language) (c : Candidate) (holding : Bool) → IsLanguage l → IsCandidate l c → IsOver (variable_count l) (arc_of l c holding)
arc_over l c holding lawful is = (let s : IsScope (variable_count l) (scope_of l c) = lawful.scopes c.scope [] is.scope in record { some = s.not_empty; known = s.known })

pub arcs_over : (l : Language) (list : List Candidate) (against : Option Candidate) → IsLanguage l → AreConstraints l list against → All (IsOver (variable_count l)) (arcs_of l list against)
arcs_over l list against lawful are = All-append (IsOver (variable_count l)) (map (λ c. arc_of l c true) list) _
    (All-map (IsOver (variable_count l)) (λ c. arc_of l c true) list (λ k d low. arc_over l (slice_index_or list k d) true lawful (are.list k d low)))
    (last against are)
  where
    last : (o : Option Candidate) → AreConstraints l list o → All (IsOver (variable_count l)) (option_map_or (λ c. arc_of l c false ∷ []) o [])
    last None are = All-nil (IsOver (variable_count l))
    last (Some c) are = All-cons (IsOver (variable_count l)) (arc_of l c false) [] (arc_over l c false lawful (are.against c refl)) (All-nil (IsOver (variable_count l)))

pub arcs_small : (l : Language) (list : List Candidate) (against : Option Candidate) → IsLanguage l → AreConstraints l list against → (k : ℕ) (d : Arc) → k < length (arcs_of l list against) → All (λ v. v < 128) (slice_index_or (arcs_of l list against) k d).scope
arcs_small l list against lawful are k d low = λ i e below. (let at = (arcs_over l list against lawful are k d low).known i e below in let few = lawful.few_variables in omega arith)

-- the conditions are on variables of a family
pub arcs_within : (l : Language) (list : List Candidate) (against : Option Candidate) → IsLanguage l → AreConstraints l list against → (f : Family) → IsFamilyOf l f → (k : ℕ) (d : Arc) → k < length (arcs_of l list against) →
    All (λ v. v < length f) (slice_index_or (arcs_of l list against) k d).scope
arcs_within l list against lawful are f family k d low = λ i e below. (let at = (arcs_over l list against lawful are k d low).known i e below in let size = family.size in omega arith)

-- where all variables have changed, no condition has to be settled
pub all_settled : (arcs : List Arc) (n : ℕ) (f : Family) → All (IsOver n) arcs → AreSettled arcs (numbers n) f
all_settled arcs n f over = λ k a low none. absurd (touched (slice_index_or arcs k a).scope (over k a low).some (over k a low).known none)
  where
    touched : (scope : List ℕ) → 1 ≤ length scope → All (λ v. v < n) scope → list_any (has (numbers n)) scope ≡ false → ⊥
    touched [] some known none = omega arith
    touched (v ∷ scope) some known none = both_ways _ none (or_left _ _ (any_number (λ x. x == v) n v (All-head (λ v. v < n) v scope known) (eq-eqb v v refl)))

rises_different : (a : ℕ) (xs : List ℕ) → Rises a xs → AreDifferent xs
rises_different a [] r = tt
rises_different a (x ∷ xs) r = (lacks (x + 1) x xs (omega arith) r.2, rises_different (x + 1) xs r.2)

pub scope_different : (n : ℕ) (scope : List ℕ) → n ≤ 128 → IsScope n scope → AreDifferent scope
scope_different n scope few is = rises_different 0 scope (scope_rises n scope few is.rising is.known)

abbrev pub IsApart : Arc → Type 0
IsApart a = AreDifferent a.scope

pub arcs_different : (l : Language) (list : List Candidate) (against : Option Candidate) → IsLanguage l → AreConstraints l list against → (k : ℕ) (d : Arc) → k < length (arcs_of l list against) → AreDifferent (slice_index_or (arcs_of l list against) k d).scope
arcs_different l list against lawful are = All-append IsApart (map (λ c. arc_of l c true) list) _
    (All-map IsApart (λ c. arc_of l c true) list (λ k d low. one (slice_index_or list k d) (are.list k d low)))
    (last against are)
  where
    one : (c : Candidate) → IsCandidate l c → AreDifferent (scope_of l c)
    one c is = scope_different (variable_count l) (scope_of l c) lawful.few_variables (lawful.scopes c.scope [] is.scope)

    last : (o : Option Candidate) → AreConstraints l list o → All IsApart (option_map_or (λ c. arc_of l c false ∷ []) o [])
    last None are = All-nil IsApart
    last (Some c) are = All-cons IsApart (arc_of l c false) [] (one c (are.against c refl)) (All-nil IsApart)

-- ---- families

pub family_within : (l : Language) (f g : Family) → length g ≡ length f → IsSubfamily g f → IsFamilyOf l f → IsFamilyOf l g
family_within l f g long sub is = record { size = long ∙ is.size; values = λ v x h. is.values v x (sub v x h); within = λ v x h. is.within v x (sub v x h) }

-- a tuple within the sets of a scope is within the ranges
pub tuple_in : (l : Language) (f : Family) → ((v x : ℕ) → has (slice_index_or f v []) x ≡ true → is_in (range_of l v) x ≡ true) → (scope tuple : List ℕ) → IsWithin (sets_on f scope) tuple → (length tuple ≡ length scope) × (are_in l.ranges scope tuple ≡ true)
tuple_in l f is [] [] h = (refl, refl)
tuple_in l f is [] (x ∷ tuple) h = absurd h
tuple_in l f is (v ∷ scope) [] h = absurd h
tuple_in l f is (v ∷ scope) (x ∷ tuple) h =
    let rest = tuple_in l f is scope tuple h.1 in
    (ap suc rest.0, and_from _ _ (is v x h.0) rest.1)

-- what says of the tuples within the sets the same supports the same values
pub supported_as : (sets : List (List ℕ)) (p q : List ℕ → Bool) (found : List (List ℕ)) → ((tuple : List ℕ) → IsWithin sets tuple → p tuple ≡ q tuple) → AreSupported sets p found → AreSupported sets q found
supported_as sets p q found same is = record {
  all = λ tuple within at. is.all tuple within (same tuple within ∙ at);
  only = λ i x h. (let t = is.only i x h in record { tuple = t.tuple; within = t.within; at = t.at; is = sym (same t.tuple t.within) ∙ t.is });
}

pub family_under : (l : Language) (arcs : List Arc) (f g : Family) → IsFamilyOf l f → IsUnderway arcs f g → IsFamilyOf l g
family_under l arcs f g is to = family_within l f g to.size to.within is

-- ---- a candidate's supported values

module _ (l : Language) (c : Candidate) (holding : Bool) (table : TruthTable) (f : Family) (scope sets found : List ℕ) (at : scope ≡ scope_of l c) (on : take (length scope) (map ones_of sets) ≡ sets_on f scope) where
  -- the table says of the tuples on the scope that are within the ranges what the relation does
  abbrev Agrees : Type 0
  Agrees = (tuple : List ℕ) → length tuple ≡ length (scope_of l c) → are_in l.ranges (scope_of l c) tuple ≡ true → holds l.value_count table.truth tuple ≡ holds l.value_count (relation_of l c) tuple

  pub supported_here : table.arity ≡ length (scope_of l c) → table.value_count ≡ l.value_count → Agrees → IsFamilyOf l f →
      AreSupported (take table.arity (map ones_of sets)) (continues table holding 0) (take table.arity (map ones_of found)) → AreSupported (sets_on f (scope_of l c)) (arc_of l c holding).accepted (sets_for (scope_of l c) found)
  supported_here arity values agrees family is =
      let long : table.arity ≡ length scope = arity ∙ ap length (sym at) in
      supported_as (sets_on f (scope_of l c)) (continues table holding 0) (arc_of l c holding).accepted (sets_for (scope_of l c) found) accepts_as
      (subst (λ (s : List (List ℕ)). AreSupported (sets_on f (scope_of l c)) (continues table holding 0) s) (ap (λ n. take n (map ones_of found)) arity)
      (subst (λ (s : List (List ℕ)). AreSupported s (continues table holding 0) (take table.arity (map ones_of found))) (ap (λ n. take n (map ones_of sets)) long ∙ on ∙ ap (sets_on f) at) is))
    where
      accepts_as : (tuple : List ℕ) → IsWithin (sets_on f (scope_of l c)) tuple → continues table holding 0 tuple ≡ (arc_of l c holding).accepted tuple
      accepts_as tuple within =
          let there = tuple_in l f family.within (scope_of l c) tuple within in
          ap (λ d. is_wanted holding (slice_index_or table.truth (fold (λ at x. at * d + x) 0 tuple) false)) values ∙ ap (is_wanted holding) (agrees tuple there.0 there.1)

  -- the sets hold values of the language
  pub sets_below : IsFamilyOf l f → (d n : ℕ) → d ≡ l.value_count → n ≡ length scope → All (λ s. AreBelow d (ones_of s)) (take n sets)
  sets_below family d n same count = λ k e low x h. (
      let below : k < length scope = (let size = length-take n sets in omega arith) in
      let here : ones_of (slice_index_or (take n sets) k e) ≡ slice_index_or f (slice_index_or scope k 0) [] = read k e low below in
      let value = family.values (slice_index_or scope k 0) x (ap (λ xs. has xs x) (sym here) ∙ h) in
      omega arith)
    where
      read : (k e : ℕ) → k < length (take n sets) → k < length scope → ones_of (slice_index_or (take n sets) k e) ≡ slice_index_or f (slice_index_or scope k 0) []
      read k e low below =
          sym (get_or-map ones_of (take n sets) k e [] low)
          ∙ ap (λ (s : List (List ℕ)). slice_index_or s k []) (map_take n sets ∙ ap (λ m. take m (map ones_of sets)) count ∙ on) ∙ set_at f scope k below
        where
          map_take : (n : ℕ) (ms : List ℕ) → map ones_of (take n ms) ≡ take n (map ones_of ms)
          map_take zero ms = refl
          map_take (suc n) [] = refl
          map_take (suc n) (m ∷ ms) = ap (λ (xs : List (List ℕ)). ones_of m ∷ xs) (map_take n ms)

  -- the scope's sets are written
  abbrev pub cut_down : Family
  cut_down = replaced scope (sets_for scope found) f

  long_for : length found ≡ 4 → length scope ≤ 4 → length (sets_for (scope_of l c) found) ≡ length (scope_of l c)
  long_for four short = (let same = ap length at in omega (arith, length-take (length (scope_of l c)) (map ones_of found), length-map found ones_of))

  pub found_within : length found ≡ 4 → length scope ≤ 4 → AreSupported (sets_on f (scope_of l c)) (arc_of l c holding).accepted (sets_for (scope_of l c) found) →
      (j x : ℕ) → j < length scope → has (ones_of (slice_index_or found j 0)) x ≡ true → has (slice_index_or f (slice_index_or scope j 0) []) x ≡ true
  found_within four short is j x low h =
      let same = ap length at in
      let below : j < length (scope_of l c) = omega arith in
      ap (λ (s : List ℕ). has (slice_index_or f (slice_index_or s j 0) []) x) at
      ∙ supported_within (arc_of l c holding) f (sets_for (scope_of l c) found) is j x below (ap (λ xs. has xs x) (set_for (scope_of l c) found j below (omega arith)) ∙ h)

  pub revised_here : IsLanguage l → IsCandidate l c → IsFamilyOf l f → length found ≡ 4 → length scope ≤ 4 →
      AreSupported (sets_on f (scope_of l c)) (arc_of l c holding).accepted (sets_for (scope_of l c) found) → is_not_empty (ones_of (slice_index_or found 0 0)) ≡ true → (g : Family) → g ≡ replaced scope (sets_for scope found) f →
      IsRevised (arc_of l c holding) f g
  revised_here lawful is family four short supported some g written =
      let s : IsScope (variable_count l) (scope_of l c) = lawful.scopes c.scope [] is.scope in
      let one = member_of_some (ones_of (slice_index_or found 0 0)) some in
      subst (IsRevised (arc_of l c holding) f) (sym (written ∙ ap (λ (vs : List ℕ). replaced vs (sets_for vs found) f) at))
      (is_revised (arc_of l c holding) f (sets_for (scope_of l c) found) (scope_different (variable_count l) (scope_of l c) lawful.few_variables s) (long_for four short)
      (λ k d low. (let at = s.known k d low in let size = family.size in omega arith)) supported one.0
      (ap (λ xs. has xs one.0) (set_for (scope_of l c) found 0 (let some = s.not_empty in omega arith) (omega arith)) ∙ one.1))

  pub dead_here : IsLanguage l → IsCandidate l c → IsFamilyOf l f → length found ≡ 4 → length scope ≤ 4 →
      AreSupported (sets_on f (scope_of l c)) (arc_of l c holding).accepted (sets_for (scope_of l c) found) → is_not_empty (ones_of (slice_index_or found 0 0)) ≡ false → IsDead (arc_of l c holding) f
  dead_here lawful is family four short supported none =
      let s : IsScope (variable_count l) (scope_of l c) = lawful.scopes c.scope [] is.scope in
      is_dead (arc_of l c holding) f (sets_for (scope_of l c) found) (scope_different (variable_count l) (scope_of l c) lawful.few_variables s) (long_for four short)
      (λ k d low. (let at = s.known k d low in let size = family.size in omega arith)) supported s.not_empty
      (set_for (scope_of l c) found 0 (let some = s.not_empty in omega arith) (omega arith) ∙ empty (ones_of (slice_index_or found 0 0)) none)
    where
      empty : (xs : List ℕ) → is_not_empty xs ≡ false → xs ≡ []
      empty [] h = refl
      empty (x ∷ xs) h = cc

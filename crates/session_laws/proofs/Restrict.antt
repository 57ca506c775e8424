-- An assignment on a set alone.
use Rattle.session_laws.proofs.Prelude.{◌≡◌, ℕ, zero, suc, ◌+◌, ◌<◌, ◌≤◌, Bool, true, false, cond, ◌||◌, ◌&&◌, not, List, [], ◌∷◌, length, Option, Some, None, refl, sym, ◌∙◌, ap, subst, arith, inl, inr, ◌⊎◌, ◌==◌, All, Any, slice_index_or, is_some, unwrap_or, nat_lt, list_any, position_or_len, range_with_len, All-head, All-tail, All-map, get_or-map-range_with_len, length-map-range_with_len, fill_by_all, get_or-eq_default, AllPass-from_list_all, Any-from_list_any, cases_lt, and_parts, and_from, or_cases, both_ways, eq-eqb, eqb-true, lt-ltb, cond-true, Candidate, numbers, has, is_within, Rises, Assignment, value_of, restrict, covers, tuple_on, is_complete, variables_of, holds, Language, IsLanguage, IsCandidate, variable_count, scope_of, relation_of, violates, accepts, IsQuestion, is_ranged, IsNetwork, set_where-same, canonical, any_number, Sub, within_sub, sub_within, accepted_at, accepted_from, scope_rises}
use Rattle.std.specs.List.{position}
use Rattle.std.specs.Option.{ForSome}

-- ---- sets

pub has_all : (P : ℕ → Type 0) (xs : List ℕ) (v : ℕ) → All P xs → has xs v ≡ true → P v
has_all P [] v all h = absurd (both_ways _ refl h)
has_all P (x ∷ xs) v all h = go (or_cases (x == v) (has xs v) h) (has_all P xs v (All-tail P x xs all))
  where
    go : ((x == v) ≡ true) ⊎ (has xs v ≡ true) → (has xs v ≡ true → P v) → P v
    go (inl here) rest = subst P (eqb-true x v here) (All-head P x xs all)
    go (inr there) rest = rest there

pub rises_range : (a n : ℕ) → a + n ≤ 128 → Rises a (range_with_len a n)
rises_range a zero h = tt
rises_range a (suc n) h = (omega arith, omega arith, rises_range (a + 1) n (omega arith))

position_below : {X : Type 0} (p : X → Bool) (xs : List X) → list_any p xs ≡ true → position_or_len p xs < length xs
position_below p [] h = absurd (both_ways _ refl h)
position_below p (x ∷ xs) h = go (p x) refl (position_below p xs)
  where
    go : (b : Bool) → p x ≡ b → (list_any p xs ≡ true → position_or_len p xs < length xs) → cond (not b) (1 + position_or_len p xs) 0 < suc (length xs)
    go true on rest = omega arith
    go false off rest = (let low = rest (sym (ap (λ b. b || list_any p xs) off) ∙ h) in omega arith)

pub position_some : {X : Type 0} (p : X → Bool) (xs : List X) → list_any p xs ≡ true → position p xs ≡ None → ⊥
position_some p xs h none = some_is_none (sym (cond-true (nat_lt (position_or_len p xs) (length xs)) (Some (position_or_len p xs)) None (lt-ltb _ _ (position_below p xs h))) ∙ none)
  where
    some_is_none : Some (position_or_len p xs) ≡ None → ⊥
    some_is_none e = cc

-- ---- the values on a set

pub value_of_restrict : (e : Assignment) (w : List ℕ) (v : ℕ) → value_of (restrict e w) v ≡ cond (has w v) (value_of e v) None
value_of_restrict e w v = go (cases_lt v (length e))
  where
    neither : (b : Bool) (o : Option ℕ) → o ≡ None → o ≡ cond b o None
    neither true o h = refl
    neither false o h = h

    go : (v < length e) ⊎ (length e ≤ v) → value_of (restrict e w) v ≡ cond (has w v) (value_of e v) None
    go (inl low) = get_or-map-range_with_len (λ v. cond (has w v) (value_of e v) None) 0 (length e) v v None low (omega arith)
    go (inr high) = get_or-eq_default (restrict e w) None {n = v} (omega (arith, length-map-range_with_len (λ v. cond (has w v) (value_of e v) None) 0 (length e)))
        ∙ sym (get_or-eq_default e None {n = v} high) ∙ neither (has w v) (value_of e v) (get_or-eq_default e None {n = v} high)

covers_restrict : (e : Assignment) (w scope : List ℕ) → covers (restrict e w) scope ≡ (is_within scope w && covers e scope)
covers_restrict e w [] = refl
covers_restrict e w (v ∷ scope) =
    (λ i. is_some (value_of_restrict e w v i) && covers_restrict e w scope i) ∙ go (has w v) (value_of e v) (is_within scope w) (covers e scope)
  where
    go : (b : Bool) (o : Option ℕ) (p q : Bool) → (is_some (cond b o None) && (p && q)) ≡ ((b && p) && (is_some o && q))
    go true o true q = refl
    go true None false q = refl
    go true (Some x) false q = refl
    go false o p q = refl

tuple_restrict : (e : Assignment) (w scope : List ℕ) → is_within scope w ≡ true → tuple_on (restrict e w) scope ≡ tuple_on e scope
tuple_restrict e w [] h = refl
tuple_restrict e w (v ∷ scope) h =
    let parts = and_parts (has w v) (is_within scope w) h in
    λ i. unwrap_or ((value_of_restrict e w v ∙ cond-true (has w v) (value_of e v) None parts.0) i) 0 ∷ tuple_restrict e w scope parts.1 i

-- a candidate is violated on a set where its scope lies in the set and it is violated
pub violates_restrict : (l : Language) (c : Candidate) (e : Assignment) (w : List ℕ) → violates l c (restrict e w) ≡ (is_within (scope_of l c) w && violates l c e)
violates_restrict l c e w = go (is_within (scope_of l c) w) refl
  where
    rest : Assignment → Bool
    rest x = not (holds l.value_count (relation_of l c) (tuple_on x (scope_of l c)))

    go : (b : Bool) → is_within (scope_of l c) w ≡ b → violates l c (restrict e w) ≡ (b && violates l c e)
    go true h = λ i. (covers_restrict e w (scope_of l c) ∙ ap (λ b. b && covers e (scope_of l c)) h) i && not (holds l.value_count (relation_of l c) (tuple_restrict e w (scope_of l c) h i))
    go false h = ap (λ b. b && rest (restrict e w)) (covers_restrict e w (scope_of l c) ∙ ap (λ b. b && covers e (scope_of l c)) h)

pub restrict_all : (e : Assignment) (n : ℕ) → length e ≡ n → restrict e (numbers n) ≡ e
restrict_all e n long = sym (fill_by_all (λ v. cond (has (numbers n) v) (value_of e v) None) e (length e) None refl (λ v low.
    sym (cond-true (has (numbers n) v) (value_of e v) None (any_number (λ x. x == v) n v (omega arith) (eq-eqb v v refl)))))

pub rejecting : (l : Language) (network : List Candidate) (x : Assignment) → accepts l network x ≡ false → Any (λ c. violates l c x ≡ true) network
rejecting l network x h = Any-from_list_any (λ c. violates l c x) network (go network h)
  where
    go : (cs : List Candidate) → accepts l cs x ≡ false → list_any (λ c. violates l c x) cs ≡ true
    go [] h = cc
    go (c ∷ cs) h = pick (violates l c x) (accepts l cs x) h (go cs)
      where
        pick : (b r : Bool) → (not b && r) ≡ false → (r ≡ false → list_any (λ c. violates l c x) cs ≡ true) → (b || list_any (λ c. violates l c x) cs) ≡ true
        pick true r h rest = refl
        pick false r h rest = rest h

module _ (l : Language) (lawful : IsLanguage l) where
  pub below_count : (c : Candidate) → IsCandidate l c → All (λ v. v < variable_count l) (scope_of l c)
  below_count c is = (lawful.scopes c.scope [] is.scope).known

  pub scope_small : (c : Candidate) → IsCandidate l c → All (λ v. v < 128) (scope_of l c)
  scope_small c is = λ k d low. (let at = below_count c is k d low in let most = lawful.few_variables in omega arith)

  pub rising_scope : (c : Candidate) → IsCandidate l c → Rises 0 (scope_of l c)
  rising_scope c is = (let scope = lawful.scopes c.scope [] is.scope in scope_rises (variable_count l) (scope_of l c) lawful.few_variables scope.rising scope.known)

  -- what is violated on a set is violated on a set about it
  pub violates_wider : (c : Candidate) → IsCandidate l c → (e : Assignment) (w set : List ℕ) → Sub w set → violates l c (restrict e w) ≡ true → violates l c (restrict e set) ≡ true
  violates_wider c is e w set sub h =
      let parts = and_parts (is_within (scope_of l c) w) (violates l c e) (sym (violates_restrict l c e w) ∙ h) in
      violates_restrict l c e set ∙ and_from _ _ (sub_within (scope_of l c) set 0 (rising_scope c is) (λ v low at. sub v low (within_sub (scope_of l c) w parts.0 v low at))) parts.1

  pub accepts_narrower : (network : List Candidate) → IsNetwork l network → (e : Assignment) (w set : List ℕ) → Sub w set → accepts l network (restrict e set) ≡ true → accepts l network (restrict e w) ≡ true
  accepts_narrower network legal e w set sub h = accepted_from l network (restrict e w) (λ k d low bad.
      both_ways _ (accepted_at l network (restrict e set) h k d low) (violates_wider (slice_index_or network k d) (legal k d low) e w set sub bad))

  -- the variables of a complete assignment on a set with the members of a scope
  pub exact_on : (e : Assignment) → length e ≡ variable_count l → is_complete e ≡ true → (w scope : List ℕ) → Rises 0 scope → All (λ v. v < variable_count l) scope →
      ((v : ℕ) → v < 128 → has w v ≡ has scope v) → variables_of (restrict e w) ≡ scope
  exact_on e long complete w scope rises known alike = set_where-same _ (has scope) (λ v low. ap is_some (value_of_restrict e w v) ∙ go v (has scope v) refl (alike v low)) ∙ canonical scope rises
    where
      go : (v : ℕ) (b : Bool) → has scope v ≡ b → has w v ≡ has scope v → is_some (cond (has w v) (value_of e v) None) ≡ has scope v
      go v true h same = ap (λ b. is_some (cond b (value_of e v) None)) (same ∙ h)
          ∙ AllPass-from_list_all is_some e complete v None (let low = has_all (λ v. v < variable_count l) scope v known h in omega arith) ∙ sym h
      go v false h same = ap (λ b. is_some (cond b (value_of e v) None)) (same ∙ h) ∙ sym h

-- ---- a question on a set alone

pub nothing : (P : ℕ → Type 0) → ForSome None P
nothing P x e = absurd (let bad : None ≡ Some x = e in cc)

fits_at : (l : Language) (e : Assignment) (v : ℕ) → IsQuestion l e → ForSome (value_of e v) (λ x. x < l.value_count)
fits_at l e v fits = go (cases_lt v (length e))
  where
    go : (v < length e) ⊎ (length e ≤ v) → ForSome (value_of e v) (λ x. x < l.value_count)
    go (inl low) = fits.values_fit v None low
    go (inr high) = subst (λ (o : Option ℕ). ForSome o (λ x. x < l.value_count)) (sym (get_or-eq_default e None {n = v} high)) (nothing (λ x. x < l.value_count))

-- a question on a set alone is a question
pub part_is_question : (l : Language) (e : Assignment) (w : List ℕ) → IsQuestion l e → IsQuestion l (restrict e w)
part_is_question l e w fits =
    record {
      size = length-map-range_with_len (λ v. cond (has w v) (value_of e v) None) 0 (length e) ∙ fits.size;
      values_fit = All-map (λ o. ForSome o (λ x. x < l.value_count)) (λ v. cond (has w v) (value_of e v) None) (numbers (length e)) (λ k d low. at (slice_index_or (numbers (length e)) k d));
      within = λ v low. ap (is_ranged l v) (value_of_restrict e w v) ∙ ranged v (has w v) (fits.within v low);
    }
  where
    at : (v : ℕ) → ForSome (cond (has w v) (value_of e v) None) (λ x. x < l.value_count)
    at v = go (has w v) (fits_at l e v fits)
      where
        go : (b : Bool) → ForSome (value_of e v) (λ x. x < l.value_count) → ForSome (cond b (value_of e v) None) (λ x. x < l.value_count)
        go true h = h
        go false h = nothing (λ x. x < l.value_count)

    ranged : (v : ℕ) (b : Bool) → is_ranged l v (value_of e v) ≡ true → is_ranged l v (cond b (value_of e v) None) ≡ true
    ranged v true h = h
    ranged v false h = refl

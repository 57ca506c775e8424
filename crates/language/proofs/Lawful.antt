-- What lists of variables are that nothing refuses.
use Rattle.language.proofs.Prelude.{no_pairs, ◌≡◌, ℕ, zero, suc, ◌+◌, ◌<◌, ◌≤◌, Bool, true, false, cond, ◌&&◌, ◌||◌, true≢false, Option, Some, None, Result, Ok, Err, is_some, List, [], ◌∷◌, ◌++◌, length, map, refl, sym, ◌∙◌, ap, subst, arith, All, AllPairs, IsTrue, IfErr, OnOk, ◌≢◌, nat_lt, nat_le, not, position, option_map, slice_index, option_or, list_any, position_or_len, IsStrictlyIncreasing, and_parts, or_parts, ltb-true, leb-true, le-leb, lt-ltb, All-nil, All-cons, All-head, All-tail, All-append, All-weaker, AllPairs-cons, Rises, IsSet, is_within, is_same, Scope, variables_in, AreScopes, Given, IsScope, AreApart, LangFault, Memory, ScopeOrder, TooManyScopes, ScopeRepeated, Nested, NoRelationOfArity, is_rising, is_ordered, are_nested, pair_after, first_pair, has_arity, rising_lists, all_scopes, scopes_of, AreKnown, scope_list_refusal, scopes_refusal}
use Rattle.language.proofs.Pairs.{first_is, one_step}
use Rattle.language.proofs.Used.{of_arity}
use Rattle.language.proofs.Rising.{lists_long, lists_rise, lists_known}
use Rattle.std.proofs.lemmas.Bool.{not-false}
use Rattle.shared_lemmas.proofs.Read.{cond_none, map_none, or_none}

-- ---- Where no list passes a test

none_passes : {X : Type 0} (p : X → Bool) (xs : List X) → list_any p xs ≡ false → All (λ x. p x ≡ false) xs
none_passes p [] h = All-nil (λ x. p x ≡ false)
none_passes p (x ∷ xs) h = let parts = or_parts (p x) (list_any p xs) h in All-cons (λ x. p x ≡ false) x xs parts.0 (none_passes p xs parts.1)

none_any : {X : Type 0} (p : X → Bool) (xs : List X) → All (λ x. p x ≡ false) xs → list_any p xs ≡ false
none_any p [] h = refl
none_any p (x ∷ xs) h = λ i. All-head (λ x. p x ≡ false) x xs h i || none_any p xs (All-tail (λ x. p x ≡ false) x xs h) i

-- all pass where there is no first that doesn't
pub all_pass : {X : Type 0} (q : X → Bool) (xs : List X) → position (λ x. not (q x)) xs ≡ None → All (λ x. q x ≡ true) xs
all_pass q xs h =
    All-weaker (λ x. not (q x) ≡ false) (λ x. q x ≡ true) (λ x fails. not-false (q x) fails) xs
    (none_passes (λ x. not (q x)) xs (cond_none _ _ (sym (first_is (λ x. not (q x)) xs) ∙ h)))

pub none_first : {X : Type 0} (q : X → Bool) (xs : List X) → All (λ x. q x ≡ true) xs → position (λ x. not (q x)) xs ≡ None
none_first q xs h =
    first_is (λ x. not (q x)) xs
    ∙ ap (λ b. cond b (Some (position_or_len (λ x. not (q x)) xs)) None)
    (none_any (λ x. not (q x)) xs (All-weaker (λ x. q x ≡ true) (λ x. not (q x) ≡ false) (λ x on. ap not on) xs h))

position-map-from : {X Y : Type 0} (p : Y → Bool) (f : X → Y) (xs : List X) → position_or_len p (map f xs) ≡ position_or_len (λ x. p (f x)) xs
position-map-from p f [] = refl
position-map-from p f (x ∷ xs) = ap (λ n. cond (not (p (f x))) (1 + n) 0) (position-map-from p f xs)

pub length-same : {X Y : Type 0} (f : X → Y) (xs : List X) → length (map f xs) ≡ length xs
length-same f [] = refl
length-same f (x ∷ xs) = ap suc (length-same f xs)

pub position-map : {X Y : Type 0} (p : Y → Bool) (f : X → Y) (xs : List X) → position p (map f xs) ≡ position (λ x. p (f x)) xs
position-map p f xs = λ i. cond (nat_lt (position-map-from p f xs i) (length-same f xs i)) (Some (position-map-from p f xs i)) None

-- ---- A list in order is a scope, and a set

pub ordered_sized : (xs : List ℕ) → is_ordered xs ≡ true → (1 ≤ length xs) × (length xs ≤ 4)
ordered_sized xs h =
    let sizes = and_parts (nat_le 1 (length xs)) (nat_le (length xs) 4) (and_parts (nat_le 1 (length xs) && nat_le (length xs) 4) (is_rising xs) h).0 in
    (leb-true 1 (length xs) sizes.0, leb-true (length xs) 4 sizes.1)

ordered_rises : (xs : List ℕ) → is_ordered xs ≡ true → is_rising xs ≡ true
ordered_rises xs h = (and_parts (nat_le 1 (length xs) && nat_le (length xs) 4) (is_rising xs) h).1

rising_steps : (xs : List ℕ) → is_rising xs ≡ true → IsStrictlyIncreasing xs
rising_steps [] h k low = absurd (omega arith)
rising_steps (x ∷ []) h k low = absurd (omega arith)
rising_steps (x ∷ w ∷ xs) h zero low = ltb-true x w (and_parts _ _ h).0
rising_steps (x ∷ w ∷ xs) h (suc k) low =
    subst (λ j. slice_index (x ∷ w ∷ xs) (suc k) < slice_index (x ∷ w ∷ xs) j) (let e : suc (k + 1) ≡ suc k + 1 = omega arith in e)
    (rising_steps (w ∷ xs) (and_parts _ _ h).1 k (omega arith))

pub is_scope : (n : ℕ) (xs : List ℕ) → is_ordered xs ≡ true → All (λ v. v < n) xs → IsScope n xs
is_scope n xs h known = let sized = ordered_sized xs h in record {
  rising = rising_steps xs (ordered_rises xs h);
  not_empty = sized.0;
  short = sized.1;
  known = known;
}

rises_so : (n a : ℕ) (xs : List ℕ) → n ≤ 128 → is_rising (a ∷ xs) ≡ true → All (λ v. v < n) xs → Rises (a + 1) xs
rises_so n a [] few h known = tt
rises_so n a (x ∷ xs) few h known =
    let parts = and_parts _ _ h in
    let low = ltb-true a x parts.0 in
    let high = All-head (λ v. v < n) x xs known in
    (omega arith, omega arith, rises_so n x xs few parts.1 (All-tail (λ v. v < n) x xs known))

rising_set : (n : ℕ) (xs : List ℕ) → n ≤ 128 → is_rising xs ≡ true → All (λ v. v < n) xs → IsSet xs
rising_set n [] few h known = tt
rising_set n (x ∷ xs) few h known =
    let high = All-head (λ v. v < n) x xs known in
    (omega arith, omega arith, rises_so n x xs few h (All-tail (λ v. v < n) x xs known))

both_hold : {X : Type 0} (P Q R : X → Type 0) → ((x : X) → P x → Q x → R x) → (xs : List X) → All P xs → All Q xs → All R xs
both_hold P Q R f [] p q = All-nil R
both_hold P Q R f (x ∷ xs) p q = All-cons R x xs (f x (All-head P x xs p) (All-head Q x xs q)) (both_hold P Q R f xs (All-tail P x xs p) (All-tail Q x xs q))

pub are_scopes : (n : ℕ) (lists : List (List ℕ)) → position (λ scope. not (is_ordered scope)) lists ≡ None → All (All (λ v. v < n)) lists → All (IsScope n) lists
are_scopes n lists ordered known = both_hold (λ list. is_ordered list ≡ true) (All (λ v. v < n)) (IsScope n) (is_scope n) lists (all_pass is_ordered lists ordered) known

pub are_sets : (n : ℕ) (lists : List (List ℕ)) → n ≤ 128 → position (λ scope. not (is_ordered scope)) lists ≡ None → All (All (λ v. v < n)) lists → All IsSet lists
are_sets n lists few ordered known =
    both_hold (λ list. is_ordered list ≡ true) (All (λ v. v < n)) IsSet (λ list on low. rising_set n list few (ordered_rises list on) low) lists (all_pass is_ordered lists ordered) known

-- ---- All scopes are in order and known

list_ordered : (size : ℕ) (list : List ℕ) → 1 ≤ size → size ≤ 4 → length list ≡ size → is_rising list ≡ true → is_ordered list ≡ true
list_ordered size list some few long rises = λ i. le-leb 1 (length list) (omega (arith, some, long)) i && le-leb (length list) 4 (omega (arith, few, long)) i && rises i

of_arity_all : (P : List ℕ → Type 0) (b : Bool) (n arity : ℕ) → All P (rising_lists n arity) → All P (cond b (rising_lists n arity) [])
of_arity_all P true n arity h = h
of_arity_all P false n arity h = All-nil P

every_arity : (P : List ℕ → Type 0) (n : ℕ) (given : List Given) → ((arity : ℕ) → 1 ≤ arity → arity ≤ 4 → All P (rising_lists n arity)) → All P (all_scopes n given)
every_arity P n given each =
    All-append P (of_arity n given 1) _ (of_arity_all P (has_arity given 1) n 1 (each 1 (omega arith) (omega arith)))
    (All-append P (of_arity n given 2) _ (of_arity_all P (has_arity given 2) n 2 (each 2 (omega arith) (omega arith)))
    (All-append P (of_arity n given 3) _ (of_arity_all P (has_arity given 3) n 3 (each 3 (omega arith) (omega arith)))
    (All-append P (of_arity n given 4) [] (of_arity_all P (has_arity given 4) n 4 (each 4 (omega arith) (omega arith))) (All-nil P))))

pub all_ordered : (n : ℕ) (given : List Given) → position (λ scope. not (is_ordered scope)) (all_scopes n given) ≡ None
all_ordered n given =
    none_first is_ordered (all_scopes n given) (every_arity (λ list. is_ordered list ≡ true) n given (λ arity some few.
    both_hold (λ list. length list ≡ arity) (λ list. is_rising list ≡ true) (λ list. is_ordered list ≡ true) (λ list long rises. list_ordered arity list some few long rises)
    (rising_lists n arity) (lists_long n arity) (lists_rise n arity)))

pub all_known : (n : ℕ) (given : List Given) → All (All (λ v. v < n)) (all_scopes n given)
all_known n given = every_arity (All (λ v. v < n)) n given (λ arity some few. lists_known n arity)

-- ---- Refusals

pub refused_order : (given : List Given) (lists : List (List ℕ)) (i : ℕ) → position (λ scope. not (is_ordered scope)) lists ≡ Some i → scopes_refusal given lists ≡ Some (ScopeOrder i)
refused_order given lists i h = ap (λ found. option_or (option_map ScopeOrder found) (scope_list_refusal given lists)) h

pub in_order : (given : List Given) (lists : List (List ℕ)) → position (λ scope. not (is_ordered scope)) lists ≡ None → scopes_refusal given lists ≡ scope_list_refusal given lists
in_order given lists h = ap (λ found. option_or (option_map ScopeOrder found) (scope_list_refusal given lists)) h

abbrev pub together : List Given → List (List ℕ) → Option LangFault
together given scopes =
    option_or (option_map (λ pair. ScopeRepeated pair.0 pair.1) (first_pair is_same scopes)) (
    option_or (option_map (λ pair. Nested pair.0 pair.1) (first_pair are_nested scopes)) (
    option_map NoRelationOfArity (position (λ scope. not (has_arity given (length scope))) scopes)))

pub refused_many : (given : List Given) (lists : List (List ℕ)) → position (λ scope. not (is_ordered scope)) lists ≡ None → 8192 < length lists → scopes_refusal given lists ≡ Some TooManyScopes
refused_many given lists ordered many = in_order given lists ordered ∙ ap (λ b. cond b (Some TooManyScopes) (together given lists)) (lt-ltb 8192 (length lists) many)

-- ---- What is true where nothing is refused

front : {X : Type 0} (P : X → Type 0) (xs : List X) (y : X) → All P (xs ++ y ∷ []) → All P xs
front P [] y h = All-nil P
front P (x ∷ xs) y h = All-cons P x xs (All-head P x (xs ++ y ∷ []) h) (front P xs y (All-tail P x (xs ++ y ∷ []) h))

back : {X : Type 0} (P : X → Type 0) (xs : List X) (y : X) → All P (xs ++ y ∷ []) → P y
back P [] y h = All-head P y [] h
back P (x ∷ xs) y h = back P xs y (All-tail P x (xs ++ y ∷ []) h)

-- no later list is related to an earlier one, nor to one before them all
record AreUnrelated (related : List ℕ → List ℕ → Bool) (before lists : List (List ℕ)) : Type 0 where
  pub across : All (λ list. All (λ earlier. related earlier list ≡ false) before) lists
  pub within : AllPairs (λ earlier list. related earlier list ≡ false) lists

unpaired : (b : Bool) (at : ℕ × ℕ) (rest : Option (ℕ × ℕ)) → cond b (Some at) rest ≡ None → (b ≡ false) × (rest ≡ None)
unpaired true at rest h = absurd (true≢false (ap (λ o. is_some o) h))
unpaired false at rest h = (refl, h)

unrelated : (related : List ℕ → List ℕ → Bool) (before lists : List (List ℕ)) → pair_after related before lists ≡ None → AreUnrelated related before lists
unrelated related before [] h = record {
  across = All-nil (λ list. All (λ earlier. related earlier list ≡ false) before);
  within = no_pairs (λ earlier list. related earlier list ≡ false);
}
unrelated related before (x ∷ lists) h =
    let parts = unpaired _ _ _ (sym (one_step related before x lists) ∙ h) in
    let rest = unrelated related (before ++ x ∷ []) lists parts.1 in
    record {
      across = All-cons (λ list. All (λ earlier. related earlier list ≡ false) before) x lists
          (none_passes (λ earlier. related earlier x) before parts.0)
          (All-weaker (λ list. All (λ earlier. related earlier list ≡ false) (before ++ x ∷ [])) (λ list. All (λ earlier. related earlier list ≡ false) before)
          (λ list all. front (λ earlier. related earlier list ≡ false) before x all) lists rest.across);
      within = AllPairs-cons (λ earlier list. related earlier list ≡ false) x lists
          (All-weaker (λ list. All (λ earlier. related earlier list ≡ false) (before ++ x ∷ [])) (λ list. related x list ≡ false)
          (λ list all. back (λ earlier. related earlier list ≡ false) before x all) lists rest.across)
          rest.within;
    }

apart_from : (s u : List ℕ) → are_nested s u ≡ false → AreApart s u
apart_from s u h = let parts = or_parts (is_within s u) (is_within u s) h in record { left = parts.0; right = parts.1 }

-- what a list of scopes is that isn't refused
pub record AreTaken (given : List Given) (lists : List (List ℕ)) : Type 0 where
  pub apart : AllPairs AreApart lists
  pub used : All (λ scope. IsTrue (has_arity given (length scope))) lists

few_none : (b : Bool) (rest : Option LangFault) → cond b (Some TooManyScopes) rest ≡ None → rest ≡ None
few_none true rest h = absurd (true≢false (ap (λ o. is_some o) h))
few_none false rest h = h

pub taken : (given : List Given) (lists : List (List ℕ)) → scope_list_refusal given lists ≡ None → AreTaken given lists
taken given lists h =
    let all = or_none _ _ (few_none _ _ h) in
    let more = or_none _ _ all.1 in
    let pairs = unrelated are_nested [] lists (map_none _ _ more.0) in
    record {
      apart = λ i j d low high. apart_from _ _ (pairs.within i j d low high);
      used = all_pass (λ scope. has_arity given (length scope)) lists (map_none _ _ more.1);
    }

-- ---- The scopes of a part

pub none_ordered : (n : ℕ) (given : List Given) (listed : Option (List (List ℕ))) → listed ≡ None → position (λ scope. not (is_ordered scope)) (scopes_of n given listed) ≡ None
none_ordered n given listed is = ap (λ l. position (λ scope. not (is_ordered scope)) (scopes_of n given l)) is ∙ all_ordered n given

pub none_many : (n : ℕ) (given : List Given) (listed : Option (List (List ℕ))) → listed ≡ None → 8192 < length (all_scopes n given) → scopes_refusal given (scopes_of n given listed) ≡ Some TooManyScopes
none_many n given listed is many = ap (λ l. scopes_refusal given (scopes_of n given l)) is ∙ refused_many given (all_scopes n given) (all_ordered n given) many

pub known_in : (n : ℕ) (given : List Given) (listed : Option (List (List ℕ))) → AreKnown n listed → All (All (λ v. v < n)) (scopes_of n given listed)
known_in n given None known = all_known n given
known_in n given (Some lists) known = known

pub sound : (n : ℕ) (given : List Given) (lists : List (List ℕ)) (scopes : List Scope) → map variables_in scopes ≡ lists → length lists ≤ 8192 →
    All (λ (scope : Scope). (1 ≤ scope.size) × (scope.size ≤ 4)) scopes → position (λ scope. not (is_ordered scope)) lists ≡ None → All (All (λ v. v < n)) lists →
    scope_list_refusal given lists ≡ None → AreScopes n given scopes
sound n given lists scopes is few sized ordered known none = let tested = taken given lists none in record {
  few = let long = length-same variables_in scopes in let same = ap length is in omega (arith, few, long, same);
  sized = sized;
  lawful = subst (All (IsScope n)) (sym is) (are_scopes n lists ordered known);
  apart = subst (AllPairs AreApart) (sym is) tested.apart;
  used = subst (All (λ scope. IsTrue (has_arity given (length scope)))) (sym is) tested.used;
}

-- ---- Where an answer is good, and where it isn't

pub on_ok : {X E : Type 0} (r : Result X E) (P : Type 0) → P → OnOk r P
on_ok (Ok x) P h = h
on_ok (Err e) P h = tt

pub refused_so : {X : Type 0} (n : ℕ) (given : List Given) (listed : Option (List (List ℕ))) (r : Result X LangFault) → listed ≡ None →
    IfErr r (λ e. e ≢ Memory → (e ≡ TooManyScopes) × (8192 < length (all_scopes n given))) → IfErr r (λ e. e ≢ Memory → scopes_refusal given (scopes_of n given listed) ≡ Some e)
refused_so n given listed (Ok x) is h = tt
refused_so n given listed (Err e) is h = λ other. let many = h other in none_many n given listed is many.1 ∙ ap Some (sym many.0)

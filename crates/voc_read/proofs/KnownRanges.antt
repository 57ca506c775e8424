-- Ranges that are read are ranges of the variables within the values, no two of one variable.
use Rattle.voc_read.proofs.Prelude.{◌≡◌, ℕ, ◌+◌, ◌<◌, Bool, true, false, cond, ◌&&◌, nat_lt, List, [], ◌∷◌, length, get_or, Option, Some, None, ℤ, pos, Result, Ok, Err, refl, sym, ap, ◌∙◌, subst, arith, All, int_le, int_lt, ◌≤ℤ◌, ◌<ℤ◌, ◌+ℤ◌, passes, position_or_len, ok_or, option_map, bytes_eq, get_or-map, length-map, All-nil, All-cons, same_Some, ltb-true, bytes_eq-Decides, Items, no_items, item, VocFault, RangeName, BadRange, RangeRepeated, then_on, unless, first_repeat, variable_number, RangeData, VariableRange, range_data, is_value, range_for, range_stated, ranges_from, ranged_names, ranges_refusal, ranges_of, IsKnown, HaveDistinctVariables, and_parts}
use Rattle.std.proofs.lemmas.List.Sums.{passes_at_first}
use Rattle.voc_read.proofs.NameForms.{apart}

-- ---- a name's number

found : (at n v : ℕ) (inside : Bool) → inside ≡ nat_lt at n → ◌≡◌ {A = Option ℕ} (cond inside (Some at) None) (Some v) → (at < n) × (at ≡ v)
found at n v true e h = (ltb-true at n (sym e), same_Some at v h)
found at n v false e h = absurd (cc)

-- the number of a name is that of a variable, which has it
pub numbered : (names : List (List ℕ)) (name : List ℕ) (v : ℕ) → variable_number names name ≡ Some v → (v < length names) × (get_or names v [] ≡ name)
numbered names name v is =
    let at = position_or_len (bytes_eq name) names in
    let here = found at (length names) v _ refl is in
    let same : get_or names at [] ≡ name = sym ((bytes_eq-Decides name (get_or names at [])).0 (passes_at_first (bytes_eq name) names [] here.0)) in
    (subst (λ n. n < length names) here.1 here.0, ap (λ n. get_or names n []) (sym here.1) ∙ same)

-- ---- each range

le : (a b : ℤ) → int_le a b ≡ true → a ≤ℤ b
le a b h = record { le = passes (int_le a b) h }

lt : (a b : ℤ) → int_lt a b ≡ true → a <ℤ b
lt a b h = record { lt = passes (int_lt a b) h }

abbrev OfOk : {A : Type 0} → (A → Type 0) → Result A VocFault → Type 0
OfOk P (Err fault) = Unit {0}
OfOk P (Ok x) = P x

module _ (lo : ℤ) (count : ℕ) (names : List (List ℕ)) where
  abbrev Known : VariableRange → Type 0
  Known = IsKnown names lo count

  when_bounded : (range : VariableRange) (fault : VocFault) (b : Bool) → variable_number names range.name ≡ Some range.variable
      → (int_le range.lowest range.highest && is_value lo count range.lowest && is_value lo count range.highest) ≡ b
      → OfOk Known (unless (cond b None (Some fault)) (Ok range))
  when_bounded range fault false named test = tt
  when_bounded range fault true named test =
      let parts = and_parts (int_le range.lowest range.highest && is_value lo count range.lowest) (is_value lo count range.highest) test in
      let lower = and_parts (int_le range.lowest range.highest) (is_value lo count range.lowest) parts.0 in
      let least = and_parts (int_le lo range.lowest) (int_lt range.lowest (lo +ℤ pos count)) lower.1 in
      let most = and_parts (int_le lo range.highest) (int_lt range.highest (lo +ℤ pos count)) parts.1 in
      record { numbered = named; some = le _ _ lower.0; low = le _ _ least.0; high = lt _ _ most.1 }

  when_numbered : (stated : RangeData) (i : ℕ) (number : Option ℕ) → variable_number names stated.name ≡ number
      → OfOk Known (then_on (ok_or number (RangeName i)) (λ variable.
      unless (cond (int_le stated.lowest stated.highest && is_value lo count stated.lowest && is_value lo count stated.highest) None (Some (BadRange i)))
      (Ok (record { name = stated.name; variable = variable; lowest = stated.lowest; highest = stated.highest }))))
  when_numbered stated i None named = tt
  when_numbered stated i (Some v) named =
      when_bounded (record { name = stated.name; variable = v; lowest = stated.lowest; highest = stated.highest }) (BadRange i) _ named refl

  when_stated : (stated : Option RangeData) (fault : VocFault) (i : ℕ) → OfOk Known (then_on (ok_or stated fault) (range_for i lo count names))
  when_stated None fault i = tt
  when_stated (Some stated) fault i = when_numbered stated i _ refl

  one_more : (range : Result VariableRange VocFault) (rest : Result (List VariableRange) VocFault) → OfOk Known range → OfOk (All Known) rest
      → OfOk (All Known) (then_on range (λ r. then_on rest (λ more. Ok (r ∷ more))))
  one_more (Err fault) rest x y = tt
  one_more (Ok range) (Err fault) x y = tt
  one_more (Ok range) (Ok more) x y = All-cons Known range more x y

  all_known : (i : ℕ) (items : Items) → OfOk (All Known) (ranges_from i lo count names items)
  all_known i no_items = All-nil Known
  all_known i (item value values) = one_more (range_stated i lo count names value) (ranges_from (i + 1) lo count names values) (when_stated (range_data value) _ i) (all_known (i + 1) values)

  -- ---- all of them

  when_apart : (found : Result (List VariableRange) VocFault) (ranges : List VariableRange) → OfOk (All Known) found
      → then_on found (λ rs. unless (ranges_refusal rs) (Ok rs)) ≡ Ok ranges → All Known ranges × (ranges_refusal ranges ≡ None)
  when_apart (Err fault) ranges known is = absurd (cc)
  when_apart (Ok found) ranges known is = kept (ranges_refusal found) refl is
    where
      kept : (refusal : Option VocFault) → ranges_refusal found ≡ refusal → unless refusal (Ok found) ≡ Ok ranges → All Known ranges × (ranges_refusal ranges ≡ None)
      kept None none same =
          let one : found ≡ ranges = cc in
          (subst (All Known) one known, subst (λ rs. ranges_refusal rs ≡ None) one none)
      kept (Some fault) some same = absurd (cc)

  no_repeat : (pair : Option (ℕ × ℕ)) → option_map (λ p. RangeRepeated p.0 p.1) pair ≡ None → pair ≡ None
  no_repeat None h = refl
  no_repeat (Some p) h = absurd (cc)

  are_apart : (ranges : List VariableRange) → All Known ranges → ranges_refusal ranges ≡ None → HaveDistinctVariables ranges
  are_apart ranges known none i j d above within same =
      let name_at : (k : ℕ) → k < length ranges → get_or (ranged_names ranges) k [] ≡ get_or names (get_or ranges k d).variable [] =
      λ k low. get_or-map (λ (r : VariableRange). r.name) ranges k d [] low ∙ sym (numbered names (get_or ranges k d).name (get_or ranges k d).variable (known k d low).numbered).1 in
      let inside : j < length (ranged_names ranges) = rw (length-map ranges (λ (r : VariableRange). r.name)) within in
      apart (ranged_names ranges) (no_repeat (first_repeat (ranged_names ranges)) none) i j [] above inside
      (name_at i (omega arith) ∙ ap (λ v. get_or names v []) same ∙ sym (name_at j within))

  pub are_known : (items : Items) (ranges : List VariableRange) → ranges_of lo count names items ≡ Ok ranges → All (IsKnown names lo count) ranges × HaveDistinctVariables ranges
  are_known items ranges is =
      let kept = when_apart (ranges_from 0 lo count names items) ranges (all_known 0 items) is in
      (kept.0, are_apart ranges kept.0 kept.1)

-- in other words for the same
pub known_as : (names other : List (List ℕ)) (lo low : ℤ) (count many : ℕ) (ranges list : List VariableRange) → names ≡ other → lo ≡ low → count ≡ many → ranges ≡ list
    → All (IsKnown names lo count) ranges → All (IsKnown other low many) list
known_as names other lo low count many ranges list n l c r known =
    subst (λ (rs : List VariableRange). All (IsKnown other low many) rs) r
    (subst (λ m. All (IsKnown other low m) ranges) c (subst (λ x. All (IsKnown other x count) ranges) l (subst (λ ns. All (IsKnown ns lo count) ranges) n known)))

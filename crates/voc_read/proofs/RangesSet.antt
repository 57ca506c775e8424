-- The values of each variable, one range more at a time.
use Rattle.voc_read.proofs.Prelude.{◌≡◌, ◌≢◌, ℕ, ℤ, ◌+◌, ◌<◌, ◌++◌, ◌==◌, true, false, cond, List, [], ◌∷◌, length, take, get_or, sym, ap, ◌∙◌, subst, arith, inl, inr, ◌⊎◌, All, slice_set, replicate, take_more, length-take, get_or-take, get_or_default, ext_get_or, get_or-set_same, get_or-set_other, get_or-replicate, length-replicate, All-head, All-tail, length-map-range_with_len, get_or-map-range_with_len, ne_eqb, cases_eq, whole_range, Frame, range_between, ValueRange, VariableRange, values_for, ranges_by, with_ranges, HasWholeRanges, IsKnown, HaveDistinctVariables}
use Rattle.std.proofs.Math.ListN.{length-set}
use Rattle.voc_read.proofs.KnownRanges.{numbered}

module _ (n : ℕ) (lo : ℤ) (count : ℕ) where
  -- without ranges each variable has all values
  pub none_set : replicate n (whole_range count) ≡ ranges_by n lo count []
  none_set =
      let d = whole_range count in
      ext_get_or d (replicate n d) (ranges_by n lo count []) (length-replicate n d ∙ sym (length-map-range_with_len (values_for lo count []) 0 n))
      (λ i low.
      let low : i < n = omega (arith, length-replicate n d) in
      get_or-replicate n i d d low ∙ sym (get_or-map-range_with_len (values_for lo count []) 0 n i i d low (omega arith)))

  -- the range behind the others is that of its variable, where no other is
  own : (ranges : List VariableRange) (range : VariableRange) → All (λ (r : VariableRange). r.variable ≢ range.variable) ranges
      → values_for lo count (ranges ++ range ∷ []) range.variable ≡ range_between lo range.lowest range.highest
  own [] range apart = ap (λ b. cond b (range_between lo range.lowest range.highest) (whole_range count)) (let e : (range.variable == range.variable) ≡ true = search arith in e)
  own (r ∷ ranges) range apart =
      let here : (r.variable == range.variable) ≡ false = ne_eqb r.variable range.variable (All-head (λ (r : VariableRange). r.variable ≢ range.variable) r ranges apart) in
      ap (λ b. cond b (range_between lo r.lowest r.highest) (values_for lo count (ranges ++ range ∷ []) range.variable)) here
      ∙ own ranges range (All-tail (λ (r : VariableRange). r.variable ≢ range.variable) r ranges apart)

  -- and of no other variable
  others : (ranges : List VariableRange) (range : VariableRange) (v : ℕ) → range.variable ≢ v → values_for lo count (ranges ++ range ∷ []) v ≡ values_for lo count ranges v
  others [] range v other = ap (λ b. cond b (range_between lo range.lowest range.highest) (whole_range count)) (ne_eqb range.variable v other)
  others (r ∷ ranges) range v other = ap (λ rest. cond (r.variable == v) (range_between lo r.lowest r.highest) rest) (others ranges range v other)

  abbrev by : List VariableRange → List ValueRange
  by ranges = ranges_by n lo count ranges

  by_at : (ranges : List VariableRange) (i : ℕ) → i < n → get_or (by ranges) i (whole_range count) ≡ values_for lo count ranges i
  by_at ranges i low = get_or-map-range_with_len (values_for lo count ranges) 0 n i i (whole_range count) low (omega arith)

  size_by : (ranges : List VariableRange) → length (by ranges) ≡ n
  size_by ranges = length-map-range_with_len (values_for lo count ranges) 0 n

  set_at : (ranges : List VariableRange) (range : VariableRange) (i : ℕ) → range.variable < n → i < n → All (λ (r : VariableRange). r.variable ≢ range.variable) ranges → (i ≡ range.variable) ⊎ (i ≢ range.variable)
      → get_or (slice_set (by ranges) range.variable (range_between lo range.lowest range.highest)) i (whole_range count) ≡ values_for lo count (ranges ++ range ∷ []) i
  set_at ranges range i known low apart (inl same) =
      ap (λ k. get_or (slice_set (by ranges) range.variable (range_between lo range.lowest range.highest)) k (whole_range count)) same
      ∙ get_or-set_same (by ranges) range.variable (range_between lo range.lowest range.highest) (whole_range count) (omega (arith, size_by ranges))
      ∙ sym (own ranges range apart) ∙ ap (values_for lo count (ranges ++ range ∷ [])) (sym same)
  set_at ranges range i known low apart (inr other) =
      get_or-set_other (by ranges) range.variable i (range_between lo range.lowest range.highest) (whole_range count) other
      ∙ by_at ranges i low ∙ sym (others ranges range i (λ e. other (sym e)))

  pub one_set : (ranges : List VariableRange) (range : VariableRange) → range.variable < n → All (λ (r : VariableRange). r.variable ≢ range.variable) ranges
      → slice_set (ranges_by n lo count ranges) range.variable (range_between lo range.lowest range.highest) ≡ ranges_by n lo count (ranges ++ range ∷ [])
  one_set ranges range known apart =
      let set : List ValueRange = slice_set (by ranges) range.variable (range_between lo range.lowest range.highest) in
      let size : length set ≡ n = length-set (by ranges) range.variable (range_between lo range.lowest range.highest) ∙ size_by ranges in
      ext_get_or (whole_range count) set (by (ranges ++ range ∷ [])) (size ∙ sym (size_by (ranges ++ range ∷ [])))
      (λ i low. let low : i < n = omega (arith, size) in set_at ranges range i known low apart (cases_eq i range.variable) ∙ sym (by_at (ranges ++ range ∷ []) i low))

-- ---- a frame

pub at_first : (frame : Frame) → HasWholeRanges frame → frame ≡ with_ranges frame []
at_first frame whole = λ i. record {
  names = frame.names;
  least_value = frame.least_value;
  value_count = frame.value_count;
  ranges = (whole ∙ none_set (length frame.names) frame.least_value frame.value_count) i;
}

-- what a frame is after one range more
pub record Sets (old new : Frame) (range : VariableRange) : Type 0 where
  pub names : new.names ≡ old.names
  pub least_value : new.least_value ≡ old.least_value
  pub value_count : new.value_count ≡ old.value_count
  pub ranges : new.ranges ≡ slice_set old.ranges range.variable (range_between old.least_value range.lowest range.highest)

pub goes_on : (frame old new : Frame) (before : List VariableRange) (range : VariableRange) → old ≡ with_ranges frame before → Sets old new range
    → range.variable < length frame.names → All (λ (r : VariableRange). r.variable ≢ range.variable) before → new ≡ with_ranges frame (before ++ range ∷ [])
goes_on frame old new before range so_far sets known apart = λ i. record {
  names = (sets.names ∙ ap (λ (f : Frame). f.names) so_far) i;
  least_value = (sets.least_value ∙ ap (λ (f : Frame). f.least_value) so_far) i;
  value_count = (sets.value_count ∙ ap (λ (f : Frame). f.value_count) so_far) i;
  ranges = (sets.ranges
      ∙ ap (λ (f : Frame). slice_set f.ranges range.variable (range_between f.least_value range.lowest range.highest)) so_far
      ∙ one_set (length frame.names) frame.least_value frame.value_count before range known apart) i;
}

-- ---- ranges set in order

-- no earlier one is of its variable
apart_before : (ranges : List VariableRange) (i : ℕ) (d : VariableRange) → HaveDistinctVariables ranges → i < length ranges → All (λ (r : VariableRange). r.variable ≢ (get_or ranges i d).variable) (take i ranges)
apart_before ranges i d apart within = λ k e low same.
    let above : k < i = grind (arith, length-take) in
    apart k i e above within (ap (λ (r : VariableRange). r.variable) (sym (get_or-take i ranges k e above)) ∙ same ∙ ap (λ (r : VariableRange). r.variable) (get_or_default ranges i d e within))

pub known_at : (frame old : Frame) (ranges before : List VariableRange) (i : ℕ) (d : VariableRange) → old ≡ with_ranges frame before → i < length ranges
    → All (IsKnown frame.names frame.least_value frame.value_count) ranges → IsKnown old.names old.least_value old.value_count (get_or ranges i d)
known_at frame old ranges before i d so_far within known =
    let P : Frame → Type 0 = λ f. IsKnown f.names f.least_value f.value_count (get_or ranges i d) in
    subst P (sym so_far) (known i d within)

pub one_more : (frame old new : Frame) (ranges : List VariableRange) (i : ℕ) (d : VariableRange) → i < length ranges
    → All (IsKnown frame.names frame.least_value frame.value_count) ranges → HaveDistinctVariables ranges → old ≡ with_ranges frame (take i ranges) → Sets old new (get_or ranges i d)
    → new ≡ with_ranges frame (take (i + 1) ranges)
one_more frame old new ranges i d within known apart so_far sets =
    goes_on frame old new (take i ranges) (get_or ranges i d) so_far sets (numbered frame.names _ _ (known i d within).numbered).0 (apart_before ranges i d apart within)
    ∙ ap (with_ranges frame) (sym (take_more ranges i d within))

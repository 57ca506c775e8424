-- A family in which the sets of a scope's variables are replaced by their supported values.
use Rattle.propagators.proofs.Prelude.{◌≡◌, ℕ, zero, suc, ◌<◌, ◌≤◌, Bool, true, false, ◌&&◌, ◌||◌, List, [], ◌∷◌, length, map, refl, sym, ◌∙◌, ap, subst, arith, inl, inr, ◌⊎◌, ◌==◌, slice_index_or, slice_set, All, list_any, list_all, length-set, get_or-set_same, get_or-set_other, get_or-map, All-head, All-tail, and_parts, and_from, or_left, or_right, or_cases, both_ways, eq-eqb, eqb-true, has, any-map, any-flat_map, Family, Arc, selections, sets_on, has_support, is_consistent, is_not_empty, IsSubfamily, IsWithin, IsThrough, AreSupported, IsRevised, IsDead, AreDifferent, replaced}
use Rattle.propagators.proofs.Pruned.{supporting, consistent, has_head}
use Rattle.std.proofs.lemmas.Bool.{or_parts}

-- ---- tuples within sets are their selections

any_has : (p : ℕ → Bool) (xs : List ℕ) (x : ℕ) → has xs x ≡ true → p x ≡ true → list_any p xs ≡ true
any_has p [] x h at = cc
any_has p (y ∷ xs) x h at = go (or_cases (y == x) (has xs x) h) (λ there. any_has p xs x there at)
  where
    go : ((y == x) ≡ true) ⊎ (has xs x ≡ true) → (has xs x ≡ true → list_any p xs ≡ true) → (p y || list_any p xs) ≡ true
    go (inl same) rest = or_left _ _ (ap p (eqb-true y x same) ∙ at)
    go (inr there) rest = or_right _ _ (rest there)

has_any : (p : ℕ → Bool) (xs : List ℕ) → list_any p xs ≡ true → (x : ℕ) × (has xs x ≡ true) × (p x ≡ true)
has_any p [] h = cc
has_any p (y ∷ xs) h = go (or_cases (p y) (list_any p xs) h) (has_any p xs)
  where
    go : (p y ≡ true) ⊎ (list_any p xs ≡ true) → (list_any p xs ≡ true → (x : ℕ) × (has xs x ≡ true) × (p x ≡ true)) → (x : ℕ) × (has (y ∷ xs) x ≡ true) × (p x ≡ true)
    go (inl here) rest = (y, has_head y xs, here)
    go (inr there) rest = (let r = rest there in (r.0, or_right _ _ r.1, r.2))

selections_as : (p : List ℕ → Bool) (xs : List ℕ) (sets : List (List ℕ)) → list_any p (selections (xs ∷ sets)) ≡ list_any (λ x. list_any (λ rest. p (x ∷ rest)) (selections sets)) xs
selections_as p xs sets = any-flat_map p (λ (x : ℕ). map (λ rest. x ∷ rest) (selections sets)) xs ∙ go xs
  where
    go : (xs : List ℕ) → list_any (λ x. list_any p (map (λ rest. x ∷ rest) (selections sets))) xs ≡ list_any (λ x. list_any (λ rest. p (x ∷ rest)) (selections sets)) xs
    go [] = refl
    go (x ∷ xs) = λ i. any-map p (λ (rest : List ℕ). x ∷ rest) (selections sets) i || go xs i

any_within : (p : List ℕ → Bool) (sets : List (List ℕ)) (tuple : List ℕ) → IsWithin sets tuple → p tuple ≡ true → list_any p (selections sets) ≡ true
any_within p [] [] h at = or_left _ _ at
any_within p [] (x ∷ tuple) h at = absurd h
any_within p (xs ∷ sets) [] h at = absurd h
any_within p (xs ∷ sets) (x ∷ tuple) h at =
    selections_as p xs sets ∙ any_has (λ x. list_any (λ rest. p (x ∷ rest)) (selections sets)) xs x h.0 (any_within (λ rest. p (x ∷ rest)) sets tuple h.1 at)

some_within : (p : List ℕ → Bool) (sets : List (List ℕ)) → list_any p (selections sets) ≡ true → (tuple : List ℕ) × IsWithin sets tuple × (p tuple ≡ true)
some_within p [] h = go (or_cases (p []) false h)
  where
    go : (p [] ≡ true) ⊎ (false ≡ true) → (tuple : List ℕ) × IsWithin [] tuple × (p tuple ≡ true)
    go (inl at) = ([], tt, at)
    go (inr never) = absurd (both_ways _ refl never)
some_within p (xs ∷ sets) h =
    let one = has_any (λ x. list_any (λ rest. p (x ∷ rest)) (selections sets)) xs (sym (selections_as p xs sets) ∙ h) in
    let more = some_within (λ rest. p (one.0 ∷ rest)) sets one.2 in
    (one.0 ∷ more.0, (one.1, more.1), more.2)

pub supported_through : (sets : List (List ℕ)) (accepted : List ℕ → Bool) (i x : ℕ) → has_support sets accepted i x ≡ true → IsThrough sets accepted i x
supported_through sets accepted i x h =
    let some = some_within (λ tuple. (slice_index_or tuple i 0 == x) && accepted tuple) sets h in
    let both = and_parts (slice_index_or some.0 i 0 == x) (accepted some.0) some.2 in
    record { tuple = some.0; within = some.1; at = eqb-true _ x both.0; is = both.1 }

pub through_supported : (sets : List (List ℕ)) (accepted : List ℕ → Bool) (i x : ℕ) → IsThrough sets accepted i x → has_support sets accepted i x ≡ true
through_supported sets accepted i x t = any_within (λ tuple. (slice_index_or tuple i 0 == x) && accepted tuple) sets t.tuple t.within (and_from _ _ (eq-eqb _ x t.at) t.is)

-- the value of a tuple within sets is one of the set at its place
pub value_within : (sets : List (List ℕ)) (tuple : List ℕ) (i : ℕ) → IsWithin sets tuple → i < length sets → has (slice_index_or sets i []) (slice_index_or tuple i 0) ≡ true
value_within [] tuple i h low = absurd (omega arith)
value_within (xs ∷ sets) [] i h low = absurd h
value_within (xs ∷ sets) (x ∷ tuple) zero h low = h.0
value_within (xs ∷ sets) (x ∷ tuple) (suc i) h low = value_within sets tuple i h.1 (omega arith)

within_sub : (f g : Family) (scope tuple : List ℕ) → IsSubfamily f g → IsWithin (sets_on f scope) tuple → IsWithin (sets_on g scope) tuple
within_sub f g [] [] sub h = h
within_sub f g [] (x ∷ tuple) sub h = absurd h
within_sub f g (v ∷ scope) [] sub h = absurd h
within_sub f g (v ∷ scope) (x ∷ tuple) sub h = (sub v x h.0, within_sub f g scope tuple sub h.1)

pub set_at : (f : Family) (scope : List ℕ) (i : ℕ) → i < length scope → slice_index_or (sets_on f scope) i [] ≡ slice_index_or f (slice_index_or scope i 0) []
set_at f scope i low = get_or-map (λ (v : ℕ). slice_index_or f v []) scope i 0 [] low

-- ---- replacing

pub length-replaced : (scope : List ℕ) (found : List (List ℕ)) (f : Family) → length (replaced scope found f) ≡ length f
length-replaced [] found f = refl
length-replaced (v ∷ scope) [] f = refl
length-replaced (v ∷ scope) (xs ∷ found) f = length-replaced scope found (slice_set f v xs) ∙ length-set f v xs

pub replaced_other : (scope : List ℕ) (found : List (List ℕ)) (f : Family) (v : ℕ) → has scope v ≡ false → slice_index_or (replaced scope found f) v [] ≡ slice_index_or f v []
replaced_other [] found f v none = refl
replaced_other (w ∷ scope) [] f v none = refl
replaced_other (w ∷ scope) (xs ∷ found) f v none =
    let parts = or_parts (w == v) (has scope v) none in
    replaced_other scope found (slice_set f w xs) v parts.1 ∙ get_or-set_other f w v xs [] (λ e. both_ways _ parts.0 (eq-eqb w v (sym e)))

pub replaced_sets : (scope : List ℕ) (found : List (List ℕ)) (f : Family) → AreDifferent scope → length found ≡ length scope → All (λ v. v < length f) scope → sets_on (replaced scope found f) scope ≡ found
replaced_sets [] [] f apart long known = refl
replaced_sets [] (xs ∷ found) f apart long known = absurd (omega arith)
replaced_sets (v ∷ scope) [] f apart long known = absurd (omega arith)
replaced_sets (v ∷ scope) (xs ∷ found) f apart long known =
    let low = All-head (λ v. v < length f) v scope known in
    let own : slice_index_or (replaced scope found (slice_set f v xs)) v [] ≡ xs = replaced_other scope found (slice_set f v xs) v apart.0 ∙ get_or-set_same f v xs [] low in
    let rest = replaced_sets scope found (slice_set f v xs) apart.1 (omega arith) (λ k d h. (let at = All-tail (λ v. v < length f) v scope known k d h in let size = length-set f v xs in omega arith)) in
    λ i. own i ∷ rest i

pub member_place : (scope : List ℕ) (v : ℕ) → has scope v ≡ true → (i : ℕ) × (i < length scope) × (slice_index_or scope i 0 ≡ v)
member_place [] v h = cc
member_place (w ∷ scope) v h = go (or_cases (w == v) (has scope v) h) (member_place scope v)
  where
    go : ((w == v) ≡ true) ⊎ (has scope v ≡ true) → (has scope v ≡ true → (i : ℕ) × (i < length scope) × (slice_index_or scope i 0 ≡ v)) → (i : ℕ) × (i < suc (length scope)) × (slice_index_or (w ∷ scope) i 0 ≡ v)
    go (inl same) rest = (0, omega arith, eqb-true w v same)
    go (inr there) rest = (let r = rest there in (suc r.0, omega (arith, r.1), r.2))

nothing : (xs : List ℕ) → ((x : ℕ) → has xs x ≡ true → ⊥) → xs ≡ []
nothing [] h = refl
nothing (x ∷ xs) h = absurd (h x (has_head x xs))

pub member_of_some : (xs : List ℕ) → is_not_empty xs ≡ true → (x : ℕ) × (has xs x ≡ true)
member_of_some [] h = cc
member_of_some (x ∷ xs) h = (x, has_head x xs)

pub some_of_member : (xs : List ℕ) (x : ℕ) → has xs x ≡ true → is_not_empty xs ≡ true
some_of_member [] x h = cc
some_of_member (y ∷ xs) x h = refl

-- whether all sets of a family have members, by variables
pub all_full : (f : Family) → list_all is_not_empty f ≡ true → (v : ℕ) → v < length f → is_not_empty (slice_index_or f v []) ≡ true
all_full [] h v low = absurd (omega arith)
all_full (xs ∷ f) h zero low = (and_parts (is_not_empty xs) (list_all is_not_empty f) h).0
all_full (xs ∷ f) h (suc v) low = all_full f (and_parts (is_not_empty xs) (list_all is_not_empty f) h).1 v (omega arith)

pub full_from : (f : Family) → ((v : ℕ) → v < length f → is_not_empty (slice_index_or f v []) ≡ true) → list_all is_not_empty f ≡ true
full_from [] h = refl
full_from (xs ∷ f) h = and_from _ _ (h 0 (omega arith)) (full_from f (λ v low. h (suc v) (omega arith)))

pub supported_within : (a : Arc) (f : Family) (found : List (List ℕ)) → AreSupported (sets_on f a.scope) a.accepted found → (i x : ℕ) → i < length a.scope → has (slice_index_or found i []) x ≡ true → has (slice_index_or f (slice_index_or a.scope i 0) []) x ≡ true
supported_within a f found is i x low h =
    let t = is.only i x h in
    ap (λ y. has (slice_index_or f (slice_index_or a.scope i 0) []) y) (sym t.at) ∙ ap (λ ys. has ys (slice_index_or t.tuple i 0)) (sym (set_at f a.scope i low))
    ∙ value_within (sets_on f a.scope) t.tuple i t.within (omega (arith, long_sets a.scope))
  where
    long_sets : (scope : List ℕ) → length (sets_on f scope) ≡ length scope
    long_sets [] = refl
    long_sets (v ∷ scope) = ap suc (long_sets scope)

module _ (a : Arc) (f : Family) (found : List (List ℕ)) (apart : AreDifferent a.scope) (long : length found ≡ length a.scope) (known : All (λ v. v < length f) a.scope) (is : AreSupported (sets_on f a.scope) a.accepted found) where
  abbrev g : Family
  g = replaced a.scope found f

  sets_are : sets_on g a.scope ≡ found
  sets_are = replaced_sets a.scope found f apart long known

  -- a set of g is that of f, or what is found at some place
  by_place : (v : ℕ) → (slice_index_or (replaced a.scope found f) v [] ≡ slice_index_or f v []) ⊎ ((i : ℕ) × (i < length a.scope) × (slice_index_or a.scope i 0 ≡ v) × (slice_index_or (replaced a.scope found f) v [] ≡ slice_index_or found i []))
  by_place v = go (has a.scope v) refl
    where
      go : (b : Bool) → has a.scope v ≡ b → (slice_index_or (replaced a.scope found f) v [] ≡ slice_index_or f v []) ⊎ ((i : ℕ) × (i < length a.scope) × (slice_index_or a.scope i 0 ≡ v) × (slice_index_or (replaced a.scope found f) v [] ≡ slice_index_or found i []))
      go false none = inl (replaced_other a.scope found f v none)
      go true there =
          let at = member_place a.scope v there in
          inr (at.0, at.1, at.2, ap (λ w. slice_index_or (replaced a.scope found f) w []) (sym at.2) ∙ sym (set_at (replaced a.scope found f) a.scope at.0 at.1) ∙ ap (λ (sets : List (List ℕ)). slice_index_or sets at.0 []) sets_are)

  within : IsSubfamily (replaced a.scope found f) f
  within v x h = go (by_place v)
    where
      go : (slice_index_or (replaced a.scope found f) v [] ≡ slice_index_or f v []) ⊎ ((i : ℕ) × (i < length a.scope) × (slice_index_or a.scope i 0 ≡ v) × (slice_index_or (replaced a.scope found f) v [] ≡ slice_index_or found i [])) → has (slice_index_or f v []) x ≡ true
      go (inl same) = ap (λ ys. has ys x) (sym same) ∙ h
      go (inr at) = ap (λ w. has (slice_index_or f w []) x) (sym at.2) ∙ supported_within a f found is at.0 x at.1 (ap (λ ys. has ys x) (sym at.3) ∙ h)

  -- a value of a consistent subfamily is found
  kept_found : (other : Family) → IsSubfamily other f → is_consistent other a.scope a.accepted ≡ true → (i x : ℕ) → i < length a.scope → has (slice_index_or other (slice_index_or a.scope i 0) []) x ≡ true → has (slice_index_or found i []) x ≡ true
  kept_found other sub ok i x low h =
      let t = supported_through (sets_on other a.scope) a.accepted i x ((supporting a other ok).at i x low h) in
      ap (λ y. has (slice_index_or found i []) y) (sym t.at) ∙ value_within found t.tuple i (is.all t.tuple (within_sub other f a.scope t.tuple sub t.within) t.is) (omega arith)

  greatest : (other : Family) → IsSubfamily other f → is_consistent other a.scope a.accepted ≡ true → IsSubfamily other (replaced a.scope found f)
  greatest other sub ok v x h = go (by_place v)
    where
      go : (slice_index_or (replaced a.scope found f) v [] ≡ slice_index_or f v []) ⊎ ((i : ℕ) × (i < length a.scope) × (slice_index_or a.scope i 0 ≡ v) × (slice_index_or (replaced a.scope found f) v [] ≡ slice_index_or found i [])) → has (slice_index_or (replaced a.scope found f) v []) x ≡ true
      go (inl same) = ap (λ ys. has ys x) same ∙ sub v x h
      go (inr at) = ap (λ ys. has ys x) at.3 ∙ kept_found other sub ok at.0 x at.1 (ap (λ w. has (slice_index_or other w []) x) at.2 ∙ h)

  now_consistent : is_consistent (replaced a.scope found f) a.scope a.accepted ≡ true
  now_consistent = consistent a (replaced a.scope found f) (record {
    at = λ i x low h.
        let t = is.only i x (sym (ap (λ ys. has ys x) (sym (set_at (replaced a.scope found f) a.scope i low) ∙ ap (λ (sets : List (List ℕ)). slice_index_or sets i []) sets_are)) ∙ h) in
        through_supported (sets_on (replaced a.scope found f) a.scope) a.accepted i x
        (record { tuple = t.tuple; within = subst (λ (sets : List (List ℕ)). IsWithin sets t.tuple) (sym sets_are) (is.all t.tuple t.within t.is); at = t.at; is = t.is });
  })

  -- with one value found, some is at each place
  full_where : (x : ℕ) → has (slice_index_or found 0 []) x ≡ true → list_all is_not_empty f ≡ true → list_all is_not_empty (replaced a.scope found f) ≡ true
  full_where x h full = full_from (replaced a.scope found f) (λ v low. go v (omega (arith, length-replaced a.scope found f)) (by_place v))
    where
      go : (v : ℕ) → v < length f → (slice_index_or (replaced a.scope found f) v [] ≡ slice_index_or f v []) ⊎ ((i : ℕ) × (i < length a.scope) × (slice_index_or a.scope i 0 ≡ v) × (slice_index_or (replaced a.scope found f) v [] ≡ slice_index_or found i [])) →
          is_not_empty (slice_index_or (replaced a.scope found f) v []) ≡ true
      go v low (inl same) = ap is_not_empty same ∙ all_full f full v low
      go v low (inr at) =
          let t = is.only 0 x h in
          ap is_not_empty at.3 ∙ some_of_member (slice_index_or found at.0 []) (slice_index_or t.tuple at.0 0) (value_within found t.tuple at.0 (is.all t.tuple t.within t.is) (omega (arith, at.1)))

  pub is_revised : (x : ℕ) → has (slice_index_or found 0 []) x ≡ true → IsRevised a f (replaced a.scope found f)
  is_revised x h = record {
    within = within;
    greatest = greatest;
    consistent = now_consistent;
    size = length-replaced a.scope found f;
    full = full_where x h;
  }

  pub is_dead : 1 ≤ length a.scope → slice_index_or found 0 [] ≡ [] → IsDead a f
  is_dead some none = record {
    variable = slice_index_or a.scope 0 0;
    low = known 0 0 (omega arith);
    empty = λ other sub ok. nothing (slice_index_or other (slice_index_or a.scope 0 0) []) (λ x h. both_ways _ (ap (λ ys. has ys x) none) (kept_found other sub ok 0 x (omega arith) h));
  }

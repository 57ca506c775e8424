-- Rows of scopes with one table: the same first variable, and second ones that follow one another.
use Rattle.bias_store.proofs.Prelude.{◌≡◌, ◌≢◌, ℕ, zero, suc, ◌+◌, ◌<◌, ◌≤◌, List, [], ◌∷◌, length, get_or, refl, sym, ◌∙◌, ap, subst, arith, inl, inr, ◌⊎◌, get_or-set_same, get_or-set_other, slice_set, replicate, max, cases_eq, length-set, length-replicate, Language, IsLanguage, IsScope, scope_at, IsRow, AreRowsFrom, first_of, second_of, NO_TABLE}

pair_is : (xs : List ℕ) → length xs ≡ 2 → xs ≡ get_or xs 0 0 ∷ get_or xs 1 0 ∷ []
pair_is [] two = absurd (omega arith)
pair_is (a ∷ []) two = absurd (omega arith)
pair_is (a ∷ b ∷ []) two = refl
pair_is (a ∷ b ∷ c ∷ xs) two = absurd (omega arith)

-- a scope of two variables alone
pub row_alone : (l : Language) (tables : List ℕ) (s : ℕ) → length (scope_at l s) ≡ 2 → get_or tables s 0 ≢ NO_TABLE → IsRow l tables s (s + 1)
row_alone l tables s two some = record {
  pairs = λ j inside. (let none : j ≡ 0 = omega arith in
      ap (scope_at l) (let e : s + j ≡ s = omega arith in e) ∙ pair_is (scope_at l s) two ∙ ap (λ t. first_of l s ∷ t ∷ []) (let e : second_of l s ≡ second_of l s + j = omega arith in e));
  alike = λ j inside. ap (λ k. get_or tables k 0) (let e : s + j ≡ s = omega arith in e);
  some = λ _. some;
}

-- or before a row
pub row_on : (l : Language) (tables : List ℕ) (s end : ℕ) → length (scope_at l s) ≡ 2 → get_or tables s 0 ≢ NO_TABLE → first_of l (s + 1) ≡ first_of l s → second_of l (s + 1) ≡ second_of l s + 1 → get_or tables (s + 1) 0 ≡ get_or tables s 0 →
    IsRow l tables (s + 1) end → IsRow l tables s (max end (s + 1))
row_on l tables s end two some same more table row = record { pairs = pairs; alike = alike; some = λ _. some }
  where
    pairs : (j : ℕ) → s + j < max end (s + 1) → scope_at l (s + j) ≡ first_of l s ∷ (second_of l s + j) ∷ []
    pairs zero inside = (row_alone l tables s two some).pairs 0 (omega arith)
    pairs (suc j) inside =
        ap (scope_at l) (let e : s + suc j ≡ s + 1 + j = omega arith in e) ∙ row.pairs j (omega arith)
        ∙ (λ i. same i ∷ (let e : second_of l (s + 1) + j ≡ second_of l s + suc j = omega arith in e) i ∷ [])

    alike : (j : ℕ) → s + j < max end (s + 1) → get_or tables (s + j) 0 ≡ get_or tables s 0
    alike zero inside = ap (λ k. get_or tables k 0) (let e : s + 0 ≡ s = omega arith in e)
    alike (suc j) inside = ap (λ k. get_or tables k 0) (let e : s + suc j ≡ s + 1 + j = omega arith in e) ∙ row.alike j (omega arith) ∙ table

-- none
pub row_none : (l : Language) (tables : List ℕ) (s : ℕ) → IsRow l tables s 0
row_none l tables s = record { pairs = λ j inside. absurd (omega arith); alike = λ j inside. absurd (omega arith); some = λ inside. absurd (omega arith) }

pub rows_none : (l : Language) (tables : List ℕ) (n : ℕ) (rows : List ℕ) → n ≡ length l.scopes → rows ≡ replicate n 0 → AreRowsFrom l tables rows n
rows_none l tables n rows same is = record {
  long = ap length is ∙ length-replicate n 0 ∙ same;
  within = λ s low below. absurd (omega arith);
  row = λ s low below. absurd (omega arith);
}

-- one scope more
pub rows_more : (l : Language) (tables rows : List ℕ) (s x : ℕ) → AreRowsFrom l tables rows (s + 1) → s < length l.scopes → x ≤ length l.scopes → IsRow l tables s x → AreRowsFrom l tables (slice_set rows s x) s
rows_more l tables rows s x is here inside row = record {
  long = length-set rows s x ∙ is.long;
  within = λ k low below. within k low below (cases_eq k s);
  row = λ k low below. rows_at k low below (cases_eq k s);
}
  where
    at_this : get_or (slice_set rows s x) s 0 ≡ x
    at_this = let long = is.long in get_or-set_same rows s x 0 (omega arith)

    within : (k : ℕ) → s ≤ k → k < length l.scopes → (k ≡ s) ⊎ (k ≡ s → ⊥) → get_or (slice_set rows s x) k 0 ≤ length l.scopes
    within k low below (inl e) = omega (arith, ap (λ t. get_or (slice_set rows s x) t 0) e, at_this)
    within k low below (inr other) = omega (arith, get_or-set_other rows s k x 0 other, is.within k (omega arith) below)

    rows_at : (k : ℕ) → s ≤ k → k < length l.scopes → (k ≡ s) ⊎ (k ≡ s → ⊥) → IsRow l tables k (get_or (slice_set rows s x) k 0)
    rows_at k low below (inl e) = subst (λ (t : ℕ). IsRow l tables t (get_or (slice_set rows s x) t 0)) (sym e) (subst (IsRow l tables s) (sym at_this) row)
    rows_at k low below (inr other) = subst (IsRow l tables k) (sym (get_or-set_other rows s k x 0 other)) (is.row k (omega arith) below)

-- the first scope of a row
pub row_here : (l : Language) (tables : List ℕ) (s end : ℕ) → IsRow l tables s end → s < end → scope_at l s ≡ first_of l s ∷ second_of l s ∷ []
row_here l tables s end row before =
    ap (scope_at l) (let e : s ≡ s + 0 = omega arith in e) ∙ row.pairs 0 (omega arith) ∙ ap (λ t. first_of l s ∷ t ∷ []) (let e : second_of l s + 0 ≡ second_of l s = omega arith in e)

-- the second variables are below 128
pub row_small : (l : Language) (tables : List ℕ) (s end j : ℕ) → IsLanguage l → IsRow l tables s end → end ≤ length l.scopes → s + j < end → second_of l s + j < 128
row_small l tables s end j lawful row inside before =
    let scope : IsScope (length l.names) (scope_at l (s + j)) = lawful.scopes (s + j) [] (omega arith) in
    let known = scope.known 1 0 (omega (arith, ap length (row.pairs j before))) in
    let few = lawful.few_variables in
    omega (arith, known, ap (λ xs. get_or xs 1 0) (row.pairs j before))

-- How long scopes, sets and networks are.
use Rattle.session_laws.proofs.Prelude.{ℕ, zero, suc, ◌<◌, ◌≤◌, ◌&&◌, not, List, [], ◌∷◌, length, map, refl, sym, ◌∙◌, subst, arith, ◌==◌, All, slice_index_or, max, fold, get_or_default, All-head, All-tail, All-map, All-nil, All-cons, and_parts, eq-eqb, numbers, has, without, Rises, Language, IsLanguage, variable_count, rises_where, any_number, length-range_with_len, has-set_where, sub_length, scope_rises, greatest_arity}
use Rattle.session_laws.proofs.Restrict.{rises_range, has_all}

-- ---- scopes

greatest_from : (m : ℕ) (ns : List ℕ) → (m ≤ fold max m ns) × All (λ x. x ≤ fold max m ns) ns
greatest_from m [] = (omega arith, All-nil (λ x. x ≤ m))
greatest_from m (x ∷ ns) =
    let rest = greatest_from (max m x) ns in
    let low = rest.0 in (
      omega arith,
      All-cons (λ y. y ≤ fold max (max m x) ns) x ns (omega arith) rest.1,
    )

pub scope_length : (l : Language) (n : ℕ) → n < length l.scopes → length (slice_index_or l.scopes n []) ≤ greatest_arity l
scope_length l n low = at l.scopes 0 n low
  where
    at : (scopes : List (List ℕ)) (m n : ℕ) → n < length scopes → length (slice_index_or scopes n []) ≤ fold max m (map length scopes)
    at [] m n low = absurd (omega arith)
    at (s ∷ scopes) m zero low = All-head (λ x. x ≤ fold max (max m (length s)) (map length scopes)) (length s) (map length scopes) (greatest_from m (map length (s ∷ scopes))).1
    at (s ∷ scopes) m (suc n) low = at scopes (max m (length s)) n (omega arith)

pub greatest_below : (m most : ℕ) (ns : List ℕ) → m ≤ most → All (λ x. x ≤ most) ns → fold max m ns ≤ most
greatest_below m most [] low all = low
greatest_below m most (x ∷ ns) low all = greatest_below (max m x) most ns (let first = All-head (λ x. x ≤ most) x ns all in omega arith) (All-tail (λ x. x ≤ most) x ns all)

module _ (l : Language) (lawful : IsLanguage l) where
  pub scope_fits : (n : ℕ) → n < length l.scopes → length (slice_index_or l.scopes n []) ≤ variable_count l
  scope_fits n low =
      let is = lawful.scopes n [] low in
      let inside : length (slice_index_or l.scopes n []) ≤ length (numbers (variable_count l)) =
      sub_length (slice_index_or l.scopes n []) (numbers (variable_count l)) (scope_rises (variable_count l) (slice_index_or l.scopes n []) lawful.few_variables is.rising is.known)
      (rises_range 0 (variable_count l) (let few = lawful.few_variables in omega arith))
      (λ v below h. any_number (λ x. x == v) (variable_count l) v (has_all (λ v. v < variable_count l) (slice_index_or l.scopes n []) v is.known h) (eq-eqb v v refl)) in
      let long = length-range_with_len 0 (variable_count l) in
      omega arith

  pub arity_fits : greatest_arity l ≤ variable_count l
  arity_fits = greatest_below 0 (variable_count l) (map length l.scopes) (omega arith) (All-map (λ x. x ≤ variable_count l) length l.scopes (λ k d low.
      subst (λ (x : List ℕ). length x ≤ variable_count l) (get_or_default l.scopes k [] d low) (scope_fits k low)))

-- ---- sets

pub length_without : (set : List ℕ) (v : ℕ) → Rises 0 set → length (without set v) ≤ length set
length_without set v r = sub_length (without set v) set (rises_where _) r (λ w low h. (and_parts (has set w) _ (sym (has-set_where (λ u. has set u && not (has (v ∷ []) u)) w low) ∙ h)).0)

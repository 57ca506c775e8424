-- Prefixes whose values are their variables', and the values of the next variable.
use Rattle.cert_check.proofs.Prelude.{◌≡◌, ℕ, zero, suc, ◌+◌, ◌-◌, ◌<◌, ◌≤◌, Bool, true, false, cond, List, [], ◌∷◌, ◌++◌, length, map, refl, sym, ◌∙◌, ap, subst, arith, ◌⊎◌, inl, inr, All, nat_le, slice_index_or, filter, range_with_len, cases_eq, both_ways, and_from, and_parts, and_left, and_right, leb-true, lt-leb, append-nil, All-head, All-tail, filter-append, numbers, Candidate, ValueRange, is_in, IsRange, Language, IsLanguage, IsCandidate, variable_count, range_of, values_of, order_of, assignment_of, are_ranged, next_known, ranged_blank, ranged_push, assigned_more, ranged_more, all_numbers, orders_are_known}
use Rattle.shared_lemmas.proofs.Runs.{all_pass, none_pass, run_parts}
use Rattle.language.proofs.PairOrders.{within_range}

-- ---- the values of a range are a run of numbers

pub bounds : (range : ValueRange) (x : ℕ) → is_in range x ≡ true → (range.first ≤ x) × (x ≤ range.last)
bounds range x h = let parts = and_parts (nat_le range.first x) (nat_le x range.last) h in (leb-true range.first x parts.0, leb-true x range.last parts.1)

run_in : (d : ℕ) (range : ValueRange) → IsRange d range → filter (is_in range) (numbers d) ≡ range_with_len range.first (range.last + 1 - range.first)
run_in d range lawful =
    let some = lawful.some in
    let known = lawful.known in
    ap (λ n. filter (is_in range) (range_with_len 0 n)) (let e : d ≡ first + (size + over) = omega (arith, some, known) in e)
    ∙ ap (filter (is_in range)) (run_parts 0 first (size + over) ∙ ap (λ a. range_with_len 0 first ++ range_with_len a (size + over)) (let e : 0 + first ≡ first = omega arith in e))
    ∙ filter-append (is_in range) (range_with_len 0 first) (range_with_len first (size + over))
    ∙ ap (λ front. front ++ filter (is_in range) (range_with_len first (size + over)))
    (none_pass (is_in range) 0 first (λ x from before. and_left (nat_le first x) (nat_le x range.last) (lt-leb first x (omega (arith, before)))))
    ∙ ap (filter (is_in range)) (run_parts first size over)
    ∙ filter-append (is_in range) (range_with_len first size) (range_with_len (first + size) over)
    ∙ (λ i. all_pass (is_in range) first size (λ x from to. within_range range x from (omega (arith, to))) i
    ++ none_pass (is_in range) (first + size) over (λ x from to. and_right (nat_le first x) (nat_le x range.last) (lt-leb x range.last (omega (arith, from, some)))) i)
    ∙ append-nil (range_with_len first size)
  where
    first : ℕ
    first = range.first

    size : ℕ
    size = range.last + 1 - range.first

    over : ℕ
    over = d - (range.first + (range.last + 1 - range.first))

-- ---- prefixes

-- the variable behind a prefix
abbrev pub next_of : Language → Candidate → List ℕ → ℕ
next_of l c p = slice_index_or (order_of l c) (length p) 0

-- each value of the prefix is one of its variable's
abbrev pub IsRanged : Language → Candidate → List ℕ → Type 0
IsRanged l c p = are_ranged l (assignment_of l c p) ≡ true

pub ranged_none : (l : Language) (c : Candidate) → IsRanged l c []
ranged_none l c = ranged_blank l (order_of l c)

pub ranged_front : (l : Language) (c : Candidate) (p q : List ℕ) → IsRanged l c (p ++ q) → IsRanged l c p
ranged_front l c p q h = ranged_more l (assignment_of l c p) (assignment_of l c (p ++ q)) (assigned_more (variable_count l) (order_of l c) p q) h

module _ (l : Language) (lawful : IsLanguage l) (c : Candidate) (is : IsCandidate l c) where
  pub ranged_longer : (p : List ℕ) (x : ℕ) → length p < variable_count l → IsRanged l c p → is_in (range_of l (next_of l c p)) x ≡ true → IsRanged l c (p ++ x ∷ [])
  ranged_longer p x room h at = ranged_push l (order_of l c) (orders_are_known l c lawful is) p x room ∙ and_from _ _ h at

  pub ranged_last : (p : List ℕ) (x : ℕ) → length p < variable_count l → IsRanged l c (p ++ x ∷ []) → is_in (range_of l (next_of l c p)) x ≡ true
  ranged_last p x room h = (and_parts (are_ranged l (assignment_of l c p)) _ (sym (ranged_push l (order_of l c) (orders_are_known l c lawful is) p x room) ∙ h)).1

  pub next_known_at : (p : List ℕ) → length p < variable_count l → next_of l c p < variable_count l
  next_known_at p room = next_known (variable_count l) (order_of l c) (orders_are_known l c lawful is) p room

  pub next_range : (p : List ℕ) → length p < variable_count l → IsRange l.value_count (range_of l (next_of l c p))
  next_range p room =
      let size = lawful.ranged in
      let known = next_known_at p room in
      lawful.ranges (next_of l c p) (record { first = 0; last = 63 }) (omega (arith, size, known))

  pub next_values : (p : List ℕ) → length p < variable_count l →
      values_of l (next_of l c p) ≡ range_with_len (range_of l (next_of l c p)).first ((range_of l (next_of l c p)).last + 1 - (range_of l (next_of l c p)).first)
  next_values p room = run_in l.value_count (range_of l (next_of l c p)) (next_range p room)

  -- a value of the next variable
  pub record IsNext (p : List ℕ) (x : ℕ) : Type 0 where
    pub fits : x < l.value_count
    pub within : is_in (range_of l (next_of l c p)) x ≡ true

  pub all_next : (p : List ℕ) → length p < variable_count l → All (IsNext p) (values_of l (next_of l c p))
  all_next p room =
      let range = next_range p room in
      let some = range.some in
      let known = range.known in
      subst (All (IsNext p)) (sym (next_values p room))
      (all_numbers (IsNext p) (range_of l (next_of l c p)).first ((range_of l (next_of l c p)).last + 1 - (range_of l (next_of l c p)).first) (λ x from below. record {
        fits = omega (arith, from, below, some, known);
        within = within_range (range_of l (next_of l c p)) x from (omega (arith, from, below, some));
      }))

-- what holds of all that pass holds of each that passes
pub all_among : {X : Type 0} (P : X → Type 0) (f : ℕ → X) (s : ℕ → Bool) (a n v : ℕ) → All P (map f (filter s (range_with_len a n))) → a ≤ v → v < a + n → s v ≡ true → P (f v)
all_among P f s a zero v h low high passes = absurd (omega arith)
all_among P f s a (suc n) v h low high passes = go (s a) refl h (cases_eq a v) (λ all further. all_among P f s (a + 1) n v all further (omega arith) passes)
  where
    go : (b : Bool) → s a ≡ b → All P (map f (cond b (a ∷ filter s (range_with_len (a + 1) n)) (filter s (range_with_len (a + 1) n)))) → (a ≡ v) ⊎ (a ≡ v → ⊥) →
        (All P (map f (filter s (range_with_len (a + 1) n))) → a + 1 ≤ v → P (f v)) → P (f v)
    go true on all (inl same) rest = subst (λ k. P (f k)) same (All-head P (f a) (map f (filter s (range_with_len (a + 1) n))) all)
    go true on all (inr other) rest = rest (All-tail P (f a) (map f (filter s (range_with_len (a + 1) n))) all) (omega arith)
    go false off all (inl same) rest = absurd (both_ways (s v) (ap s (sym same) ∙ off) passes)
    go false off all (inr other) rest = rest all (omega arith)

-- The words of a set of variables.
use Rattle.propagators.proofs.Prelude.{◌≡◌, ◌≢◌, ℕ, zero, suc, ◌+◌, ◌-◌, ◌<◌, ◌≤◌, Bool, true, false, not, ◌&&◌, ◌||◌, ◌==◌, List, [], ◌∷◌, length, refl, sym, ◌∙◌, ap, subst, arith, inl, inr, ◌⊎◌, Some, None, least_of, drop, filter, range_with_len, and_parts, cases_lt, cases_eq, ne_eqb, eq-eqb, both_ways, has, set_where, set_where-same, has-set_where, has-set_where_above, IsSet, or_left, or_right, or_cases, union, with_member, without, ones_of, is_not_empty, ◌^◌}
use Rattle.assign.proofs.Masks.{canonical, rises_where}
use Rattle.propagators.proofs.Replacing.{member_of_some, some_of_member}
use Rattle.std.proofs.lemmas.Bool.{lt-ltb, le-ltb}
use Rattle.propagators.specs.InsideWaiting.{is_in_words}
use Rattle.assign.proofs.Ones.{has-ones_of, has_above, ones_of-zero}

pub in_low : (low high v : ℕ) → v < 64 → is_in_words low high v ≡ has (ones_of low) v
in_low low high v h = rw (lt-ltb v 64 h) (sym (has-ones_of low v h))

pub in_high : (low high v : ℕ) → v < 64 → is_in_words low high (v + 64) ≡ has (ones_of high) v
in_high low high v h = rw (le-ltb (v + 64) 64 (omega arith)) (sym (ap (λ k. has (ones_of high) k) (omega arith) ∙ has-ones_of high (v + 64 - 64) (omega arith)))

-- words whose bits pass a test are those of the variables that pass it
pub words_are : (low high : ℕ) (test : ℕ → Bool) → ((v : ℕ) → v < 64 → has (ones_of low) v ≡ test v) → ((v : ℕ) → v < 64 → has (ones_of high) v ≡ test (v + 64)) → set_where (is_in_words low high) ≡ set_where test
words_are low high test here there = set_where-same (is_in_words low high) test (λ v few. go v few (cases_lt v 64))
  where
    go : (v : ℕ) → v < 128 → (v < 64) ⊎ (64 ≤ v) → is_in_words low high v ≡ test v
    go v few (inl small) = in_low low high v small ∙ here v small
    go v few (inr large) = (let same : v - 64 + 64 ≡ v = omega arith in subst (λ k. is_in_words low high k ≡ test k) same (in_high low high (v - 64) (omega arith) ∙ there (v - 64) (omega arith)))

nothing : set_where (λ (v : ℕ). false) ≡ []
unfolding set_where
nothing = refl

pub no_words : set_where (is_in_words 0 0) ≡ []
no_words = words_are 0 0 (λ v. false) (λ v low. ap (λ xs. has xs v) ones_of-zero) (λ v low. ap (λ xs. has xs v) ones_of-zero) ∙ nothing

-- a member of a word is below 64
pub below : (m x : ℕ) → m < 2 ^ 64 → has (ones_of m) x ≡ true → x < 64
below m x small there = go (cases_lt x 64)
  where
    go : (x < 64) ⊎ (64 ≤ x) → x < 64
    go (inl low) = low
    go (inr high) = absurd (both_ways _ (has_above m x high) there)

apart : (v u : ℕ) → v ≢ u → ((v == u) || false) ≡ false
apart v u other = ap (λ b. b || false) (ne_eqb v u other)

or_same : (a : Bool) (b : Bool) → b ≡ false → a ≡ (a || b)
or_same true b e = refl
or_same false b e = sym e

and_same : (a : Bool) (b : Bool) → b ≡ false → a ≡ (a && not b)
and_same true b e = sym (ap not e)
and_same false b e = refl

or_false : (b : Bool) → b ≡ (b || false)
or_false true = refl
or_false false = refl

shifted : (v w u : ℕ) → v ≡ w + 64 → (w == u) ≡ (v == u + 64)
shifted v w u at = go (cases_eq w u)
  where
    go : (w ≡ u) ⊎ (w ≢ u) → (w == u) ≡ (v == u + 64)
    go (inl same) = eq-eqb w u same ∙ sym (eq-eqb v (u + 64) (at ∙ ap (λ k. k + 64) same))
    go (inr other) = ne_eqb w u other ∙ sym (ne_eqb v (u + 64) (λ e. other (omega arith)))

module _ (low high : ℕ) (xs : List ℕ) (is : set_where (is_in_words low high) ≡ xs) where
  pub has_low : (v : ℕ) → v < 64 → has xs v ≡ has (ones_of low) v
  has_low v h = ap (λ s. has s v) (sym is) ∙ has-set_where (is_in_words low high) v (omega arith) ∙ in_low low high v h

  pub has_high : (v : ℕ) → v < 64 → has xs (v + 64) ≡ has (ones_of high) v
  has_high v h = ap (λ s. has s (v + 64)) (sym is) ∙ has-set_where (is_in_words low high) (v + 64) (omega arith) ∙ in_high low high v h

  pub are_set : IsSet xs
  are_set = subst IsSet is (rises_where (is_in_words low high))

  -- a member is one of either word
  pub in_either : (u : ℕ) → has xs u ≡ true → ((u < 64) × (has (ones_of low) u ≡ true)) ⊎ ((64 ≤ u) × (u < 128) × (has (ones_of high) (u - 64) ≡ true))
  in_either u there = go (cases_lt u 64) (cases_lt u 128)
    where
      go : (u < 64) ⊎ (64 ≤ u) → (u < 128) ⊎ (128 ≤ u) → ((u < 64) × (has (ones_of low) u ≡ true)) ⊎ ((64 ≤ u) × (u < 128) × (has (ones_of high) (u - 64) ≡ true))
      go (inl small) any = inl (small, sym (has_low u small) ∙ there)
      go (inr large) (inl few) = inr (large, few, sym (has_high (u - 64) (omega arith)) ∙ ap (has xs) (let e : u - 64 + 64 ≡ u = omega arith in e) ∙ there)
      go (inr large) (inr many) = absurd (both_ways _ (ap (λ s. has s u) (sym is) ∙ has-set_where_above (is_in_words low high) u many) there)

  lacking : (m u : ℕ) → m ≡ 0 → has (ones_of m) u ≡ true → ⊥
  lacking m u zeros there = both_ways _ (ap (λ k. has (ones_of k) u) zeros ∙ ap (λ s. has s u) ones_of-zero) there

  pub least_low : (r : ℕ) → r < 64 → ((x : ℕ) → has (ones_of low) x ≡ true → r ≤ x) → (u : ℕ) → has xs u ≡ true → r ≤ u
  least_low r small least u there = go (in_either u there)
    where
      go : ((u < 64) × (has (ones_of low) u ≡ true)) ⊎ ((64 ≤ u) × (u < 128) × (has (ones_of high) (u - 64) ≡ true)) → r ≤ u
      go (inl here) = least u here.1
      go (inr above) = let large = above.0 in omega arith

  pub least_high : (r : ℕ) → low ≡ 0 → ((x : ℕ) → has (ones_of high) x ≡ true → r ≤ x) → (u : ℕ) → has xs u ≡ true → 64 + r ≤ u
  least_high r none least u there = go (in_either u there)
    where
      go : ((u < 64) × (has (ones_of low) u ≡ true)) ⊎ ((64 ≤ u) × (u < 128) × (has (ones_of high) (u - 64) ≡ true)) → 64 + r ≤ u
      go (inl here) = absurd (lacking low u none here.1)
      go (inr above) = let large = above.0 in let more = least (u - 64) above.2 in omega arith

  pub greatest_high : (r : ℕ) → ((x : ℕ) → has (ones_of high) x ≡ true → x ≤ r) → (u : ℕ) → has xs u ≡ true → u ≤ 64 + r
  greatest_high r greatest u there = go (in_either u there)
    where
      go : ((u < 64) × (has (ones_of low) u ≡ true)) ⊎ ((64 ≤ u) × (u < 128) × (has (ones_of high) (u - 64) ≡ true)) → u ≤ 64 + r
      go (inl here) = let small = here.0 in omega arith
      go (inr above) = let large = above.0 in let more = greatest (u - 64) above.2 in omega arith

  pub greatest_low : (r : ℕ) → high ≡ 0 → ((x : ℕ) → has (ones_of low) x ≡ true → x ≤ r) → (u : ℕ) → has xs u ≡ true → u ≤ r
  greatest_low r none greatest u there = go (in_either u there)
    where
      go : ((u < 64) × (has (ones_of low) u ≡ true)) ⊎ ((64 ≤ u) × (u < 128) × (has (ones_of high) (u - 64) ≡ true)) → u ≤ r
      go (inl here) = greatest u here.1
      go (inr above) = absurd (lacking high (u - 64) none above.2)

  pub none_left : low ≡ 0 → high ≡ 0 → xs ≡ []
  none_left no_low no_high = sym is ∙ (λ i. set_where (is_in_words (no_low i) (no_high i))) ∙ no_words

  -- the members of both words together
  pub either_empty : (both : ℕ) → ((y : ℕ) → has (ones_of both) y ≡ (has (ones_of low) y || has (ones_of high) y)) → low < 2 ^ 64 → high < 2 ^ 64 → is_not_empty (ones_of both) ≡ is_not_empty xs
  either_empty both goes small_low small_high = go (is_not_empty (ones_of both)) refl (is_not_empty xs) refl
    where
      one : (x : ℕ) → (has (ones_of low) x ≡ true) ⊎ (has (ones_of high) x ≡ true) → is_not_empty xs ≡ true
      one x (inl here) = some_of_member xs x (has_low x (below low x small_low here) ∙ here)
      one x (inr there) = some_of_member xs (x + 64) (has_high x (below high x small_high there) ∙ there)

      back : (u : ℕ) → ((u < 64) × (has (ones_of low) u ≡ true)) ⊎ ((64 ≤ u) × (u < 128) × (has (ones_of high) (u - 64) ≡ true)) → is_not_empty (ones_of both) ≡ true
      back u (inl here) = some_of_member (ones_of both) u (goes u ∙ or_left _ _ here.1)
      back u (inr above) = some_of_member (ones_of both) (u - 64) (goes (u - 64) ∙ or_right _ _ above.2)

      go : (p : Bool) → is_not_empty (ones_of both) ≡ p → (q : Bool) → is_not_empty xs ≡ q → is_not_empty (ones_of both) ≡ is_not_empty xs
      go true e true f = e ∙ sym f
      go false e false f = e ∙ sym f
      go true e false f = (let m = member_of_some (ones_of both) e in absurd (both_ways _ f (one m.0 (or_cases _ _ (sym (goes m.0) ∙ m.1)))))
      go false e true f = (let m = member_of_some xs f in absurd (both_ways _ e (back m.0 (in_either m.0 m.1))))

-- one variable more, one less
module _ (low high : ℕ) (xs : List ℕ) (is : set_where (is_in_words low high) ≡ xs) (v : ℕ) where
  pub with_low : (m : ℕ) → v < 64 → ((y : ℕ) → has (ones_of m) y ≡ (has (ones_of low) y || (v == y))) → set_where (is_in_words m high) ≡ with_member xs v
  with_low m small goes = words_are m high (λ u. has xs u || has (v ∷ []) u)
      (λ u h. goes u ∙ (λ i. sym (has_low low high xs is u h) i || or_false (v == u) i))
      (λ u h. sym (has_high low high xs is u h) ∙ or_same _ _ (apart v (u + 64) (λ e. omega arith)))

  pub with_high : (w m : ℕ) → v ≡ w + 64 → ((y : ℕ) → has (ones_of m) y ≡ (has (ones_of high) y || (w == y))) → set_where (is_in_words low m) ≡ with_member xs v
  with_high w m at goes = words_are low m (λ u. has xs u || has (v ∷ []) u)
      (λ u h. sym (has_low low high xs is u h) ∙ or_same _ _ (apart v u (λ e. omega arith)))
      (λ u h. goes u ∙ (λ i. sym (has_high low high xs is u h) i || (shifted v w u at ∙ or_false (v == u + 64)) i))

  pub without_low : (m : ℕ) → v < 64 → ((y : ℕ) → has (ones_of m) y ≡ (has (ones_of low) y && not (v == y))) → set_where (is_in_words m high) ≡ without xs v
  without_low m small goes = words_are m high (λ u. has xs u && not (has (v ∷ []) u))
      (λ u h. goes u ∙ (λ i. sym (has_low low high xs is u h) i && not (or_false (v == u) i)))
      (λ u h. sym (has_high low high xs is u h) ∙ and_same _ _ (apart v (u + 64) (λ e. omega arith)))

  pub without_high : (w m : ℕ) → v ≡ w + 64 → ((y : ℕ) → has (ones_of m) y ≡ (has (ones_of high) y && not (w == y))) → set_where (is_in_words low m) ≡ without xs v
  without_high w m at goes = words_are low m (λ u. has xs u && not (has (v ∷ []) u))
      (λ u h. sym (has_low low high xs is u h) ∙ and_same _ _ (apart v u (λ e. omega arith)))
      (λ u h. goes u ∙ (λ i. sym (has_high low high xs is u h) i && not ((shifted v w u at ∙ or_false (v == u + 64)) i)))

pub either_words : (low high other_low other_high a b : ℕ) (xs ys : List ℕ) → set_where (is_in_words low high) ≡ xs → set_where (is_in_words other_low other_high) ≡ ys →
    ((y : ℕ) → has (ones_of a) y ≡ (has (ones_of low) y || has (ones_of other_low) y)) → ((y : ℕ) → has (ones_of b) y ≡ (has (ones_of high) y || has (ones_of other_high) y)) → set_where (is_in_words a b) ≡ union xs ys
either_words low high other_low other_high a b xs ys is other goes_a goes_b = words_are a b (λ u. has xs u || has ys u)
    (λ u h. goes_a u ∙ (λ i. sym (has_low low high xs is u h) i || sym (has_low other_low other_high ys other u h) i))
    (λ u h. goes_b u ∙ (λ i. sym (has_high low high xs is u h) i || sym (has_high other_low other_high ys other u h) i))

-- ---- a set's members taken over one after another

-- the least one is taken over
pub moved_over : (set found rest next later : List ℕ) (v : ℕ) → least_of rest ≡ Some v → later ≡ drop 1 rest → next ≡ with_member found v → ((u : ℕ) → u < 128 → has set u ≡ (has found u || has rest u)) → (u : ℕ) → u < 128 → has set u ≡ (has next u || has later u)
moved_over set found [] next later v least less more goes u few = cc
moved_over set found (w ∷ rest) next later v least less more goes u few =
    let same : w ≡ v = cc in
    goes u few ∙ moved (has found u) (w == u) (has rest u) ∙ sym ((λ i. has (more i) u || has (less i) u) ∙ (λ i. (has-set_where (λ k. has found k || has (v ∷ []) k) u few ∙ ap (λ k. has found u || ((k == u) || false)) (sym same)) i || has rest u))
  where
    moved : (a b c : Bool) → (a || (b || c)) ≡ ((a || (b || false)) || c)
    moved true b c = refl
    moved false true c = refl
    moved false false c = refl

-- none is left
pub all_moved : (set found rest : List ℕ) → least_of rest ≡ None → IsSet found → IsSet set → ((u : ℕ) → u < 128 → has set u ≡ (has found u || has rest u)) → found ≡ set
all_moved set found (v ∷ rest) least is_found is_set goes = absurd (let no : ⊥ = cc in no)
all_moved set found [] least is_found is_set goes = sym (canonical found is_found) ∙ set_where-same (has found) (has set) (λ u few. or_false (has found u) ∙ sym (goes u few)) ∙ canonical set is_set

-- ---- no members

pub no_length : (xs : List ℕ) → not (is_not_empty xs) ≡ true → length xs ≡ 0
no_length [] h = refl
no_length (x ∷ xs) h = cc

pub some_length : (xs : List ℕ) → not (is_not_empty xs) ≡ false → length xs ≢ 0
some_length [] h e = both_ways _ h refl
some_length (x ∷ xs) h e = omega arith

shorter_from : (p q : ℕ → Bool) (a n : ℕ) → ((u : ℕ) → p u ≡ true → q u ≡ true) → length (filter p (range_with_len a n)) ≤ length (filter q (range_with_len a n))
shorter_from p q a zero part = omega arith
shorter_from p q a (suc n) part = go (shorter_from p q (a + 1) n part) (p a) refl (q a) refl
  where
    go : length (filter p (range_with_len (a + 1) n)) ≤ length (filter q (range_with_len (a + 1) n)) → (b : Bool) → p a ≡ b → (e : Bool) → q a ≡ e → length (filter p (range_with_len a (suc n))) ≤ length (filter q (range_with_len a (suc n)))
    go rest true f true g = rw (f, g) (omega arith)
    go rest true f false g = absurd (both_ways _ g (part a f))
    go rest false f true g = rw (f, g) (omega arith)
    go rest false f false g = rw (f, g) rest

shorter_at : (p q : ℕ → Bool) (v a n : ℕ) → ((u : ℕ) → p u ≡ true → q u ≡ true) → p v ≡ false → q v ≡ true → a ≤ v → v < a + n → length (filter p (range_with_len a n)) < length (filter q (range_with_len a n))
shorter_at p q v a zero part none one from to = absurd (omega arith)
shorter_at p q v a (suc n) part none one from to = pick (λ other. shorter_at p q v (a + 1) n part none one other (omega arith)) (shorter_from p q (a + 1) n part) (cases_eq a v)
  where
    go : length (filter p (range_with_len (a + 1) n)) < length (filter q (range_with_len (a + 1) n)) → (b : Bool) → p a ≡ b → (e : Bool) → q a ≡ e → length (filter p (range_with_len a (suc n))) < length (filter q (range_with_len a (suc n)))
    go rest true f true g = rw (f, g) (omega arith)
    go rest true f false g = absurd (both_ways _ g (part a f))
    go rest false f true g = rw (f, g) (omega arith)
    go rest false f false g = rw (f, g) rest

    pick : (a + 1 ≤ v → length (filter p (range_with_len (a + 1) n)) < length (filter q (range_with_len (a + 1) n))) → length (filter p (range_with_len (a + 1) n)) ≤ length (filter q (range_with_len (a + 1) n)) → (a ≡ v) ⊎ (a ≢ v) → length (filter p (range_with_len a (suc n))) < length (filter q (range_with_len a (suc n)))
    pick later rest (inl same) = rw (ap p same ∙ none, ap q same ∙ one) (omega arith)
    pick later rest (inr other) = go (later (omega arith)) (p a) refl (q a) refl

-- a member less
pub one_less : (xs : List ℕ) (v : ℕ) → IsSet xs → v < 128 → has xs v ≡ true → length (without xs v) < length xs
unfolding set_where
one_less xs v is few there =
    subst (λ (n : ℕ). length (without xs v) < n) (ap length (canonical xs is))
    (shorter_at (λ u. has xs u && not (has (v ∷ []) u)) (has xs) v 0 128 (λ u both. (and_parts (has xs u) _ both).0) (gone (has xs v) (v == v) (eq-eqb v v refl)) there (omega arith) (omega arith))
  where
    gone : (a b : Bool) → b ≡ true → (a && not (b || false)) ≡ false
    gone true true e = refl
    gone true false e = cc
    gone false b e = refl

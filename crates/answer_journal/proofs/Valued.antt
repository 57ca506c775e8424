-- The variables that have a value, by the set of them.
use Rattle.answer_journal.proofs.Prelude.{◌≡◌, ℕ, zero, suc, ◌+◌, ◌-◌, ◌≤◌, Bool, List, [], ◌∷◌, ◌++◌, length, drop, Option, Some, None, is_some, refl, sym, ◌∙◌, ap, arith, flat_map, valued_count, pairs_from, given_few}
use Rattle.std.proofs.Common.{cond}
use Rattle.std.specs.List.{filter, range_with_len}
use Rattle.assign.specs.Sets.{least_of, set_where}
use Rattle.assign.specs.SetLemmas.{filter_front}
use Rattle.assign.specs.Assignment.{Assignment, value_of, variables_of}

-- a variable with its value, where it has one
abbrev pub pair_of : ℕ → Option ℕ → List ℕ
pair_of v None = []
pair_of v (Some x) = v ∷ x ∷ []

-- those of some variables
abbrev pub pairs_of : Assignment → List ℕ → List ℕ
pairs_of q vars = flat_map (λ v. pair_of v (value_of q v)) vars

-- ---- all variables

module _ (q : Assignment) where
  abbrev valued : ℕ → Bool
  valued v = is_some (value_of q v)

  none_further : (rest : Assignment) (a n : ℕ) → rest ≡ [] → ((k : ℕ) → value_of q (a + k) ≡ value_of rest k) → filter valued (range_with_len a n) ≡ []
  none_further rest a n none same = filter_front valued a 0 n (omega arith) (λ v from. ap is_some (ap (value_of q) (let e : v ≡ a + (v - a) = omega (arith, from) in e) ∙ same (v - a) ∙ ap (λ (r : Assignment). value_of r (v - a)) none))

  shifted : (o : Option ℕ) (rest : Assignment) (a : ℕ) → ((k : ℕ) → value_of q (a + k) ≡ value_of (o ∷ rest) k) → (k : ℕ) → value_of q (a + 1 + k) ≡ value_of rest k
  shifted o rest a same k = ap (value_of q) (let e : a + 1 + k ≡ a + suc k = omega arith in e) ∙ same (suc k)

  first : (o : Option ℕ) (rest : Assignment) (a : ℕ) → ((k : ℕ) → value_of q (a + k) ≡ value_of (o ∷ rest) k) → value_of q a ≡ o
  first o rest a same = ap (value_of q) (let e : a ≡ a + 0 = omega arith in e) ∙ same 0

  count_from : (rest : Assignment) (a n : ℕ) → length rest ≤ n → ((k : ℕ) → value_of q (a + k) ≡ value_of rest k) → length (filter valued (range_with_len a n)) ≡ valued_count rest
  count_from [] a n fits same = ap length (none_further [] a n refl same)
  count_from (o ∷ rest) a zero fits same = absurd (omega (arith, fits))
  count_from (None ∷ rest) a (suc n) fits same =
      ap (λ o. length (cond (is_some o) (a ∷ filter valued (range_with_len (a + 1) n)) (filter valued (range_with_len (a + 1) n)))) (first None rest a same)
      ∙ count_from rest (a + 1) n (omega (arith, fits)) (shifted None rest a same)
  count_from (Some x ∷ rest) a (suc n) fits same =
      ap (λ o. length (cond (is_some o) (a ∷ filter valued (range_with_len (a + 1) n)) (filter valued (range_with_len (a + 1) n)))) (first (Some x) rest a same)
      ∙ (let more = count_from rest (a + 1) n (omega (arith, fits)) (shifted (Some x) rest a same) in omega (arith, more))

  pairs_on : (rest : Assignment) (a n : ℕ) → length rest ≤ n → ((k : ℕ) → value_of q (a + k) ≡ value_of rest k) → pairs_of q (filter valued (range_with_len a n)) ≡ pairs_from a rest
  pairs_on [] a n fits same = ap (pairs_of q) (none_further [] a n refl same)
  pairs_on (o ∷ rest) a zero fits same = absurd (omega (arith, fits))
  pairs_on (None ∷ rest) a (suc n) fits same =
      ap (λ o. pairs_of q (cond (is_some o) (a ∷ filter valued (range_with_len (a + 1) n)) (filter valued (range_with_len (a + 1) n)))) (first None rest a same)
      ∙ pairs_on rest (a + 1) n (omega (arith, fits)) (shifted None rest a same)
      ∙ ap (λ k. pairs_from k rest) (let e : a + 1 ≡ suc a = omega arith in e)
  pairs_on (Some x ∷ rest) a (suc n) fits same =
      ap (λ o. pairs_of q (cond (is_some o) (a ∷ filter valued (range_with_len (a + 1) n)) (filter valued (range_with_len (a + 1) n)))) (first (Some x) rest a same)
      ∙ (λ i. pair_of a (first (Some x) rest a same i) ++ pairs_on rest (a + 1) n (omega (arith, fits)) (shifted (Some x) rest a same) i)
      ∙ ap (λ k. a ∷ x ∷ pairs_from k rest) (let e : a + 1 ≡ suc a = omega arith in e)

  pub counted : length q ≤ 128 → length (variables_of q) ≡ valued_count q
  unfolding set_where
  counted fits = count_from q 0 128 fits (λ k. ap (value_of q) (let e : 0 + k ≡ k = omega arith in e))

  pub pairs_all : length q ≤ 128 → pairs_of q (variables_of q) ≡ pairs_from 0 q
  unfolding set_where
  pairs_all fits = pairs_on q 0 128 fits (λ k. ap (value_of q) (let e : 0 + k ≡ k = omega arith in e))

  pub few_valued : length q ≤ 128 → length (variables_of q) ≤ length q
  few_valued fits = let is = counted fits in let few = given_few q in omega (arith, is, few)

-- ---- one after another

-- the first of those that are left
pub left_first : (q : Assignment) (left rest : List ℕ) (v : ℕ) → Some v ≡ least_of left → rest ≡ drop 1 left → pairs_of q left ≡ pair_of v (value_of q v) ++ pairs_of q rest
left_first q [] rest v h rests = absurd (let no : Some v ≡ None = h in cc)
left_first q (w ∷ left) rest v h rests = let same : v ≡ w = cc in (λ i. pair_of (sym same i) (value_of q (sym same i)) ++ pairs_of q (sym rests i))

pub left_fewer : (left rest : List ℕ) (v : ℕ) → Some v ≡ least_of left → rest ≡ drop 1 left → length left ≡ length rest + 1
left_fewer [] rest v h rests = absurd (let no : Some v ≡ None = h in cc)
left_fewer (w ∷ left) rest v h rests = let same = ap length rests in omega (arith, same)

pub none_left : (left : List ℕ) → least_of left ≡ None → left ≡ []
none_left [] h = refl
none_left (w ∷ left) h = absurd (let no : Some w ≡ None = h in cc)

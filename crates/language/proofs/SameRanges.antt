-- Scopes whose variables have the same ranges have the same tables.
use Rattle.language.proofs.Prelude.{◌≡◌, ◌≢◌, ℕ, suc, Bool, true, false, ◌&&◌, ◌||◌, not, List, [], ◌∷◌, length, map, get_or, refl, sym, ◌∙◌, ap, subst, ◌==◌, zip, list_all, and_parts, eqb-true, length-map, Relation, tuples, IsClosing, TruthTable, ValueRange, Given, is_in, range_in, are_in, widened, have_same_ranges, relations_of_arity, truths, chosen_on, AreChosen, given_at}

-- ---- the test

pub other_length : (ranges : List ValueRange) (scope other : List ℕ) → length scope ≢ length other → have_same_ranges ranges scope other ≡ false
other_length ranges [] [] differ = absurd (differ refl)
other_length ranges [] (w ∷ other) differ = refl
other_length ranges (v ∷ scope) [] differ = refl
other_length ranges (v ∷ scope) (w ∷ other) differ = none _ _ (other_length ranges scope other (λ e. differ (ap (λ k. suc k) e)))
  where
    none : (a rest : Bool) → rest ≡ false → (a && rest) ≡ false
    none true rest off = off
    none false rest off = refl

-- ---- what it tells

one_range : (x y : ValueRange) → x.first ≡ y.first → x.last ≡ y.last → x ≡ y
one_range x y first last = λ i. record { first = first i; last = last i }

pub same_ranges : (ranges : List ValueRange) (scope other : List ℕ) → have_same_ranges ranges scope other ≡ true → map (range_in ranges) scope ≡ map (range_in ranges) other
same_ranges ranges [] [] is = refl
same_ranges ranges [] (w ∷ other) is = absurd (let e : false ≡ true = is in cc)
same_ranges ranges (v ∷ scope) [] is = absurd (let e : false ≡ true = is in cc)
same_ranges ranges (v ∷ scope) (w ∷ other) is =
    let parts = and_parts _ (have_same_ranges ranges scope other) is in
    let both = and_parts ((range_in ranges v).first == (range_in ranges w).first) ((range_in ranges v).last == (range_in ranges w).last) parts.0 in
    λ i. one_range (range_in ranges v) (range_in ranges w) (eqb-true _ _ both.0) (eqb-true _ _ both.1) i ∷ same_ranges ranges scope other parts.1 i

-- whether each value is in its range
are_by : List ValueRange → List ℕ → Bool
are_by own tuple = list_all (λ (both : ValueRange × ℕ). is_in both.0 both.1) (zip own tuple)

are_in-by : (ranges : List ValueRange) (scope tuple : List ℕ) → are_in ranges scope tuple ≡ are_by (map (range_in ranges) scope) tuple
unfolding are_by
are_in-by ranges [] tuple = refl
are_in-by ranges (v ∷ scope) [] = refl
are_in-by ranges (v ∷ scope) (x ∷ tuple) = ap (λ b. is_in (range_in ranges v) x && b) (are_in-by ranges scope tuple)

module _ (ranges : List ValueRange) (d : ℕ) (scope other : List ℕ) (same : map (range_in ranges) scope ≡ map (range_in ranges) other) where
  pub same_length : length scope ≡ length other
  same_length = sym (length-map scope (range_in ranges)) ∙ ap length same ∙ length-map other (range_in ranges)

  within : (tuple : List ℕ) → are_in ranges scope tuple ≡ are_in ranges other tuple
  within tuple = are_in-by ranges scope tuple ∙ ap (λ own. are_by own tuple) same ∙ sym (are_in-by ranges other tuple)

  wide : (r : Relation) → widened ranges d scope r ≡ widened ranges d other r
  wide r = λ i. map (λ (both : List ℕ × Bool). not (within both.0 i) || both.1) (zip (tuples d (same_length i)) r)

  pub chosen_same : (given : List Given) (tables : List TruthTable) (numbers : List ℕ) → AreChosen ranges d given tables scope numbers → AreChosen ranges d given tables other numbers
  chosen_same given tables numbers chosen = record {
    closing = subst (λ (rs : List Relation). IsClosing rs (chosen_on ranges d tables other numbers)) (λ i. map (λ r. wide r i) (relations_of_arity given (same_length i)))
        (subst (IsClosing (given_at ranges d given scope)) (λ i. map (λ (k : ℕ). wide (get_or (truths tables) k []) i) numbers) chosen.closing);
    known = chosen.known;
    few = chosen.few;
  }

-- Tables of two variables in falling order within the ranges.
use Rattle.language.proofs.Prelude.{bit_at-zero, ◌-◌, eqb-true, is_part, w64, ◌≡◌, ◌≢◌, ℕ, zero, suc, ◌+◌, ◌*◌, ◌%◌, ◌^◌, ◌<◌, ◌≤◌, Bool, true, false, ◌&&◌, ◌||◌, not, List, [], ◌∷◌, ◌++◌, length, map, take, drop, get_or, Option, Some, None, refl, sym, ◌∙◌, ap, subst, arith, ◌⊎◌, inl, inr, All, Contains, ◌==◌, cases_eq, cases_lt, both_ways, and_from, le-leb, lt-leb, nat_le, is_some, bit_at, bit_xor, bit_at-lt, bit_at_xor, same_lists, get_or_default, get_or-map, length-map, map-append, take_more, drop-cons, All-append, All-cons, All-more, All-nil, All-contains, Relation, place, tuple_at, meet, IsIntersection, is_above, TruthTable, place-below, place-tuple_at, tuple_at-below, tuple_at-place, contains_map, image_of, ValueRange, Given, range_in, is_in, are_in, widened, truths, chosen_on, relations_of_arity, IsClosedOf, AreChosen}
use Rattle.std.proofs.Common.{bit_and, min}
use Rattle.std.proofs.Math.Nat.{mul-le-mul_right}
use Rattle.std.proofs.lemmas.Nat.{and_le_r}
use Rattle.std.proofs.lemmas.Nat.Bits.{bit_at-trailing_zeros, bit_at_and, bit_at_not}
use Rattle.std.specs.Int.{bit_not, trailing_zeros}
use Rattle.std.specs.List.{take-map, drop-map}
use Rattle.std.specs.Prelude.{insert}
use Rattle.rel_table.specs.InOrder.{Above, IsBelow, IsInOrder}
use Rattle.std.proofs.lemmas.List.Elements.{All-take, All-drop}
use Rattle.rel_table.proofs.AboveLemmas.{is_above-at}
use Rattle.rel_table.proofs.Inserting.{stays, goes_in}
use Rattle.language.specs.PairOrder.{IsRangeMask, IsFirstBit, TellsFirstBit, TellsOrder}
use Rattle.language.proofs.Within.{widened-at, length-widened, part_from, not_part, kept_at}
use Rattle.language.proofs.Widening.{over-meet, widened-over, image_is, intersection_of}
use Rattle.std.proofs.Math.Bool.{and-false}

-- ---- bits

both_bits : (x y z : ℕ) → x < 2 → y < 2 → z < 2 → min ((x + y) % 2) z ≡ 0 → (z == 1) ≡ true → (x == 1) ≡ (y == 1)
both_bits x y zero h k m none one = absurd (let e : false ≡ true = one in cc)
both_bits zero zero (suc zero) h k m none one = refl
both_bits (suc zero) (suc zero) (suc zero) h k m none one = refl
both_bits zero (suc zero) (suc zero) h k m none one = absurd (let e : 1 ≡ 0 = none in omega (arith, e))
both_bits (suc zero) zero (suc zero) h k m none one = absurd (let e : 1 ≡ 0 = none in omega (arith, e))
both_bits (suc (suc x)) y (suc zero) h k m none one = absurd (omega arith)
both_bits zero (suc (suc y)) (suc zero) h k m none one = absurd (omega arith)
both_bits (suc zero) (suc (suc y)) (suc zero) h k m none one = absurd (omega arith)
both_bits x y (suc (suc z)) h k m none one = absurd (omega arith)

-- where the bits that differ have none, those that count are the same
pub same_bit : (one other among y : ℕ) → bit_at (bit_and (bit_xor one other) among) y ≡ 0 → (bit_at among y == 1) ≡ true → (bit_at one y == 1) ≡ (bit_at other y == 1)
same_bit one other among y none inside =
    both_bits (bit_at one y) (bit_at other y) (bit_at among y) (bit_at-lt one y) (bit_at-lt other y) (bit_at-lt among y)
    (ap (λ n. min n (bit_at among y)) (sym (bit_at_xor one other y)) ∙ sym (bit_at_and (bit_xor one other) among y) ∙ none) inside

other_bits : (x y z : ℕ) → x < 2 → y < 2 → z < 2 → min ((x + y) % 2) z ≡ 1 → ((z == 1) ≡ true) × ((x == 1) ≢ (y == 1))
other_bits zero zero z h k m one = absurd (let e : min 0 z ≡ 1 = one in omega (arith, e))
other_bits (suc zero) (suc zero) z h k m one = absurd (let e : min 0 z ≡ 1 = one in omega (arith, e))
other_bits x y zero h k m one = absurd (let e : min ((x + y) % 2) 0 ≡ 1 = one in omega (arith, e))
other_bits zero (suc zero) (suc zero) h k m one = (refl, λ (e : false ≡ true). let no : ⊥ = cc in no)
other_bits (suc zero) zero (suc zero) h k m one = (refl, λ (e : true ≡ false). let no : ⊥ = cc in no)
other_bits (suc (suc x)) y (suc z) h k m one = absurd (omega arith)
other_bits zero (suc (suc y)) (suc z) h k m one = absurd (omega arith)
other_bits (suc zero) (suc (suc y)) (suc z) h k m one = absurd (omega arith)
other_bits x y (suc (suc z)) h k m one = absurd (omega arith)

pub other_bit : (one other among y : ℕ) → bit_at (bit_and (bit_xor one other) among) y ≡ 1 → ((bit_at among y == 1) ≡ true) × ((bit_at one y == 1) ≢ (bit_at other y == 1))
other_bit one other among y is =
    other_bits (bit_at one y) (bit_at other y) (bit_at among y) (bit_at-lt one y) (bit_at-lt other y) (bit_at-lt among y)
    (ap (λ n. min n (bit_at among y)) (sym (bit_at_xor one other y)) ∙ sym (bit_at_and (bit_xor one other) among y) ∙ is)

-- ---- places of pairs

and_end : (a b : Bool) → (a && (b && true)) ≡ (a && b)
and_end true true = refl
and_end true false = refl
and_end false b = refl

fits : (d x y : ℕ) → x < d → y < d → All (λ v. v < d) (x ∷ y ∷ [])
fits d x y h k = All-cons (λ v. v < d) x (y ∷ []) h (All-cons (λ v. v < d) y [] k (All-nil (λ v. v < d)))

place_is : (d x y : ℕ) → place d (x ∷ y ∷ []) ≡ x * d + y
place_is d x y = let e : 0 * d + x ≡ x = omega arith in ap (λ n. n * d + y) e

pub pair_below : (d x y : ℕ) → x < d → y < d → x * d + y < d ^ 2
pair_below d x y h k = subst (λ p. p < d ^ 2) (place_is d x y) (place-below d (x ∷ y ∷ []) (fits d x y h k))

pub in_pair : (ranges : List ValueRange) (d : ℕ) (scope : List ℕ) (x y : ℕ) → length scope ≡ 2 → x < d → y < d →
    are_in ranges scope (tuple_at d (length scope) (x * d + y)) ≡ (is_in (range_in ranges (get_or scope 0 0)) x && is_in (range_in ranges (get_or scope 1 0)) y)
in_pair ranges d [] x y two h k = absurd (omega arith)
in_pair ranges d (u ∷ []) x y two h k = absurd (omega arith)
in_pair ranges d (u ∷ w ∷ []) x y two h k =
    ap (λ p. are_in ranges (u ∷ w ∷ []) (tuple_at d 2 p)) (sym (place_is d x y))
    ∙ ap (are_in ranges (u ∷ w ∷ [])) (tuple_at-place d (x ∷ y ∷ []) (fits d x y h k))
    ∙ and_end (is_in (range_in ranges u) x) (is_in (range_in ranges w) y)
in_pair ranges d (u ∷ w ∷ v ∷ scope) x y two h k = absurd (omega arith)

-- each place is that of a pair
pub record IsPairAt (d p : ℕ) : Type 0 where
  pub x : ℕ
  pub y : ℕ
  pub first : x < d
  pub second : y < d
  pub is : p ≡ x * d + y

pub pair_at : (d p : ℕ) → p < d ^ 2 → IsPairAt d p
pair_at d p low =
    let below = tuple_at-below d 2 p low in
    let x : ℕ = get_or (tuple_at d 2 p) 0 0 in
    let y : ℕ = get_or (tuple_at d 2 p) 1 0 in
    record { x = x; y = y; first = below 0 0 (omega arith); second = below 1 0 (omega arith); is = sym (place-tuple_at d 2 p low) ∙ place_is d x y }

-- a place in an earlier row, or earlier in the same one
row_before : (d a b x y : ℕ) → b < d → y < d → a * d + b < x * d + y → (a < x) ⊎ ((a ≡ x) × (b < y))
row_before d a b x y h k before = go (cases_lt a x)
  where
    go : (a < x) ⊎ (x ≤ a) → (a < x) ⊎ ((a ≡ x) × (b < y))
    go (inl less) = inl less
    go (inr more) = inr (same (cases_lt x a))
      where
        same : (x < a) ⊎ (a ≤ x) → (a ≡ x) × (b < y)
        same (inl far) = let rows : (x + 1) * d ≤ a * d = mul-le-mul_right d (omega arith) in let next : (x + 1) * d ≡ x * d + d = omega arith in absurd (omega arith)
        same (inr near) = let e : a ≡ x = omega arith in let rows : a * d ≡ x * d = ap (λ n. n * d) e in (e, omega arith)

-- ---- two relations on a scope of two variables, row by row

agree_at : (first second x y : Bool) → (first ≡ true → second ≡ true → x ≡ y) → (not (first && second) || x) ≡ (not (first && second) || y)
agree_at true true x y h = h refl refl
agree_at true false x y h = refl
agree_at false second x y h = refl

-- the first rows are the same
abbrev pub AreSameBelow : ℕ → Relation → Relation → ℕ → Type 0
AreSameBelow d r q x = (a b : ℕ) → a < x → a < d → b < d → get_or r (a * d + b) false ≡ get_or q (a * d + b) false

-- whether a value is one of the range of the variable that stands at a place of a scope
abbrev pub is_value : List ValueRange → List ℕ → ℕ → ℕ → Bool
is_value ranges scope i x = is_in (range_in ranges (get_or scope i 0)) x

module _ (ranges : List ValueRange) (d : ℕ) (scope : List ℕ) (two : length scope ≡ 2) where
  wide_at : (s : Relation) (x y : ℕ) → length s ≡ d ^ 2 → x < d → y < d →
      get_or (widened ranges d scope s) (x * d + y) false ≡ (not (is_value ranges scope 0 x && is_value ranges scope 1 y) || get_or s (x * d + y) false)
  wide_at s x y long h k =
      widened-at ranges d scope s (x * d + y) (long ∙ ap (λ n. d ^ n) (sym two)) (subst (λ n. x * d + y < d ^ n) (sym two) (pair_below d x y h k))
      ∙ ap (λ b. not b || get_or s (x * d + y) false) (in_pair ranges d scope x y two h k)

  wide_long : (s : Relation) → length s ≡ d ^ 2 → length (widened ranges d scope s) ≡ d ^ 2
  wide_long s long = length-widened ranges d scope s (long ∙ ap (λ n. d ^ n) (sym two)) ∙ ap (λ n. d ^ n) two

  module _ (r q : Relation) (long : length r ≡ d ^ 2) (other_long : length q ≡ d ^ 2) where
    same_at : (x y : ℕ) → x < d → y < d → (is_value ranges scope 0 x ≡ true → is_value ranges scope 1 y ≡ true → get_or r (x * d + y) false ≡ get_or q (x * d + y) false) →
        get_or (widened ranges d scope r) (x * d + y) false ≡ get_or (widened ranges d scope q) (x * d + y) false
    same_at x y h k inside =
        wide_at r x y long h k ∙ agree_at (is_value ranges scope 0 x) (is_value ranges scope 1 y) (get_or r (x * d + y) false) (get_or q (x * d + y) false) inside ∙ sym (wide_at q x y other_long h k)

    -- before the first value there is no row within the ranges
    pub same_none : (x : ℕ) → ((a : ℕ) → a < x → is_value ranges scope 0 a ≡ false) → AreSameBelow d (widened ranges d scope r) (widened ranges d scope q) x
    same_none x none a b less h k = same_at a b h k (λ on. absurd (both_ways _ (none a less) on))

    -- one row more
    pub same_more : (x : ℕ) → ((y : ℕ) → y < d → is_value ranges scope 1 y ≡ true → get_or r (x * d + y) false ≡ get_or q (x * d + y) false) →
        AreSameBelow d (widened ranges d scope r) (widened ranges d scope q) x → AreSameBelow d (widened ranges d scope r) (widened ranges d scope q) (x + 1)
    same_more x row before a b less h k = go (cases_eq a x)
      where
        go : (a ≡ x) ⊎ (a ≢ x) → get_or (widened ranges d scope r) (a * d + b) false ≡ get_or (widened ranges d scope q) (a * d + b) false
        go (inl same) = same_at a b h k (λ on inside. subst (λ c. get_or r (c * d + b) false ≡ get_or q (c * d + b) false) (sym same) (row b k inside))
        go (inr other) = before a b (omega arith) h k

    -- all rows
    pub same_all : (x : ℕ) → ((a : ℕ) → x ≤ a → is_value ranges scope 0 a ≡ false) → AreSameBelow d (widened ranges d scope r) (widened ranges d scope q) x →
        widened ranges d scope r ≡ widened ranges d scope q
    same_all x none before = same_lists _ _ (wide_long r long ∙ sym (wide_long q other_long)) (λ p e low.
        let at = pair_at d p (omega (arith, low, wide_long r long)) in
        get_or_default _ p e false low ∙ here p at ∙ get_or_default _ p false e (omega (arith, low, wide_long r long, wide_long q other_long)))
      where
        here : (p : ℕ) (at : IsPairAt d p) → get_or (widened ranges d scope r) p false ≡ get_or (widened ranges d scope q) p false
        here p at = subst (λ n. get_or (widened ranges d scope r) n false ≡ get_or (widened ranges d scope q) n false) (sym at.is) (go (cases_lt at.x x))
          where
            go : (at.x < x) ⊎ (x ≤ at.x) → get_or (widened ranges d scope r) (at.x * d + at.y) false ≡ get_or (widened ranges d scope q) (at.x * d + at.y) false
            go (inl less) = before at.x at.y less at.first at.second
            go (inr past) = same_at at.x at.y at.first at.second (λ on. absurd (both_ways _ (none at.x past) on))

    module _ (x y : ℕ) (h : x < d) (k : y < d) (on : is_value ranges scope 0 x ≡ true) (inside : is_value ranges scope 1 y ≡ true)
        (row : (b : ℕ) → b < y → is_value ranges scope 1 b ≡ true → get_or r (x * d + b) false ≡ get_or q (x * d + b) false)
        (before : AreSameBelow d (widened ranges d scope r) (widened ranges d scope q) x) where
      plain : (b c z : Bool) → b ≡ true → c ≡ true → (not (b && c) || z) ≡ z
      plain b c z e f = λ i. not (e i && f i) || z

      here_is : get_or (widened ranges d scope r) (x * d + y) false ≡ get_or r (x * d + y) false
      here_is = wide_at r x y long h k ∙ plain _ _ _ on inside

      there_is : get_or (widened ranges d scope q) (x * d + y) false ≡ get_or q (x * d + y) false
      there_is = wide_at q x y other_long h k ∙ plain _ _ _ on inside

      earlier : (p : ℕ) → p < x * d + y → get_or (widened ranges d scope r) p false ≡ get_or (widened ranges d scope q) p false
      earlier p low =
          let below = pair_below d x y h k in
          let at = pair_at d p (omega arith) in
          subst (λ n. get_or (widened ranges d scope r) n false ≡ get_or (widened ranges d scope q) n false) (sym at.is)
          (go at (row_before d at.x at.y x y at.second k (subst (λ n. n < x * d + y) at.is low)))
        where
          go : (at : IsPairAt d p) → (at.x < x) ⊎ ((at.x ≡ x) × (at.y < y)) → get_or (widened ranges d scope r) (at.x * d + at.y) false ≡ get_or (widened ranges d scope q) (at.x * d + at.y) false
          go at (inl less) = before at.x at.y less at.first at.second
          go at (inr same) = same_at at.x at.y at.first at.second (λ e inside. subst (λ c. get_or r (c * d + at.y) false ≡ get_or q (c * d + at.y) false) (sym same.0) (row at.y same.1 inside))

      low : x * d + y < length (widened ranges d scope r)
      low = let below = pair_below d x y h k in omega (arith, below, wide_long r long)

      -- the first pair within the ranges that is in one of them alone
      pub order_is : get_or r (x * d + y) false ≢ get_or q (x * d + y) false → is_above (widened ranges d scope r) (widened ranges d scope q) ≡ get_or r (x * d + y) false
      order_is differ =
          is_above-at (widened ranges d scope r) (widened ranges d scope q) (x * d + y) (wide_long r long ∙ sym (wide_long q other_long)) low earlier
          (λ same. differ (sym here_is ∙ same ∙ there_is)) ∙ here_is

      pub order_back : get_or r (x * d + y) false ≢ get_or q (x * d + y) false → is_above (widened ranges d scope q) (widened ranges d scope r) ≡ get_or q (x * d + y) false
      order_back differ =
          is_above-at (widened ranges d scope q) (widened ranges d scope r) (x * d + y) (wide_long q other_long ∙ sym (wide_long r long)) (omega (arith, low, wide_long r long, wide_long q other_long)) (λ p h. sym (earlier p h))
          (λ same. differ (sym here_is ∙ sym same ∙ there_is)) ∙ there_is

-- ---- a row

module _ (ranges : List ValueRange) (d : ℕ) (scope : List ℕ) (among : ℕ) (mask : IsRangeMask d (range_in ranges (get_or scope 1 0)) among) where
  -- a bit that counts is that of a value of the range
  inside_low : (y : ℕ) → (bit_at among y == 1) ≡ true → y < d
  inside_low y on = go (cases_lt y d)
    where
      go : (y < d) ⊎ (d ≤ y) → y < d
      go (inl less) = less
      go (inr past) = absurd (both_ways _ (mask.high y past) on)

  module _ (r q : Relation) (x row other : ℕ)
      (row_is : (y : ℕ) → y < d → (bit_at row y == 1) ≡ get_or r (x * d + y) false) (other_is : (y : ℕ) → y < d → (bit_at other y == 1) ≡ get_or q (x * d + y) false) where
    pub row_same : ((y : ℕ) → (bit_at among y == 1) ≡ true → (bit_at row y == 1) ≡ (bit_at other y == 1)) →
        (y : ℕ) → y < d → is_value ranges scope 1 y ≡ true → get_or r (x * d + y) false ≡ get_or q (x * d + y) false
    row_same same y low on = sym (row_is y low) ∙ same y (mask.low y low ∙ on) ∙ other_is y low

    module _ (two : length scope ≡ 2) (long : length r ≡ d ^ 2) (other_long : length q ≡ d ^ 2) (h : x < d) (on_first : is_value ranges scope 0 x ≡ true)
        (before : AreSameBelow d (widened ranges d scope r) (widened ranges d scope q) x) where
      pub row_tells : (on : Bool) → IsFirstBit row other among on → TellsOrder (widened ranges d scope r) (widened ranges d scope q) (Some on)
      row_tells on found = record {
        none = λ e. absurd (let no : ⊥ = cc in no);
        before = λ e. order ∙ sym (row_is found.at low) ∙ sym found.is ∙ on_is true e;
        behind = λ e. back ∙ sym (other_is found.at low) ∙ other_side (bit_at row found.at == 1) (bit_at other found.at == 1) found.differ (sym found.is ∙ on_is false e);
      }
        where
          low : found.at < d
          low = inside_low found.at found.inside

          on_is : (b : Bool) → Some on ≡ Some b → on ≡ b
          on_is b e = cc

          other_side : (b c : Bool) → b ≢ c → b ≡ false → c ≡ true
          other_side true c differ off = absurd (let no : ⊥ = cc in no)
          other_side false true differ off = refl
          other_side false false differ off = absurd (differ refl)

          apart : get_or r (x * d + found.at) false ≢ get_or q (x * d + found.at) false
          apart same = found.differ (row_is found.at low ∙ same ∙ sym (other_is found.at low))

          second : is_value ranges scope 1 found.at ≡ true
          second = sym (mask.low found.at low) ∙ found.inside

          rest : (b : ℕ) → b < found.at → is_value ranges scope 1 b ≡ true → get_or r (x * d + b) false ≡ get_or q (x * d + b) false
          rest b less on = let b_low : b < d = (let at_low = low in omega arith) in sym (row_is b b_low) ∙ found.before b less (mask.low b b_low ∙ on) ∙ other_is b b_low

          order : is_above (widened ranges d scope r) (widened ranges d scope q) ≡ get_or r (x * d + found.at) false
          order = order_is ranges d scope two r q long other_long x found.at h low on_first second rest before apart

          back : is_above (widened ranges d scope q) (widened ranges d scope r) ≡ get_or q (x * d + found.at) false
          back = order_back ranges d scope two r q long other_long x found.at h low on_first second rest before apart

      pub row_found : (found : Option Bool) → is_some found ≡ true → TellsFirstBit row other among found → TellsOrder (widened ranges d scope r) (widened ranges d scope q) found
      row_found None some tells = absurd (both_ways _ refl some)
      row_found (Some on) some tells = row_tells on (tells.some on refl)

pub none_found : (found : Option Bool) → is_some found ≡ false → found ≡ None
none_found None none = refl
none_found (Some on) none = absurd (both_ways _ none refl)

-- ---- the values of a range

pub below_range : (range : ValueRange) (x : ℕ) → x < range.first → is_in range x ≡ false
below_range range x low = ap (λ b. b && nat_le x range.last) (lt-leb range.first x low)

pub past_range : (range : ValueRange) (x : ℕ) → range.last + 1 ≤ x → is_in range x ≡ false
past_range range x past = ap (λ b. nat_le range.first x && b) (lt-leb x range.last (omega arith)) ∙ and-false (nat_le range.first x)

pub within_range : (range : ValueRange) (x : ℕ) → range.first ≤ x → x < range.last + 1 → is_in range x ≡ true
within_range range x low high = and_from _ _ (le-leb range.first x low) (le-leb x range.last (omega arith))

-- ---- which of two relations lies within the other, row by row

bits_clash : (x z m : ℕ) → z < 2 → min (min x (1 - z)) m ≡ 0 → (m == 1) ≡ true → (x == 1) ≡ true → (z == 1) ≡ false → ⊥
bits_clash x zero m low none inside here there =
    let e : x ≡ 1 = eqb-true x 1 here in
    let f : m ≡ 1 = eqb-true m 1 inside in
    let g : 1 ≡ 0 = (λ i. min (min (sym e i) 1) (sym f i)) ∙ none in
    omega (arith, g)
bits_clash x (suc zero) m low none inside here there = let e : true ≡ false = there in let no : ⊥ = cc in no
bits_clash x (suc (suc z)) m low none inside here there = omega arith

bits_some : (x z m : ℕ) → x < 2 → z < 2 → m < 2 → min (min x (1 - z)) m ≡ 1 → ((m == 1) ≡ true) × ((x == 1) ≡ true) × ((z == 1) ≡ false)
bits_some zero z m h k l one = absurd (let e : min (min 0 (1 - z)) m ≡ 1 = one in omega (arith, e))
bits_some (suc zero) (suc zero) m h k l one = absurd (let e : min (min 1 0) m ≡ 1 = one in omega (arith, e))
bits_some (suc zero) zero zero h k l one = absurd (let e : min (min 1 1) 0 ≡ 1 = one in omega (arith, e))
bits_some (suc zero) zero (suc zero) h k l one = (refl, refl, refl)
bits_some (suc zero) zero (suc (suc m)) h k l one = absurd (omega arith)
bits_some (suc zero) (suc (suc z)) m h k l one = absurd (omega arith)
bits_some (suc (suc x)) z m h k l one = absurd (omega arith)

-- the bits of the first mask that the second lacks, among some
abbrev pub lacking : ℕ → ℕ → ℕ → ℕ
lacking row other among = bit_and (bit_and row (bit_not w64 other)) among

lacking_bit : (row other among y : ℕ) → other < 2 ^ 64 → y < 64 → bit_at (lacking row other among) y ≡ min (min (bit_at row y) (1 - bit_at other y)) (bit_at among y)
lacking_bit row other among y fits low =
    bit_at_and (bit_and row (bit_not w64 other)) among y ∙ ap (λ n. min n (bit_at among y)) (bit_at_and row (bit_not w64 other) y ∙ ap (min (bit_at row y)) (bit_at_not w64 other y fits low))

-- the first rows of the one lie within the other
abbrev pub IsPartBelow : ℕ → Relation → Relation → ℕ → Type 0
IsPartBelow d r q x = (a b : ℕ) → a < x → a < d → b < d → (not (get_or r (a * d + b) false) || get_or q (a * d + b) false) ≡ true

module _ (ranges : List ValueRange) (d : ℕ) (scope : List ℕ) (two : length scope ≡ 2) (r q : Relation) (long : length r ≡ d ^ 2) (other_long : length q ≡ d ^ 2) where
  outside : (b c : Bool) → (b ≡ true → c ≡ true → ⊥) → (b && c) ≡ false
  outside true true never = absurd (never refl refl)
  outside true false never = refl
  outside false c never = refl

  part_at : (x y : ℕ) → x < d → y < d → (is_value ranges scope 0 x ≡ true → is_value ranges scope 1 y ≡ true → get_or r (x * d + y) false ≡ true → get_or q (x * d + y) false ≡ false → ⊥) →
      (not (get_or (widened ranges d scope r) (x * d + y) false) || get_or (widened ranges d scope q) (x * d + y) false) ≡ true
  part_at x y h k never =
      (λ i. not (wide_at ranges d scope two r x y long h k i) || wide_at ranges d scope two q x y other_long h k i)
      ∙ kept_at (is_value ranges scope 0 x && is_value ranges scope 1 y) (get_or r (x * d + y) false) (get_or q (x * d + y) false) (λ on off. outside _ _ (λ first second. never first second on off))

  pub part_more : (x : ℕ) → ((y : ℕ) → y < d → is_value ranges scope 0 x ≡ true → is_value ranges scope 1 y ≡ true → get_or r (x * d + y) false ≡ true → get_or q (x * d + y) false ≡ false → ⊥) →
      IsPartBelow d (widened ranges d scope r) (widened ranges d scope q) x → IsPartBelow d (widened ranges d scope r) (widened ranges d scope q) (x + 1)
  part_more x row before a b less h k = go (cases_eq a x)
    where
      go : (a ≡ x) ⊎ (a ≢ x) → (not (get_or (widened ranges d scope r) (a * d + b) false) || get_or (widened ranges d scope q) (a * d + b) false) ≡ true
      go (inl same) =
          subst (λ (c : ℕ). (not (get_or (widened ranges d scope r) (c * d + b) false) || get_or (widened ranges d scope q) (c * d + b) false) ≡ true) (sym same)
          (part_at x b (omega (arith, same)) k (row b k))
      go (inr other) = before a b (omega arith) h k

  pub part_all : IsPartBelow d (widened ranges d scope r) (widened ranges d scope q) d → is_part (widened ranges d scope r) (widened ranges d scope q) ≡ true
  part_all all = part_from _ _ (wide_long ranges d scope two r long ∙ sym (wide_long ranges d scope two q other_long)) (λ p low.
      let at = pair_at d p (omega (arith, low, wide_long ranges d scope two r long)) in
      subst (λ n. (not (get_or (widened ranges d scope r) n false) || get_or (widened ranges d scope q) n false) ≡ true) (sym at.is) (all at.x at.y at.first at.first at.second))

  pub part_fails : (x y : ℕ) → x < d → y < d → is_value ranges scope 0 x ≡ true → is_value ranges scope 1 y ≡ true → get_or r (x * d + y) false ≡ true → get_or q (x * d + y) false ≡ false →
      is_part (widened ranges d scope r) (widened ranges d scope q) ≡ false
  part_fails x y h k first second on off =
      let below = pair_below d x y h k in
      not_part _ _ (x * d + y) (wide_long ranges d scope two r long ∙ sym (wide_long ranges d scope two q other_long)) (omega (arith, below, wide_long ranges d scope two r long))
      (wide_at ranges d scope two r x y long h k ∙ (λ i. not (first i && second i) || on i)) (wide_at ranges d scope two q x y other_long h k ∙ (λ i. not (first i && second i) || off i))

-- a row of each
module _ (ranges : List ValueRange) (d : ℕ) (scope : List ℕ) (among : ℕ) (few : d ≤ 64) (mask : IsRangeMask d (range_in ranges (get_or scope 1 0)) among) (r q : Relation) (x row other : ℕ)
    (fits : other < 2 ^ 64) (among_fits : among < 2 ^ 64)
    (row_is : (y : ℕ) → y < d → (bit_at row y == 1) ≡ get_or r (x * d + y) false) (other_is : (y : ℕ) → y < d → (bit_at other y == 1) ≡ get_or q (x * d + y) false) where
  pub row_within : lacking row other among ≡ 0 → (y : ℕ) → y < d → is_value ranges scope 1 y ≡ true → get_or r (x * d + y) false ≡ true → get_or q (x * d + y) false ≡ false → ⊥
  row_within none y low second on off =
      bits_clash (bit_at row y) (bit_at other y) (bit_at among y) (bit_at-lt other y)
      (sym (lacking_bit row other among y fits (omega arith)) ∙ ap (λ n. bit_at n y) none ∙ bit_at-zero y) (mask.low y low ∙ second) (row_is y low ∙ on) (other_is y low ∙ off)

  pub row_fails : lacking row other among ≢ 0 → (two : length scope ≡ 2) → length r ≡ d ^ 2 → length q ≡ d ^ 2 → x < d → is_value ranges scope 0 x ≡ true → is_part (widened ranges d scope r) (widened ranges d scope q) ≡ false
  row_fails some two long other_long h first =
      let less = and_le_r (bit_and row (bit_not w64 other)) among in
      let found = bit_at-trailing_zeros w64 (lacking row other among) (omega arith) (omega arith) in
      let y = trailing_zeros w64 (lacking row other among) in
      let bits = bits_some (bit_at row y) (bit_at other y) (bit_at among y) (bit_at-lt row y) (bit_at-lt other y) (bit_at-lt among y) (sym (lacking_bit row other among y fits found.0) ∙ found.1) in
      let low = inside_low ranges d scope among mask y bits.0 in
      part_fails ranges d scope two r q long other_long x y h low first (sym (mask.low y low) ∙ bits.0) (sym (row_is y low) ∙ bits.1) (sym (other_is y low) ∙ bits.2)

-- ---- one table more

module _ (ranges : List ValueRange) (d : ℕ) (tables : List TruthTable) (scope : List ℕ) where
  truth_at : (k : ℕ) (t : TruthTable) → k < length tables → t ≡ get_or tables k t → get_or (truths tables) k [] ≡ t.truth
  truth_at k t low is = get_or-map (λ (t : TruthTable). t.truth) tables k t [] low ∙ ap (λ (t : TruthTable). t.truth) (sym is)

  module _ (chosen : List ℕ) where
    long : length (chosen_on ranges d tables scope chosen) ≡ length chosen
    long = length-map chosen (λ (k : ℕ). widened ranges d scope (get_or (truths tables) k []))

    module _ (at : ℕ) (t : TruthTable) (low : at < length chosen) (known : All (λ k. k < length tables) chosen) (is : t ≡ get_or tables (get_or chosen at 0) t) where
      chosen_at : get_or (chosen_on ranges d tables scope chosen) at [] ≡ widened ranges d scope t.truth
      chosen_at = get_or-map (λ (k : ℕ). widened ranges d scope (get_or (truths tables) k [])) chosen at 0 [] low ∙ ap (widened ranges d scope) (truth_at (get_or chosen at 0) t (known at 0 low) is)

      pub in_front : (r : Relation) → is_above r (widened ranges d scope t.truth) ≡ true → IsBelow r (drop at (chosen_on ranges d tables scope chosen))
      in_front r above =
          subst (IsBelow r) (sym (drop-cons (chosen_on ranges d tables scope chosen) at [] (omega (arith, low, long)))) (subst (λ q. is_above r q ≡ true) (sym chosen_at) above)

      pub one_behind : (r : Relation) → is_above (widened ranges d scope t.truth) r ≡ true → All (λ q. Above q r) (take at (chosen_on ranges d tables scope chosen)) → All (λ q. Above q r) (take (at + 1) (chosen_on ranges d tables scope chosen))
      one_behind r above before =
          All-more (λ q. Above q r) (chosen_on ranges d tables scope chosen) at [] (omega (arith, low, long)) before (subst (λ q. is_above q r ≡ true) (sym chosen_at) above)

    chosen_in : (at k : ℕ) → chosen_on ranges d tables scope (insert chosen at k) ≡ insert (chosen_on ranges d tables scope chosen) at (widened ranges d scope (get_or (truths tables) k []))
    chosen_in at k =
        let f : ℕ → Relation = λ j. widened ranges d scope (get_or (truths tables) j []) in
        map-append f (take at chosen) (k ∷ drop at chosen) ∙ (λ i. sym (take-map f at chosen) i ++ f k ∷ sym (drop-map f at chosen) i)

    module _ (k : ℕ) (t : TruthTable) (low : k < length tables) (is : t ≡ get_or tables k t) where
      one_more : take (k + 1) (map (widened ranges d scope) (truths tables)) ≡ take k (map (widened ranges d scope) (truths tables)) ++ widened ranges d scope t.truth ∷ []
      one_more =
          let truths_long = length-map tables (λ (t : TruthTable). t.truth) in
          let wide_long = length-map (truths tables) (widened ranges d scope) in
          take_more (map (widened ranges d scope) (truths tables)) k [] (omega arith)
          ∙ ap (λ r. take k (map (widened ranges d scope) (truths tables)) ++ r ∷ []) (get_or-map (widened ranges d scope) (truths tables) k [] [] (omega arith) ∙ ap (widened ranges d scope) (truth_at k t low is))

      -- the next table is the same as a chosen one
      pub order_stays : IsInOrder (take k (map (widened ranges d scope) (truths tables))) (chosen_on ranges d tables scope chosen) → Contains (chosen_on ranges d tables scope chosen) (widened ranges d scope t.truth) →
          IsInOrder (take (k + 1) (map (widened ranges d scope) (truths tables))) (chosen_on ranges d tables scope chosen)
      order_stays order there = subst (λ rs. IsInOrder rs (chosen_on ranges d tables scope chosen)) (sym one_more) (stays _ _ (widened ranges d scope t.truth) order there)

      -- it is chosen
      pub order_more : (at : ℕ) (more : List ℕ) → more ≡ insert chosen at k → at ≤ length chosen → IsInOrder (take k (map (widened ranges d scope) (truths tables))) (chosen_on ranges d tables scope chosen) →
          All (λ q. Above q (widened ranges d scope t.truth)) (take at (chosen_on ranges d tables scope chosen)) → IsBelow (widened ranges d scope t.truth) (drop at (chosen_on ranges d tables scope chosen)) →
          IsInOrder (take (k + 1) (map (widened ranges d scope) (truths tables))) (chosen_on ranges d tables scope more)
      order_more at more more_is inside order before below =
          subst (λ rs. IsInOrder rs (chosen_on ranges d tables scope more)) (sym one_more)
          (subst (IsInOrder (take k (map (widened ranges d scope) (truths tables)) ++ widened ranges d scope t.truth ∷ []))
          (sym (ap (chosen_on ranges d tables scope) more_is ∙ chosen_in at k ∙ ap (λ r. insert (chosen_on ranges d tables scope chosen) at (widened ranges d scope r)) (truth_at k t low is)))
          (goes_in (take k (map (widened ranges d scope) (truths tables))) (chosen_on ranges d tables scope chosen) (widened ranges d scope t.truth) at order (omega (arith, inside, long)) before below))

-- all numbers are known, with one more
pub known_more : (chosen : List ℕ) (n at k : ℕ) → k < n → All (λ j. j < n) chosen → All (λ j. j < n) (insert chosen at k)
known_more chosen n at k low known =
    All-append (λ j. j < n) (take at chosen) (k ∷ drop at chosen) (All-take (λ j. j < n) at chosen known) (All-cons (λ j. j < n) k (drop at chosen) low (All-drop (λ j. j < n) at chosen known))

-- ---- all of them

module _ (ranges : List ValueRange) (d : ℕ) (scope : List ℕ) where
  widened-meet : (r q : Relation) → widened ranges d scope (meet r q) ≡ meet (widened ranges d scope r) (widened ranges d scope q)
  widened-meet r q =
      widened-over ranges d scope (meet r q) ∙ over-meet _ r q ∙ (λ i. meet (sym (widened-over ranges d scope r) i) (sym (widened-over ranges d scope q) i))

  -- the widened tables, each once and in order, are the intersections of the widened relations
  pub chosen_pairs : (given : List Given) (tables : List TruthTable) (chosen : List ℕ) → IsClosedOf d (length scope) given tables → All (λ k. k < length tables) chosen → length chosen ≤ length tables →
      IsInOrder (map (widened ranges d scope) (truths tables)) (chosen_on ranges d tables scope chosen) → AreChosen ranges d given tables scope chosen
  chosen_pairs given tables chosen closed known few order = record {
    closing = record {
      each = λ k e low. each (get_or (chosen_on ranges d tables scope chosen) k e) (order.each k e low);
      every = every;
      falling = order.falling;
    };
    known = known;
    few = let all = closed.few in omega arith;
  }
    where
      f : Relation → Relation
      f = widened ranges d scope

      file : List Relation
      file = relations_of_arity given (length scope)

      each : (q : Relation) → Contains (map f (truths tables)) q → IsIntersection (map f file) q
      each q has =
          let source = image_of f (truths tables) q has in
          subst (IsIntersection (map f file)) source.is (image_is f widened-meet file source.of (All-contains (IsIntersection file) (truths tables) source.of closed.closing.each source.has))

      every : (q : Relation) → IsIntersection (map f file) q → Contains (chosen_on ranges d tables scope chosen) q
      every q is =
          let source = intersection_of f widened-meet file q is in
          All-contains (Contains (chosen_on ranges d tables scope chosen)) (map f (truths tables)) q order.every
          (subst (Contains (map f (truths tables))) source.is (contains_map f (truths tables) source.of (closed.closing.every source.of source.intersection)))

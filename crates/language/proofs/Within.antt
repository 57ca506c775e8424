-- Relations on a scope, tuple by tuple: within the ranges they are as they were.
use Rattle.language.proofs.Prelude.{◌≡◌, ℕ, zero, suc, ◌+◌, ◌-◌, ◌^◌, ◌<◌, ◌≤◌, Bool, true, false, cond, ◌&&◌, ◌||◌, not, List, [], ◌∷◌, length, map, get_or, take, drop, ◌++◌, refl, sym, ◌∙◌, ap, subst, arith, All, ◌==◌, nat_le, zip, list_all, flat_map, leb-true, le-leb, and_parts, and_from, eqb-true, eq-eqb, drop_more, get_or-take, get_or-map, length-map, map-append, append-nil, same_lists, get_or_default, All-nil, All-cons, All-head, All-tail, AllPass-from_list_all, flat_map-append, numbers, Relation, place, tuples, tuple_at, length-tuples, get_or-tuples, place-below, length-tuple_at, tuple_at-below, tuple_at-place, place-tuple_at, ValueRange, is_in, range_in, are_in, is_whole_range, are_whole, widened, inside, AgreeWithin, IsRange, IsWhole, is_part}
use Rattle.std.proofs.lemmas.Simd.{map-map}
use Rattle.language.proofs.Counting.{numbers_more}
use Rattle.language.proofs.Widening.{over, widened-over}
use Rattle.std.proofs.Math.Bool.{and-false}

-- ---- at a place

over-length : (mask r : Relation) → length mask ≡ length r → length (over mask r) ≡ length r
over-length [] [] same = refl
over-length [] (x ∷ r) same = absurd (omega arith)
over-length (m ∷ mask) [] same = absurd (omega arith)
over-length (m ∷ mask) (x ∷ r) same = ap suc (over-length mask r (omega arith))

over-at : (mask r : Relation) (p : ℕ) → length mask ≡ length r → p < length r → get_or (over mask r) p false ≡ (not (get_or mask p false) || get_or r p false)
over-at [] [] p same low = absurd (omega arith)
over-at [] (x ∷ r) p same low = absurd (omega arith)
over-at (m ∷ mask) [] p same low = absurd (omega arith)
over-at (m ∷ mask) (x ∷ r) zero same low = refl
over-at (m ∷ mask) (x ∷ r) (suc p) same low = over-at mask r p (omega arith) (omega arith)

pub length-inside : (ranges : List ValueRange) (d : ℕ) (scope : List ℕ) → length (inside ranges d scope) ≡ d ^ length scope
length-inside ranges d scope = length-map (tuples d (length scope)) (are_in ranges scope) ∙ length-tuples d (length scope)

pub inside-at : (ranges : List ValueRange) (d : ℕ) (scope : List ℕ) (p : ℕ) → p < d ^ length scope →
    get_or (inside ranges d scope) p false ≡ are_in ranges scope (tuple_at d (length scope) p)
inside-at ranges d scope p low =
    get_or-map (are_in ranges scope) (tuples d (length scope)) p [] false (omega (arith, low, length-tuples d (length scope)))
    ∙ ap (are_in ranges scope) (get_or-tuples d (length scope) p low)

pub length-widened : (ranges : List ValueRange) (d : ℕ) (scope : List ℕ) (r : Relation) → length r ≡ d ^ length scope → length (widened ranges d scope r) ≡ d ^ length scope
length-widened ranges d scope r size = ap length (widened-over ranges d scope r) ∙ over-length (inside ranges d scope) r (length-inside ranges d scope ∙ sym size) ∙ size

pub widened-at : (ranges : List ValueRange) (d : ℕ) (scope : List ℕ) (r : Relation) (p : ℕ) → length r ≡ d ^ length scope → p < d ^ length scope →
    get_or (widened ranges d scope r) p false ≡ (not (are_in ranges scope (tuple_at d (length scope) p)) || get_or r p false)
widened-at ranges d scope r p size low =
    ap (λ q. get_or q p false) (widened-over ranges d scope r)
    ∙ over-at (inside ranges d scope) r p (length-inside ranges d scope ∙ sym size) (omega (arith, low, size))
    ∙ ap (λ b. not b || get_or r p false) (inside-at ranges d scope p low)

-- outside the mask, or in the relation
pub holds_else : (inside x : Bool) → x ≡ false → (not inside || x) ≡ not inside
holds_else true x off = off
holds_else false x off = refl

pub holds_there : (inside x : Bool) → x ≡ true → (not inside || x) ≡ true
holds_there true x on = on
holds_there false x on = refl

-- ---- which relation lies within another

pub part_from : (r q : Relation) → length r ≡ length q → ((k : ℕ) → k < length r → (not (get_or r k false) || get_or q k false) ≡ true) → is_part r q ≡ true
part_from [] q same all = refl
part_from (x ∷ r) [] same all = refl
part_from (x ∷ r) (y ∷ q) same all = and_from (not x || y) (is_part r q) (all 0 (omega arith)) (part_from r q (omega arith) (λ k low. all (suc k) (omega arith)))

pub not_part : (r q : Relation) (k : ℕ) → length r ≡ length q → k < length r → get_or r k false ≡ true → get_or q k false ≡ false → is_part r q ≡ false
not_part [] q k same low on off = absurd (omega arith)
not_part (x ∷ r) [] k same low on off = absurd (omega arith)
not_part (x ∷ r) (y ∷ q) zero same low on off = λ i. (not (on i) || off i) && is_part r q
not_part (x ∷ r) (y ∷ q) (suc k) same low on off = ap (λ b. (not x || y) && b) (not_part r q k (omega arith) (omega arith) on off) ∙ and-false (not x || y)

implied : (x y : Bool) → cond x y true ≡ (not x || y)
implied true y = refl
implied false y = refl

pub part_is : (r q : Relation) → list_all (λ (p : Bool × Bool). cond p.0 p.1 true) (zip r q) ≡ is_part r q
part_is r q = λ i. list_all (λ (p : Bool × Bool). implied p.0 p.1 i) (zip r q)

-- what one relation has at a place, the other has too, or the place is outside
pub kept_at : (inside x y : Bool) → (x ≡ true → y ≡ false → inside ≡ false) → (not (not inside || x) || (not inside || y)) ≡ true
kept_at true true true h = refl
kept_at true true false h = let e : true ≡ false = h refl refl in cc
kept_at true false y h = refl
kept_at false x y h = refl

-- ---- one after another

in-drop : (ranges : List ValueRange) (scope tuple : List ℕ) (i : ℕ) → i < length scope → length tuple ≡ length scope →
    are_in ranges (drop i scope) (drop i tuple) ≡ (is_in (range_in ranges (get_or scope i 0)) (get_or tuple i 0) && are_in ranges (drop (i + 1) scope) (drop (i + 1) tuple))
in-drop ranges scope tuple i low same = λ j. are_in ranges (drop_more scope i 0 low j) (drop_more tuple i 0 (omega (arith, low, same)) j)

pub in_step : (ranges : List ValueRange) (scope found tuple : List ℕ) (i : ℕ) (b : Bool) → i < length scope → All (λ v. v < length ranges) scope → length tuple ≡ length scope →
    take (length scope) found ≡ tuple → b ≡ is_in (get_or ranges (get_or scope i 0) (record { first = 0; last = 0 })) (get_or found i 0) →
    are_in ranges scope tuple ≡ are_in ranges (drop i scope) (drop i tuple) → are_in ranges scope tuple ≡ (b && are_in ranges (drop (i + 1) scope) (drop (i + 1) tuple))
in_step ranges scope found tuple i b low known long front test so_far =
    so_far ∙ in-drop ranges scope tuple i low long
    ∙ ap (λ c. c && are_in ranges (drop (i + 1) scope) (drop (i + 1) tuple)) (sym (test ∙ (λ j.
    is_in (get_or_default ranges (get_or scope i 0) (record { first = 0; last = 0 }) (record { first = 0; last = 63 }) (known i 0 low) j)
    ((sym (get_or-take (length scope) found i 0 low) ∙ ap (λ xs. get_or xs i 0) front) j))))

-- ---- which tuples are within, one variable before another

-- a front before each tuple
abbrev pub fronts : ValueRange → ℕ → Relation → Relation
fronts range d rest = flat_map (λ x. map (λ within. is_in range x && within) rest) (numbers d)

pub inside-cons : (ranges : List ValueRange) (d : ℕ) (v : ℕ) (scope : List ℕ) → inside ranges d (v ∷ scope) ≡ fronts (range_in ranges v) d (inside ranges d scope)
inside-cons ranges d v scope = go (numbers d)
  where
    go : (xs : List ℕ) → map (are_in ranges (v ∷ scope)) (flat_map (λ x. map (λ tuple. x ∷ tuple) (tuples d (length scope))) xs)
        ≡ flat_map (λ x. map (λ within. is_in (range_in ranges v) x && within) (map (are_in ranges scope) (tuples d (length scope)))) xs
    go [] = refl
    go (x ∷ xs) =
        map-append (are_in ranges (v ∷ scope)) (map (λ tuple. x ∷ tuple) (tuples d (length scope))) (flat_map (λ x. map (λ tuple. x ∷ tuple) (tuples d (length scope))) xs)
        ∙ (λ i. (map-map (are_in ranges (v ∷ scope)) (λ (tuple : List ℕ). x ∷ tuple) (tuples d (length scope))
        ∙ sym (map-map (λ (within : Bool). is_in (range_in ranges v) x && within) (are_in ranges scope) (tuples d (length scope)))) i ++ go xs i)

pub inside-front : (ranges : List ValueRange) (d : ℕ) (scope : List ℕ) (k : ℕ) (range : ValueRange) (before after : Relation) → k < length scope →
    range ≡ range_in ranges (get_or scope (length scope - (k + 1)) 0) → before ≡ inside ranges d (drop (length scope - k) scope) → after ≡ fronts range d before →
    after ≡ inside ranges d (drop (length scope - (k + 1)) scope)
inside-front ranges d scope k range before after low is so_far more =
    let at : ℕ = length scope - (k + 1) in
    let inside_at : at < length scope = omega (arith, low) in
    let next : length scope - k ≡ at + 1 = omega (arith, low) in
    more
    ∙ (λ i. fronts (is i) d ((so_far ∙ ap (λ n. inside ranges d (drop n scope)) next) i))
    ∙ sym (inside-cons ranges d (get_or scope at 0) (drop (at + 1) scope))
    ∙ ap (inside ranges d) (sym (drop_more scope at 0 inside_at))

-- one value more
pub one_first : (range : ValueRange) (x : ℕ) (rest before after : Relation) → before ≡ fronts range x rest → after ≡ before ++ map (λ within. is_in range x && within) rest → after ≡ fronts range (x + 1) rest
one_first range x rest before after so_far more =
    let f : ℕ → Relation = λ x. map (λ within. is_in range x && within) rest in
    more ∙ ap (λ truth. truth ++ f x) so_far
    ∙ sym (ap (flat_map f) (numbers_more x) ∙ flat_map-append f (numbers x) (x ∷ []) ∙ ap (λ truth. flat_map f (numbers x) ++ truth) (append-nil (f x)))

-- ---- at a tuple

module _ (ranges : List ValueRange) (d : ℕ) (some : All (IsRange d) ranges) where
  pub small_within : (scope tuple : List ℕ) → All (λ v. v < length ranges) scope → length tuple ≡ length scope → are_in ranges scope tuple ≡ true → All (λ x. x < d) tuple
  small_within scope [] known long within = All-nil (λ x. x < d)
  small_within [] (x ∷ tuple) known long within = absurd (omega arith)
  small_within (v ∷ scope) (x ∷ tuple) known long within =
      let parts = and_parts (is_in (range_in ranges v) x) (are_in ranges scope tuple) within in
      let below : x ≤ (range_in ranges v).last = leb-true x (range_in ranges v).last (and_parts (nat_le (range_in ranges v).first x) (nat_le x (range_in ranges v).last) parts.0).1 in
      let range = some v (record { first = 0; last = 63 }) (All-head (λ w. w < length ranges) v scope known) in
      let last = range.known in
      All-cons (λ x. x < d) x tuple (omega (arith, below, last)) (small_within scope tuple (All-tail (λ w. w < length ranges) v scope known) (omega arith) parts.1)

  -- within the ranges a relation is as it was
  pub agrees_within : (scope : List ℕ) (r : Relation) → All (λ v. v < length ranges) scope → length r ≡ d ^ length scope → AgreeWithin ranges d scope r (widened ranges d scope r)
  agrees_within scope r known size tuple long within =
      let small = small_within scope tuple known long within in
      let low : place d tuple < d ^ length scope = subst (λ n. place d tuple < d ^ n) long (place-below d tuple small) in
      let back : tuple_at d (length scope) (place d tuple) ≡ tuple = ap (λ n. tuple_at d n (place d tuple)) (sym long) ∙ tuple_at-place d tuple small in
      sym (widened-at ranges d scope r (place d tuple) size low ∙ ap (λ b. not b || get_or r (place d tuple) false) (ap (are_in ranges scope) back ∙ within))

-- ---- where each variable of the scope has all values

module _ (ranges : List ValueRange) (d : ℕ) where
  whole_from : (range : ValueRange) → 1 ≤ d → is_whole_range d range ≡ true → IsWhole d range
  whole_from range some is =
      let parts = and_parts (range.first == 0) (range.last == d - 1) is in
      let first = eqb-true range.first 0 parts.0 in
      let last = eqb-true range.last (d - 1) parts.1 in
      record { first = first; last = omega (arith, last, some) }

  pub wholes_from : (scope : List ℕ) → 1 ≤ d → are_whole ranges d scope ≡ true → All (λ v. IsWhole d (range_in ranges v)) scope
  wholes_from [] some is = All-nil (λ v. IsWhole d (range_in ranges v))
  wholes_from (v ∷ scope) some is =
      let parts = and_parts (is_whole_range d (range_in ranges v)) (are_whole ranges d scope) is in
      All-cons (λ v. IsWhole d (range_in ranges v)) v scope (whole_from (range_in ranges v) some parts.0) (wholes_from scope some parts.1)

  pub wholes_in : (scope : List ℕ) → 1 ≤ d → list_all (is_whole_range d) ranges ≡ true → All (λ v. v < length ranges) scope → All (λ v. IsWhole d (range_in ranges v)) scope
  wholes_in scope some is known k v low =
      whole_from (range_in ranges (get_or scope k v)) some (AllPass-from_list_all (is_whole_range d) ranges is (get_or scope k v) (record { first = 0; last = 63 }) (known k v low))

  pub whole_by : (scope : List ℕ) → All (λ v. IsWhole d (range_in ranges v)) scope → are_whole ranges d scope ≡ true
  whole_by [] whole = refl
  whole_by (v ∷ scope) whole =
      let range = All-head (λ v. IsWhole d (range_in ranges v)) v scope whole in
      let last = range.last in
      and_from _ _ (and_from _ _ (eq-eqb (range_in ranges v).first 0 range.first) (eq-eqb (range_in ranges v).last (d - 1) (omega (arith, last))))
      (whole_by scope (All-tail (λ v. IsWhole d (range_in ranges v)) v scope whole))

  pub all_within : (scope tuple : List ℕ) → All (λ v. IsWhole d (range_in ranges v)) scope → All (λ x. x < d) tuple → are_in ranges scope tuple ≡ true
  all_within [] tuple whole small = refl
  all_within (v ∷ scope) [] whole small = refl
  all_within (v ∷ scope) (x ∷ tuple) whole small =
      let range = All-head (λ v. IsWhole d (range_in ranges v)) v scope whole in
      let first = range.first in
      let last = range.last in
      let low = All-head (λ y. y < d) x tuple small in
      and_from _ _ (and_from _ _ (le-leb (range_in ranges v).first x (omega (arith, first))) (le-leb x (range_in ranges v).last (omega (arith, last, low))))
      (all_within scope tuple (All-tail (λ v. IsWhole d (range_in ranges v)) v scope whole) (All-tail (λ y. y < d) x tuple small))

  -- relations that agree within the ranges are the same
  pub same_where_whole : (scope : List ℕ) (r q : Relation) → All (λ v. IsWhole d (range_in ranges v)) scope → length r ≡ d ^ length scope → length q ≡ d ^ length scope → AgreeWithin ranges d scope r q → r ≡ q
  same_where_whole scope r q whole size other agree = same_lists r q (size ∙ sym other) (λ k default low.
      let inside : k < d ^ length scope = omega (arith, low, size) in
      let tuple : List ℕ = tuple_at d (length scope) k in
      let at : place d tuple ≡ k = place-tuple_at d (length scope) k inside in
      get_or_default r k default false low
      ∙ ap (λ p. get_or r p false) (sym at)
      ∙ agree tuple (length-tuple_at d (length scope) k) (all_within scope tuple whole (tuple_at-below d (length scope) k inside))
      ∙ ap (λ p. get_or q p false) at
      ∙ get_or_default q k false default (omega (arith, inside, other)))

  pub widened_where_whole : (scope : List ℕ) (r : Relation) → All (λ v. IsWhole d (range_in ranges v)) scope → length r ≡ d ^ length scope → widened ranges d scope r ≡ r
  widened_where_whole scope r whole size = same_lists (widened ranges d scope r) r (length-widened ranges d scope r size ∙ sym size) (λ k default low.
      let inside : k < d ^ length scope = omega (arith, low, length-widened ranges d scope r size) in
      get_or_default (widened ranges d scope r) k default false low
      ∙ widened-at ranges d scope r k size inside
      ∙ ap (λ b. not b || get_or r k false) (all_within scope (tuple_at d (length scope) k) whole (tuple_at-below d (length scope) k inside))
      ∙ get_or_default r k false default (omega (arith, inside, size)))

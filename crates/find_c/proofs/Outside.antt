-- Which tuples of a row are outside the ranges.
use Rattle.find_c.proofs.Prelude.{◌≡◌, ℕ, zero, suc, ◌+◌, ◌*◌, ◌%◌, ◌^◌, ◌<◌, ◌≤◌, Bool, true, false, ◌&&◌, ◌||◌, not, List, [], ◌∷◌, ◌++◌, length, take, drop, get_or, refl, sym, ◌∙◌, ap, subst, arith, length-take-le, take-take, take_all, All, fold, length-append, take_more, drop_more, drop_all, All-nil, All-cons, All-head, All-tail, Relation, place, tuple_at, get_or-tuples, length-tuple_at, tuple_at-below, place-tuple_at, tuple_at-place, Language, IsLanguage, scope_at, is_whole, is_in, range_in, are_in, widened, scene_of, Choice, tells_apart, told_apart_within, differ_at, IsAtRow, is_outside, IsChoiceOn}
use Rattle.std.proofs.lemmas.Nat.{mod-mul-add}
use Rattle.language.specs.declared.ranges.ValueRange.{ValueRange}
use Rattle.language.proofs.Within.{widened-at, wholes_from, all_within}
use Rattle.find_c.proofs.Splitting.{tells_there}
use Rattle.std.proofs.Math.Bool.{and-true, and_assoc}

-- ---- the tuples of a row

fold_end : (d s : ℕ) (xs : List ℕ) (y : ℕ) → fold (λ at x. at * d + x) s (xs ++ y ∷ []) ≡ fold (λ at x. at * d + x) s xs * d + y
fold_end d s [] y = refl
fold_end d s (x ∷ xs) y = fold_end d (s * d + x) xs y

place_end : (d : ℕ) (xs : List ℕ) (y : ℕ) → place d (xs ++ y ∷ []) ≡ place d xs * d + y
place_end d xs y = fold_end d 0 xs y

all_end : (d : ℕ) (xs : List ℕ) (z y : ℕ) → All (λ x. x < d) (xs ++ z ∷ []) → y < d → All (λ x. x < d) (xs ++ y ∷ [])
all_end d [] z y all low = All-cons (λ x. x < d) y [] low (All-nil (λ x. x < d))
all_end d (x ∷ xs) z y all low = All-cons (λ x. x < d) x (xs ++ y ∷ []) (All-head (λ x. x < d) x (xs ++ z ∷ []) all) (all_end d xs z y (All-tail (λ x. x < d) x (xs ++ z ∷ []) all) low)

last_below : (d : ℕ) (xs : List ℕ) (z : ℕ) → All (λ x. x < d) (xs ++ z ∷ []) → z < d
last_below d [] z all = All-head (λ x. x < d) z [] all
last_below d (x ∷ xs) z all = last_below d xs z (All-tail (λ x. x < d) x (xs ++ z ∷ []) all)

-- they have the same values before the last, which is their number in the row
row_tuple : (d a p m y : ℕ) → p ≡ m * d → p < d ^ suc a → y < d → tuple_at d (suc a) (p + y) ≡ take a (tuple_at d (suc a) p) ++ y ∷ []
row_tuple d a p m y start low small =
    (λ i. tuple_at d (sym long i) (sym at i))
    ∙ tuple_at-place d (xs ++ y ∷ []) (all_end d xs z y below small)
  where
    u : List ℕ
    u = tuple_at d (suc a) p

    xs : List ℕ
    xs = take a u

    z : ℕ
    z = get_or u a 0

    whole : u ≡ xs ++ z ∷ []
    whole = sym (take_all (a + 1) u (omega (arith, length-tuple_at d (suc a) p))) ∙ take_more u a 0 (omega (arith, length-tuple_at d (suc a) p))

    below : All (λ x. x < d) (xs ++ z ∷ [])
    below = subst (λ t. All (λ x. x < d) t) whole (tuple_at-below d (suc a) p low)

    here : p ≡ place d xs * d + z
    here = sym (place-tuple_at d (suc a) p low) ∙ ap (place d) whole ∙ place_end d xs z

    none : z ≡ 0
    none = sym (mod-mul-add (place d xs) d z (last_below d xs z below)) ∙ ap (λ k. k % d) (sym here ∙ start ∙ (let e : m * d ≡ m * d + 0 = omega arith in e)) ∙ mod-mul-add m d 0 (omega arith)

    at : place d (xs ++ y ∷ []) ≡ p + y
    at = place_end d xs y ∙ (omega (arith, here, none))

    long : length (xs ++ y ∷ []) ≡ suc a
    long = length-append xs (y ∷ []) ∙ (omega (arith, length-take-le a u (omega (arith, length-tuple_at d (suc a) p))))

-- ---- within the ranges

-- one value more
pub in_more : (ranges : List ValueRange) (scope values : List ℕ) (i first last : ℕ) (b all : Bool) → i < length scope → length values ≡ length scope →
    b ≡ is_in (record { first = first; last = last }) (get_or values i 0) → first ≡ (range_in ranges (get_or scope i 0)).first → last ≡ (range_in ranges (get_or scope i 0)).last →
    all ≡ are_in ranges (drop i scope) (drop i values) → all ≡ (b && are_in ranges (drop (i + 1) scope) (drop (i + 1) values))
in_more ranges scope values i first last b all low long test at to so_far =
    so_far ∙ (λ j. are_in ranges (drop_more scope i 0 low j) (drop_more values i 0 (omega (arith, low, long)) j))
    ∙ ap (λ c. c && are_in ranges (drop (i + 1) scope) (drop (i + 1) values)) (sym (test ∙ (λ j. is_in (record { first = at j; last = to j }) (get_or values i 0))))

pub in_all : (ranges : List ValueRange) (scope values : List ℕ) (i : ℕ) (all : Bool) → length scope ≤ i → all ≡ are_in ranges (drop i scope) (drop i values) → all ≡ true
in_all ranges scope values i all past so_far = so_far ∙ ap (λ xs. are_in ranges xs (drop i values)) (drop_all i scope past)

in_end : (ranges : List ValueRange) (scope xs : List ℕ) (y a : ℕ) → length xs ≡ a → length scope ≡ suc a →
    are_in ranges scope (xs ++ y ∷ []) ≡ (are_in ranges (take a scope) xs && is_in (range_in ranges (get_or scope a 0)) y)
in_end ranges [] xs y a long wide = absurd (omega arith)
in_end ranges (v ∷ scope) xs y zero long wide = go scope xs (omega arith) (omega arith)
  where
    go : (scope xs : List ℕ) → length xs ≡ 0 → length scope ≡ 0 → are_in ranges (v ∷ scope) (xs ++ y ∷ []) ≡ (are_in ranges [] xs && is_in (range_in ranges v) y)
    go [] [] none short = and-true (is_in (range_in ranges v) y)
    go (w ∷ scope) xs none short = absurd (omega arith)
    go [] (x ∷ xs) none short = absurd (omega arith)
in_end ranges (v ∷ scope) [] y (suc a) long wide = absurd (omega arith)
in_end ranges (v ∷ scope) (x ∷ xs) y (suc a) long wide =
    ap (λ b. is_in (range_in ranges v) x && b) (in_end ranges scope xs y a (omega arith) (omega arith))
    ∙ sym (and_assoc (is_in (range_in ranges v) x) (are_in ranges (take a scope) xs) (is_in (range_in ranges (get_or scope a 0)) y))

-- a place of a row is within where the values before the last are, and its own is
pub inside_row : (ranges : List ValueRange) (d : ℕ) (scope found : List ℕ) (p last y : ℕ) → IsAtRow d (d ^ length scope) p → p < d ^ length scope → y < d → length scope ≡ suc last →
    take (length scope) found ≡ tuple_at d (length scope) p →
    are_in ranges scope (tuple_at d (length scope) (p + y)) ≡ (are_in ranges (take last scope) (take last found) && is_in (range_in ranges (get_or scope last 0)) y)
inside_row ranges d scope found p last y row low small wide front =
    ap (are_in ranges scope) ((λ i. tuple_at d (wide i) (p + y)) ∙ row_tuple d last p row.before y row.start (subst (λ n. p < d ^ n) wide low) small ∙ ap (λ xs. xs ++ y ∷ []) same)
    ∙ in_end ranges scope (take last found) y last (sym (ap length same) ∙ length-take-le last (tuple_at d (suc last) p) (omega (arith, length-tuple_at d (suc last) p))) wide
  where
    same : take last (tuple_at d (suc last) p) ≡ take last found
    same = (λ i. take last (tuple_at d (sym wide i) p)) ∙ ap (take last) (sym front) ∙ take-take last (length scope) found (omega arith)

-- no place is outside where each variable has all values
pub none_outside : (l : Language) (s p : ℕ) → IsLanguage l → is_whole l s ≡ true → p < l.value_count ^ length (scope_at l s) → is_outside l s p ≡ false
none_outside l s p lawful whole low =
    ap not (all_within l.ranges l.value_count (scope_at l s) (tuple_at l.value_count (length (scope_at l s)) p)
    (wholes_from l.ranges l.value_count (scope_at l s) lawful.some_value whole) (tuple_at-below l.value_count (length (scope_at l s)) p low))

or_swap : (a b : Bool) → (a || b) ≡ (b || a)
or_swap true true = refl
or_swap true false = refl
or_swap false true = refl
or_swap false false = refl

-- a relation's truth value is its table's, or it is outside
pub holds_outside : (l : Language) (s p : ℕ) (truth relation : Relation) → length truth ≡ l.value_count ^ length (scope_at l s) → p < l.value_count ^ length (scope_at l s) →
    widened l.ranges l.value_count (scope_at l s) truth ≡ relation → (get_or truth p false || is_outside l s p) ≡ get_or relation p false
holds_outside l s p truth relation size low is =
    or_swap (get_or truth p false) (is_outside l s p)
    ∙ sym (widened-at l.ranges l.value_count (scope_at l s) truth p size low)
    ∙ ap (λ r. get_or r p false) is

-- choices don't differ outside
pub none_differ : (l : Language) (s p : ℕ) (choices : List Choice) → IsLanguage l → s < length l.scopes → All (IsChoiceOn l s) choices → p < l.value_count ^ length (scope_at l s) → is_outside l s p ≡ true →
    differ_at (scene_of l s) choices p ≡ false
none_differ l s p choices lawful is_s known low out = go (differ_at (scene_of l s) choices p) refl
  where
    at : List ℕ
    at = tuple_at l.value_count (length (scope_at l s)) p

    go : (b : Bool) → differ_at (scene_of l s) choices p ≡ b → b ≡ false
    go false is = refl
    go true is =
        let inside : are_in l.ranges (scope_at l s) at ≡ true = told_apart_within l lawful s is_s choices known at (length-tuple_at l.value_count (length (scope_at l s)) p) (tuple_at-below l.value_count (length (scope_at l s)) p low)
        (ap (tells_apart (scene_of l s) choices) (sym (get_or-tuples l.value_count (length (scope_at l s)) p low)) ∙ sym (tells_there (scene_of l s) choices p low) ∙ is) in
        let e : true ≡ false = sym out ∙ ap not inside in
        e

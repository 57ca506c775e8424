-- A formula's truth, place by place.
use Rattle.rel_formula.proofs.Prelude.{◌≡◌, ℕ, zero, suc, ◌+◌, ◌*◌, ◌/◌, ◌%◌, ◌^◌, ◌<◌, ◌≤◌, ℤ, Bool, true, false, List, [], ◌∷◌, ◌++◌, length, take, set, get_or, pos, ◌+ℤ◌, Option, Some, None, if◌then◌else◌, refl, sym, subst, ◌∙◌, ap, append_assoc, append-nil, arith, add-one, lt-ltb, le-ltb, position_or_len, take-suc, length-map, get_or-map, take_all, take_more_set, map_more, tuples, tuple_at, length-tuples, get_or-tuples, Truth, is_true, is_too_big, shown_tuple, relation_from_formula, first_too_big}
use Rattle.std.proofs.Common.{div-one, div-add-mod', pow-suc}
use Rattle.std.proofs.Math.Nat.{pow-zero}
use Rattle.std.proofs.lemmas.List.{map-append, take-map}
use Rattle.std.specs.Prelude.{slice_index_or}
use Rattle.std.proofs.lemmas.Nat.{div-mul-add, mod-mul-add, mod_below, mul-add-lt}
use Rattle.std.proofs.lemmas.List.Sums.{position_or_len_is}
use Rattle.rel_formula.specs.Batch.{numbers_at}
use Rattle.rel_formula.specs.Places.{AreTruthsTo}

pub length-relation_of : (f : Truth) (a : ℕ) (lo : ℤ) (d : ℕ) → length (relation_from_formula f a lo d) ≡ d ^ a
length-relation_of f a lo d = length-map (tuples d a) (λ tuple. is_true (shown_tuple lo tuple) f) ∙ length-tuples d a

pub relation_of-at : (f : Truth) (a : ℕ) (lo : ℤ) (d at : ℕ) → at < d ^ a → get_or (relation_from_formula f a lo d) at false ≡ is_true (shown_tuple lo (tuple_at d a at)) f
relation_of-at f a lo d at h =
    get_or-map (λ tuple. is_true (shown_tuple lo tuple) f) (tuples d a) at [] false (omega (arith, length-tuples d a))
    ∙ ap (λ tuple. is_true (shown_tuple lo tuple) f) (get_or-tuples d a at h)

-- one place more
pub relation_of-more : (f : Truth) (a : ℕ) (lo : ℤ) (d at : ℕ) (truths : List Bool) (b : Bool) → at < d ^ a → truths ≡ take at (relation_from_formula f a lo d) →
    b ≡ is_true (shown_tuple lo (tuple_at d a at)) f → truths ++ b ∷ [] ≡ take (at + 1) (relation_from_formula f a lo d)
relation_of-more f a lo d at truths b h e is =
    let within : at < length (relation_from_formula f a lo d) = omega (arith, length-relation_of f a lo d) in
    ap (λ xs. xs ++ b ∷ []) e
    ∙ ap (λ x. take at (relation_from_formula f a lo d) ++ x ∷ []) (is ∙ sym (relation_of-at f a lo d at h))
    ∙ sym (take-suc (relation_from_formula f a lo d) at false within)
    ∙ ap (λ k. take k (relation_from_formula f a lo d)) (sym (add-one at))

-- the test of a place, as the tuple that stands there
at_tuple : (f : Truth) (a : ℕ) (lo : ℤ) (d at : ℕ) (b : Bool) → at < d ^ a → is_too_big (shown_tuple lo (tuple_at d a at)) f ≡ b → is_too_big (shown_tuple lo (get_or (tuples d a) at [])) f ≡ b
at_tuple f a lo d at b h e = ap (λ tuple. is_too_big (shown_tuple lo tuple) f) (get_or-tuples d a at h) ∙ e

pub first_too_big-none : (f : Truth) (a : ℕ) (lo : ℤ) (d : ℕ) → ((k : ℕ) → k < d ^ a → is_too_big (shown_tuple lo (tuple_at d a k)) f ≡ false) → first_too_big f a lo d ≡ None
first_too_big-none f a lo d fit =
    let P : List ℕ → Bool = λ tuple. is_too_big (shown_tuple lo tuple) f in
    let size = length-tuples d a in
    let e : position_or_len P (tuples d a) ≡ length (tuples d a) =
    position_or_len_is P (tuples d a) (length (tuples d a)) [] (omega arith) (λ k h. at_tuple f a lo d k false (omega arith) (fit k (omega arith))) (λ h. absurd (omega arith)) in
    ap (λ (b : Bool). if b then Some (position_or_len P (tuples d a)) else None) (le-ltb (position_or_len P (tuples d a)) (length (tuples d a)) (omega arith))

pub first_too_big-some : (f : Truth) (a : ℕ) (lo : ℤ) (d at : ℕ) → at < d ^ a → ((k : ℕ) → k < at → is_too_big (shown_tuple lo (tuple_at d a k)) f ≡ false) →
    is_too_big (shown_tuple lo (tuple_at d a at)) f ≡ true → first_too_big f a lo d ≡ Some at
first_too_big-some f a lo d at h fit big =
    let P : List ℕ → Bool = λ tuple. is_too_big (shown_tuple lo tuple) f in
    let size = length-tuples d a in
    let e : position_or_len P (tuples d a) ≡ at =
    position_or_len_is P (tuples d a) at [] (omega arith) (λ k low. at_tuple f a lo d k false (omega arith) (fit k low)) (λ _. at_tuple f a lo d at true h big) in
    ap (λ (b : Bool). if b then Some (position_or_len P (tuples d a)) else None) (lt-ltb (position_or_len P (tuples d a)) (length (tuples d a)) (omega arith))
    ∙ ap (λ k. Some k) e

-- what a truth that is there, or none, tells of the tests
pub none_is : (big p : Bool) (o : Option Bool) → o ≡ (if big then None else Some p) → o ≡ None → big ≡ true
none_is true p o e none = refl
none_is false p o e none = let h = sym none ∙ e in cc

pub some_is : (big p x : Bool) (o : Option Bool) → o ≡ (if big then None else Some p) → o ≡ Some x → (big ≡ false) × (x ≡ p)
some_is true p x o e some = let h = sym some ∙ e in cc
some_is false p x o e some = (refl, (let h = sym some ∙ e in cc))

-- one place more passes
pub passed_more : (test : ℕ → Bool) (at : ℕ) → ((k : ℕ) → k < at → test k ≡ false) → test at ≡ false → (k : ℕ) → k < at + 1 → test k ≡ false
passed_more test at passed here k h = grind (arith, passed k)

-- all places
pub relation_of-all : (f : Truth) (a : ℕ) (lo : ℤ) (d at : ℕ) (truths : List Bool) → d ^ a ≤ at → truths ≡ take at (relation_from_formula f a lo d) → truths ≡ relation_from_formula f a lo d
relation_of-all f a lo d at truths h e = e ∙ take_all at (relation_from_formula f a lo d) (omega (arith, length-relation_of f a lo d))

-- one value more is shown
pub shown_more : (lo : ℤ) (shown : List ℤ) (tuple : List ℕ) (i : ℕ) (v : ℤ) → i < length shown → i < length tuple → take i shown ≡ shown_tuple lo (take i tuple) →
    v ≡ lo +ℤ pos (get_or tuple i 0) → take (i + 1) (set shown i v) ≡ shown_tuple lo (take (i + 1) tuple)
shown_more lo shown tuple i v h low e is =
    take_more_set shown i v h ∙ ap (λ xs. xs ++ v ∷ []) e ∙ ap (λ x. shown_tuple lo (take i tuple) ++ x ∷ []) is ∙ sym (map_more (λ x. lo +ℤ pos x) tuple i 0 low)

-- one place more, where no part leaves 64 bits
pub truths_more : (f : Truth) (a : ℕ) (lo : ℤ) (d at next : ℕ) (truths new : List Bool) (b : Bool) (o : Option Bool) → at < d ^ a → next ≡ at + 1 → AreTruthsTo f a lo d at truths →
    new ≡ truths ++ b ∷ [] → o ≡ (if is_too_big (shown_tuple lo (tuple_at d a at)) f then None else Some (is_true (shown_tuple lo (tuple_at d a at)) f)) → o ≡ Some b → AreTruthsTo f a lo d next new
truths_more f a lo d at next truths new b o h more so_far put e some =
    let here = some_is _ _ b o e some in
    subst (λ k. AreTruthsTo f a lo d k new) (sym more) (record {
      truth = put ∙ relation_of-more f a lo d at truths b h so_far.truth here.1;
      fits = passed_more (λ k. is_too_big (shown_tuple lo (tuple_at d a k)) f) at so_far.fits here.0;
    })

some_left : (row p d : ℕ) → row < p * d → 0 < p
some_left row zero d h = absurd (omega arith)
some_left row (suc p) d h = omega arith

regrouped_row : (q p d r x : ℕ) → (q * p + r) * d + x ≡ q * (p * d) + (r * d + x)
regrouped_row q p d r x = omega arith

-- the tuple of a place: that of its row, and a last value
pub tuple_at-row : (d a row x : ℕ) → x < d → row < d ^ a → tuple_at d (suc a) (row * d + x) ≡ tuple_at d a row ++ x ∷ []
tuple_at-row d zero row x low h =
    let none : row ≡ 0 = omega (arith, pow-zero d) in
    let one : d ^ 0 ≡ 1 = pow-zero d in
    let at : row * d + x ≡ x = ap (λ r. r * d + x) none ∙ (let e : 0 * d + x ≡ x = omega arith in e) in
    ap (λ y. y ∷ []) (ap (λ p. (row * d + x) / p) one ∙ div-one (row * d + x) ∙ at)
tuple_at-row d (suc a) row x low h =
    let size : d ^ suc a ≡ d ^ a * d = pow-suc d a in
    let some : 0 < d ^ a = some_left row (d ^ a) d (subst (λ p. row < p) size h) in
    let q : ℕ = row / d ^ a in
    let r : ℕ = row % d ^ a in
    let offset : r < d ^ a = mod_below row (d ^ a) some in
    let below : r * d + x < d ^ a * d = omega (arith, mul-add-lt r d x (d ^ a) offset low) in
    let split : row * d + x ≡ q * (d ^ a * d) + (r * d + x) = ap (λ k. k * d + x) (sym (div-add-mod' row (d ^ a))) ∙ regrouped_row q (d ^ a) d r x in
    ap (λ p. ((row * d + x) / p) ∷ tuple_at d (suc a) ((row * d + x) % p)) size
    ∙ ap (λ k. (k / (d ^ a * d)) ∷ tuple_at d (suc a) (k % (d ^ a * d))) split
    ∙ (λ i. div-mul-add q (d ^ a * d) (r * d + x) below i ∷ tuple_at d (suc a) (mod-mul-add q (d ^ a * d) (r * d + x) below i))
    ∙ ap (λ t. q ∷ t) (tuple_at-row d a r x low offset)

-- the shown values of a row, and a last one
pub shown_row : (lo : ℤ) (shown : List ℤ) (d a b row x : ℕ) (v : ℤ) → b ≡ suc a → a < length shown → x < d → row < d ^ a → take a shown ≡ shown_tuple lo (tuple_at d a row) →
    v ≡ lo +ℤ pos x → take b (set shown a v) ≡ shown_tuple lo (tuple_at d b (row * d + x))
shown_row lo shown d a b row x v size h low within e is =
    let more : b ≡ a + 1 = omega arith in
    ap (λ k. take k (set shown a v)) more ∙ take_more_set shown a v h ∙ ap (λ xs. xs ++ v ∷ []) e ∙ ap (λ y. shown_tuple lo (tuple_at d a row) ++ y ∷ []) is
    ∙ sym (map-append (λ y. lo +ℤ pos y) (tuple_at d a row) (x ∷ []))
    ∙ ap (shown_tuple lo) (sym (tuple_at-row d a row x low within) ∙ ap (λ k. tuple_at d k (row * d + x)) (sym size))

pub row_within : (d a b row x : ℕ) → b ≡ suc a → x < d → row < d ^ a → row * d + x < d ^ b
row_within d a b row x size low h =
    let e : d ^ b ≡ d ^ a * d = ap (λ k. d ^ k) size ∙ pow-suc d a in
    omega (arith, e, mul-add-lt row d x (d ^ a) h low)

pub all_rows : (d a b row : ℕ) → b ≡ suc a → row ≡ d ^ a → row * d ≡ d ^ b
all_rows d a b row size e = ap (λ k. k * d) e ∙ sym (ap (λ k. d ^ k) size ∙ pow-suc d a)

-- as many places more as these truths are known of
pub truths_many : (f : Truth) (a : ℕ) (lo : ℤ) (d at : ℕ) (truths known : List Bool) (n : ℕ) → at + n ≤ d ^ a → n ≤ length known → AreTruthsTo f a lo d at truths →
    ((k : ℕ) → k < n → (if is_too_big (shown_tuple lo (tuple_at d a (at + k))) f then None else Some (is_true (shown_tuple lo (tuple_at d a (at + k))) f)) ≡ Some (get_or known k false)) →
    AreTruthsTo f a lo d (at + n) (truths ++ take n known)
truths_many f a lo d at truths known zero room size so_far are =
    let none : at ≡ at + 0 = omega arith in
    subst (λ k. AreTruthsTo f a lo d k (truths ++ [])) none (subst (λ xs. AreTruthsTo f a lo d at xs) (sym (append-nil truths)) so_far)
truths_many f a lo d at truths known (suc n) room size so_far are =
    let low : n < length known = omega arith in
    let within : at + n < d ^ a = omega arith in
    let next : at + suc n ≡ (at + n) + 1 = omega arith in
    truths_more f a lo d (at + n) (at + suc n) (truths ++ take n known) (truths ++ take (suc n) known) (get_or known n false) _ within next
    (truths_many f a lo d at truths known n (omega arith) (omega arith) so_far (λ k h. are k (omega arith)))
    (ap (λ xs. truths ++ xs) (take-suc known n false low) ∙ sym (append_assoc truths (take n known) (get_or known n false ∷ [])))
    refl (are n (omega arith))

-- the shown values of a tuple of a batch
pub shown_batch : (lo : ℤ) (shown : List ℤ) (tuples : List (List ℤ)) (d a b row first k n : ℕ) → b ≡ suc a → n ≡ b → a < length shown → first + k < d → row < d ^ a →
    take a shown ≡ shown_tuple lo (tuple_at d a row) → numbers_at k tuples ≡ set shown a (lo +ℤ pos (first + k)) → numbers_at k (take n tuples) ≡ shown_tuple lo (tuple_at d b (row * d + first + k))
shown_batch lo shown tuples d a b row first k n size all h low within e is =
    let at : row * d + (first + k) ≡ row * d + first + k = omega arith in
    sym (take-map (λ row. slice_index_or row k (pos 0)) n tuples) ∙ ap (λ i. take i (numbers_at k tuples)) all ∙ ap (take b) is
    ∙ shown_row lo shown d a b row (first + k) (lo +ℤ pos (first + k)) size h low within e refl
    ∙ ap (λ i. shown_tuple lo (tuple_at d b i)) at

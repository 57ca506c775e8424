-- Places and tuples: each place below d^a has one tuple of a values below d, and each such tuple has one place.
use Rattle.rel_table.proofs.Prelude.{◌≡◌, ℕ, zero, suc, ◌+◌, ◌-◌, ◌*◌, ◌/◌, ◌%◌, ◌^◌, ◌<◌, ◌≤◌, List, [], ◌∷◌, ◌++◌, length, get_or, map, take, set, append_assoc, refl, sym, ◌∙◌, ap, arith, pow-suc, All, fold, flat_map, range_with_len, pow-zero, mul-div_cancel, pow-le-pow_right, pow-le-pow_left, div-add-mod', div-mul-add, mod-mul-add, div_below, mod_below, length-append, length-map, get_or_append_left, get_or-append_right, get_or-map, take_more_set, All-nil, All-cons, All-head, All-tail, place, tuples, tuple_at}

-- ---- how many tuples there are

length-blocks : (f : ℕ → List (List ℕ)) (m s n : ℕ) → ((x : ℕ) → length (f x) ≡ m) → length (flat_map f (range_with_len s n)) ≡ n * m
length-blocks f m s zero h = omega arith
length-blocks f m s (suc n) h =
    let more = length-blocks f m (s + 1) n h in
    let one = h s in
    omega (arith, length-append (f s) (flat_map f (range_with_len (s + 1) n)), more, one)

pub length-tuples : (d a : ℕ) → length (tuples d a) ≡ d ^ a
length-tuples d zero = sym (pow-zero d)
length-tuples d (suc a) =
    length-blocks (λ x. map (λ tuple. x ∷ tuple) (tuples d a)) (d ^ a) 0 d (λ x. length-map (tuples d a) (λ tuple. x ∷ tuple) ∙ length-tuples d a)
    ∙ (let e : d * d ^ a ≡ d ^ suc a = omega (arith, pow-suc d a) in e)

-- ---- the tuple at a place

get_or-blocks : (f : ℕ → List (List ℕ)) (m s n i j : ℕ) → ((x : ℕ) → length (f x) ≡ m) → i < n → j < m → get_or (flat_map f (range_with_len s n)) (i * m + j) [] ≡ get_or (f (s + i)) j []
get_or-blocks f m s zero i j h low below = absurd (omega arith)
get_or-blocks f m s (suc n) zero j h low below =
    let one = h s in
    ap (λ k. get_or (f s ++ flat_map f (range_with_len (s + 1) n)) k []) (let e : 0 * m + j ≡ j = omega arith in e)
    ∙ get_or_append_left (f s) (flat_map f (range_with_len (s + 1) n)) [] j (omega arith)
    ∙ ap (λ x. get_or (f x) j []) (let e : s ≡ s + 0 = omega arith in e)
get_or-blocks f m s (suc n) (suc i) j h low below =
    let e : suc i * m + j ≡ m + (i * m + j) = omega arith in
    ap (λ k. get_or (f s ++ flat_map f (range_with_len (s + 1) n)) k []) e
    ∙ get_or-append_right (f s) (flat_map f (range_with_len (s + 1) n)) m (m + (i * m + j)) [] (h s) (omega arith)
    ∙ ap (λ k. get_or (flat_map f (range_with_len (s + 1) n)) k []) (let g : (m + (i * m + j)) - m ≡ i * m + j = omega arith in g)
    ∙ get_or-blocks f m (s + 1) n i j h (omega arith) below
    ∙ ap (λ x. get_or (f x) j []) (let g : (s + 1) + i ≡ s + suc i = omega arith in g)

positive : (m at d : ℕ) → at < m * d → 0 < d
positive m at zero h = omega arith
positive m at (suc d) h = omega arith

-- the tuples in table order are those of the places
pub get_or-tuples : (d a at : ℕ) → at < d ^ a → get_or (tuples d a) at [] ≡ tuple_at d a at
get_or-tuples d zero at h = let none : at ≡ 0 = omega (arith, pow-zero d) in ap (λ k. get_or ([] ∷ []) k []) none
get_or-tuples d (suc a) at h =
    let below : at < d * d ^ a = omega (arith, pow-suc d a) in
    let some : 0 < d ^ a = positive d at (d ^ a) below in
    let offset : at % d ^ a < d ^ a = mod_below at (d ^ a) some in
    ap (λ k. get_or (tuples d (suc a)) k []) (sym (div-add-mod' at (d ^ a)))
    ∙ get_or-blocks (λ x. map (λ tuple. x ∷ tuple) (tuples d a)) (d ^ a) 0 d (at / d ^ a) (at % d ^ a)
    (λ x. length-map (tuples d a) (λ tuple. x ∷ tuple) ∙ length-tuples d a) (div_below at (d ^ a) d some below) offset
    ∙ get_or-map (λ tuple. (0 + at / d ^ a) ∷ tuple) (tuples d a) (at % d ^ a) [] [] (omega (arith, offset, length-tuples d a))
    ∙ (λ i. (let e : 0 + at / d ^ a ≡ at / d ^ a = omega arith in e) i ∷ get_or-tuples d a (at % d ^ a) offset i)

pub length-tuple_at : (d a at : ℕ) → length (tuple_at d a at) ≡ a
length-tuple_at d zero at = refl
length-tuple_at d (suc a) at = ap suc (length-tuple_at d a (at % d ^ a))

pub tuple_at-below : (d a at : ℕ) → at < d ^ a → All (λ x. x < d) (tuple_at d a at)
tuple_at-below d zero at h = All-nil (λ x. x < d)
tuple_at-below d (suc a) at h =
    let below : at < d * d ^ a = omega (arith, pow-suc d a) in
    let some : 0 < d ^ a = positive d at (d ^ a) below in
    All-cons (λ x. x < d) _ _ (div_below at (d ^ a) d some below) (tuple_at-below d a (at % d ^ a) (mod_below at (d ^ a) some))

-- ---- the place of a tuple

regroup : (s d x p t : ℕ) → (s * d + x) * p + t ≡ s * (d * p) + (x * p + t)
regroup s d x p t = omega arith

place_from : (d s : ℕ) (tuple : List ℕ) → fold (λ at x. at * d + x) s tuple ≡ s * d ^ length tuple + place d tuple
place_from d s [] = let e : s ≡ s * 1 + 0 = omega arith in e ∙ ap (λ k. s * k + 0) (sym (pow-zero d))
place_from d s (x ∷ tuple) =
    place_from d (s * d + x) tuple
    ∙ regroup s d x (d ^ length tuple) (place d tuple)
    ∙ (λ i. s * (let e : d * d ^ length tuple ≡ d ^ suc (length tuple) = omega (arith, pow-suc d (length tuple)) in e) i + sym ((ap (λ k. fold (λ at y. at * d + y) k tuple) (let e : 0 * d + x ≡ x = omega arith in e)) ∙ place_from d x tuple) i)

pub place-cons : (d x : ℕ) (tuple : List ℕ) → place d (x ∷ tuple) ≡ x * d ^ length tuple + place d tuple
place-cons d x tuple = ap (λ k. fold (λ at y. at * d + y) k tuple) (let e : 0 * d + x ≡ x = omega arith in e) ∙ place_from d x tuple

step_below : (x d p t : ℕ) → x < d → t < p → x * p + t < d * p
step_below zero (suc d) p t low below = omega arith
step_below zero zero p t low below = absurd (omega arith)
step_below (suc x) zero p t low below = absurd (omega arith)
step_below (suc x) (suc d) p t low below = let more = step_below x d p t (omega arith) below in omega (arith, more)

pub place-below : (d : ℕ) (tuple : List ℕ) → All (λ x. x < d) tuple → place d tuple < d ^ length tuple
place-below d [] h = omega (arith, pow-zero d)
place-below d (x ∷ tuple) h =
    let more = place-below d tuple (All-tail (λ y. y < d) x tuple h) in
    let low = All-head (λ y. y < d) x tuple h in
    let step = step_below x d (d ^ length tuple) (place d tuple) low more in
    omega (arith, step, place-cons d x tuple, pow-suc d (length tuple))

pub place-tuple_at : (d a at : ℕ) → at < d ^ a → place d (tuple_at d a at) ≡ at
place-tuple_at d zero at h = omega (arith, pow-zero d)
place-tuple_at d (suc a) at h =
    let below : at < d * d ^ a = omega (arith, pow-suc d a) in
    let some : 0 < d ^ a = positive d at (d ^ a) below in
    place-cons d (at / d ^ a) (tuple_at d a (at % d ^ a))
    ∙ (λ i. at / d ^ a * d ^ length-tuple_at d a (at % d ^ a) i + place-tuple_at d a (at % d ^ a) (mod_below at (d ^ a) some) i)
    ∙ div-add-mod' at (d ^ a)

pub tuple_at-place : (d : ℕ) (tuple : List ℕ) → All (λ x. x < d) tuple → tuple_at d (length tuple) (place d tuple) ≡ tuple
tuple_at-place d [] h = refl
tuple_at-place d (x ∷ tuple) h =
    let rest = All-tail (λ y. y < d) x tuple h in
    let below = place-below d tuple rest in
    ap (tuple_at d (suc (length tuple))) (place-cons d x tuple)
    ∙ (λ i. div-mul-add x (d ^ length tuple) (place d tuple) below i ∷ tuple_at d (length tuple) (mod-mul-add x (d ^ length tuple) (place d tuple) below i))
    ∙ ap (λ t. x ∷ t) (tuple_at-place d tuple rest)

-- ---- the values of a place, one after another

-- so many values are left after value i
left_after : (a i : ℕ) → i < a → a - i ≡ suc (a - (i + 1))
left_after a i h = omega arith

some_value : (d a i rest : ℕ) → i < a → rest < d ^ (a - i) → 0 < d
some_value zero a i rest h low = let none : zero ^ (a - i) ≡ 0 = ap (λ k. zero ^ k) (left_after a i h) ∙ pow-suc 0 (a - (i + 1)) ∙ (let e : 0 ^ (a - (i + 1)) * 0 ≡ 0 = omega arith in e) in absurd (omega (arith, none))
some_value (suc d) a i rest h low = omega arith

pub next_size : (d a i rest size : ℕ) → i < a → rest < d ^ (a - i) → size ≡ d ^ (a - i) → size / d ≡ d ^ (a - (i + 1))
next_size d a i rest size h low e =
    ap (λ k. k / d) (e ∙ ap (λ k. d ^ k) (left_after a i h) ∙ pow-suc d (a - (i + 1)))
    ∙ mul-div_cancel (d ^ (a - (i + 1))) (some_value d a i rest h low)

pub some_size : (d a i rest : ℕ) → i < a → rest < d ^ (a - i) → 0 < d ^ (a - (i + 1))
some_size d a i rest h low = positive d rest (d ^ (a - (i + 1))) (let e : d ^ (a - i) ≡ d ^ (a - (i + 1)) * d = ap (λ k. d ^ k) (left_after a i h) ∙ pow-suc d (a - (i + 1)) in omega (arith, e))

pub value_below : (d a i rest : ℕ) → i < a → rest < d ^ (a - i) → rest / d ^ (a - (i + 1)) < d
value_below d a i rest h low = div_below rest (d ^ (a - (i + 1))) d (some_size d a i rest h low) (let e : d ^ (a - i) ≡ d ^ (a - (i + 1)) * d = ap (λ k. d ^ k) (left_after a i h) ∙ pow-suc d (a - (i + 1)) in omega (arith, e))

-- what stands at a place, once its first i values were taken
pub taken_more : (d a i at rest : ℕ) (tuple : List ℕ) → i < a → i < length tuple → tuple_at d a at ≡ take i tuple ++ tuple_at d (a - i) rest →
    tuple_at d a at ≡ take (i + 1) (set tuple i (rest / d ^ (a - (i + 1)))) ++ tuple_at d (a - (i + 1)) (rest % d ^ (a - (i + 1)))
taken_more d a i at rest tuple h fits e =
    let value : ℕ = rest / d ^ (a - (i + 1)) in
    e ∙ ap (λ k. take i tuple ++ tuple_at d k rest) (left_after a i h)
    ∙ sym (append_assoc (take i tuple) (value ∷ []) (tuple_at d (a - (i + 1)) (rest % d ^ (a - (i + 1)))))
    ∙ ap (λ front. front ++ tuple_at d (a - (i + 1)) (rest % d ^ (a - (i + 1)))) (sym (take_more_set tuple i value fits))

pub small_power : (d a : ℕ) → d < 256 → a ≤ 4 → d ^ a < 2 ^ 32
small_power zero zero h low = omega (arith, pow-zero 0)
small_power zero (suc a) h low = omega (arith, pow-suc 0 a)
small_power (suc d) a h low =
    let one : suc d ^ a ≤ suc d ^ 4 = pow-le-pow_right (omega arith) low in
    let few : suc d ≤ 255 = omega arith in
    let two : suc d ^ 4 ≤ 255 ^ 4 = pow-le-pow_left few 4 in
    omega (arith, one, two)

-- Where a Boolean stands among all.
use Rattle.net_cnf.proofs.Prelude.{◌≡◌, ℕ, zero, suc, ◌+◌, ◌-◌, ◌<◌, ◌≤◌, ◌&&◌, Bool, false, List, ◌++◌, length, get_or, map, refl, sym, ◌∙◌, ap, arith, eqb, ◌⊎◌, inl, inr, flat_map, range_with_len, cases_eq, cases_lt, eq-eqb, ne_eqb, and_left, and_right, and_from, length-append, length-map, get_or_append_left, get_or-append_right, get_or-map, ext_get_or, length-range_with_len, get_or-map-range_with_len, position_or_len_is, Language, variable_count, values_of, Boolean, boolean, booleans_of, booleans, is_boolean, boolean_number}
use Rattle.net_cnf.proofs.Adding.{front, pieces_more}
use Rattle.net_cnf.proofs.Runs.{IsValue, first_of, size_of, values-run, nth_value, place_in}

-- ---- lists made of blocks

-- how much stands before a block
abbrev pub before : {X : Type 0} → (ℕ → List X) → ℕ → ℕ → ℕ
before f s i = length (flat_map f (range_with_len s i))

before_next : {X : Type 0} (f : ℕ → List X) (s i : ℕ) → before f s (suc i) ≡ length (f s) + before f (s + 1) i
before_next f s i = length-append (f s) (flat_map f (range_with_len (s + 1) i))

get_or-blocks : {X : Type 0} (f : ℕ → List X) (s n i j : ℕ) (e : X) → i < n → j < length (f (s + i)) → get_or (flat_map f (range_with_len s n)) (before f s i + j) e ≡ get_or (f (s + i)) j e
get_or-blocks f s zero i j e low below = absurd (omega arith)
get_or-blocks f s (suc n) zero j e low below =
    let here : s + 0 ≡ s = omega arith in
    let same = ap (λ x. length (f x)) here in
    ap (λ k. get_or (f s ++ flat_map f (range_with_len (s + 1) n)) k e) (let g : before f s 0 + j ≡ j = omega arith in g)
    ∙ get_or_append_left (f s) (flat_map f (range_with_len (s + 1) n)) e j (omega (arith, same, below))
    ∙ ap (λ x. get_or (f x) j e) (sym here)
get_or-blocks f s (suc n) (suc i) j e low below =
    let next : (s + 1) + i ≡ s + suc i = omega arith in
    let same = ap (λ x. length (f x)) next in
    let more = before_next f s i in
    ap (λ k. get_or (f s ++ flat_map f (range_with_len (s + 1) n)) k e) (let g : before f s (suc i) + j ≡ length (f s) + (before f (s + 1) i + j) = omega (arith, more) in g)
    ∙ get_or-append_right (f s) (flat_map f (range_with_len (s + 1) n)) (length (f s)) (length (f s) + (before f (s + 1) i + j)) e refl (omega arith)
    ∙ ap (λ k. get_or (flat_map f (range_with_len (s + 1) n)) k e) (let g : (length (f s) + (before f (s + 1) i + j)) - length (f s) ≡ before f (s + 1) i + j = omega arith in g)
    ∙ get_or-blocks f (s + 1) n i j e (omega arith) (omega (arith, same, below))
    ∙ ap (λ x. get_or (f x) j e) next

-- the place is in a block
record IsIn {X : Type 0} (f : ℕ → List X) (s n k : ℕ) : Type 0 where
  block : ℕ
  at : ℕ
  low : block < n
  within : at < length (f (s + block))
  is : k ≡ before f s block + at

in_block : {X : Type 0} (f : ℕ → List X) (s n k : ℕ) → k < before f s n → IsIn f s n k
in_block f s zero k low = absurd (omega arith)
in_block f s (suc n) k low = go (cases_lt k (length (f s))) (in_block f (s + 1) n (k - length (f s)))
  where
    go : (k < length (f s)) ⊎ (length (f s) ≤ k) → (k - length (f s) < before f (s + 1) n → IsIn f (s + 1) n (k - length (f s))) → IsIn f s (suc n) k
    go (inl inside) next = record {
      block = 0;
      at = k;
      low = omega arith;
      within = (let same = ap (λ x. length (f x)) (let e : s + 0 ≡ s = omega arith in e) in omega (arith, same, inside));
      is = omega arith;
    }
    go (inr past) next =
        let more = before_next f s n in
        let rest = next (omega (arith, more, past)) in
        let block = rest.block in
        let at = rest.at in
        let is = rest.is in
        let within = rest.within in
        let here = before_next f s block in
        let same = ap (λ x. length (f x)) (let e : (s + 1) + block ≡ s + suc block = omega arith in e) in
        record {
          block = suc block;
          at = at;
          low = (let less = rest.low in omega (arith, less));
          within = omega (arith, same, within);
          is = omega (arith, here, is, past);
        }

-- ---- the Booleans

-- how many stand before those of a variable
abbrev pub offset : Language → ℕ → ℕ
offset l v = before (booleans_of l) 0 v

pub length-values : (l : Language) (v : ℕ) → length (values_of l v) ≡ size_of l v
length-values l v = ap length (values-run l v) ∙ length-range_with_len (first_of l v) (size_of l v)

width : (l : Language) (v : ℕ) → length (booleans_of l v) ≡ size_of l v
width l v = length-map (values_of l v) (boolean v) ∙ length-values l v

-- those of a variable more
pub offset_more : (l : Language) (v d : ℕ) → d ≡ length (values_of l v) → offset l (v + 1) ≡ offset l v + d
offset_more l v d is =
    let wide = length-map (values_of l v) (boolean v) in
    ap length (pieces_more (booleans_of l) 0 v v (omega arith)) ∙ (let both = length-append (flat_map (booleans_of l) (range_with_len 0 v)) (booleans_of l v) in omega (arith, both, wide, is))

booleans-below : (l : Language) (v j : ℕ) → v < variable_count l → j < size_of l v → offset l v + j < length (booleans l)
booleans-below l v j low inside =
    let whole = front (booleans_of l) 0 v (variable_count l) v low (omega arith) in
    let wide = width l v in
    omega (arith, whole, wide, inside)

get_or-booleans : (l : Language) (v j : ℕ) (e : Boolean) → v < variable_count l → j < size_of l v → get_or (booleans l) (offset l v + j) e ≡ boolean v (first_of l v + j)
get_or-booleans l v j e low inside =
    let here : 0 + v ≡ v = omega arith in
    let wide = ap (λ w. length (booleans_of l w)) here ∙ width l v in
    get_or-blocks (booleans_of l) 0 (variable_count l) v j e low (omega (arith, wide, inside))
    ∙ ap (λ w. get_or (booleans_of l w) j e) here
    ∙ ap (λ xs. get_or (map (boolean v) xs) j e) (values-run l v)
    ∙ get_or-map-range_with_len (boolean v) (first_of l v) (size_of l v) j (first_of l v + j) e inside refl

-- the place of one
record Placed (l : Language) (k : ℕ) : Type 0 where
  variable : ℕ
  at : ℕ
  low : variable < variable_count l
  inside : at < size_of l variable
  is : k ≡ offset l variable + at

placed : (l : Language) (k : ℕ) → k < length (booleans l) → Placed l k
placed l k low =
    let found = in_block (booleans_of l) 0 (variable_count l) k low in
    let wide = ap (λ w. length (booleans_of l w)) (let e : 0 + found.block ≡ found.block = omega arith in e) ∙ width l found.block in
    let within = found.within in
    record { variable = found.block; at = found.at; low = found.low; inside = omega (arith, wide, within); is = found.is }

-- those before it are others
other : (l : Language) (v x : ℕ) (p : ℕ) (k : Placed l p) → p < offset l v + (x - first_of l v) → IsValue l v x → is_boolean (boolean v x) (boolean k.variable (first_of l k.variable + k.at)) ≡ false
other l v x p k less is = go (cases_eq k.variable v)
  where
    go : (k.variable ≡ v) ⊎ (k.variable ≡ v → ⊥) → (eqb k.variable v && eqb (first_of l k.variable + k.at) x) ≡ false
    go (inr apart) = and_left (eqb k.variable v) (eqb (first_of l k.variable + k.at) x) (ne_eqb k.variable v apart)
    go (inl same) =
        let from = is.from in
        let at = k.is in
        let begin = ap (offset l) same in
        let first = ap (first_of l) same in
        and_right (eqb k.variable v) (eqb (first_of l k.variable + k.at) x) (ne_eqb (first_of l k.variable + k.at) x (λ e. absurd (omega (arith, e, less, at, begin, first, from))))

pub number-is : (l : Language) (v x : ℕ) → IsValue l v x → boolean_number l (boolean v x) ≡ offset l v + (x - first_of l v) + 1
unfolding boolean_number
number-is l v x is =
    let inside : x - first_of l v < size_of l v = place_in l v x is in
    let below = booleans-below l v (x - first_of l v) is.variable inside in
    let from = is.from in
    ap (λ k. k + 1) (position_or_len_is (is_boolean (boolean v x)) (booleans l) (offset l v + (x - first_of l v)) (boolean v x) (omega (arith, below))
    (λ k less.
    let at = placed l k (omega (arith, less, below)) in
    ap (λ j. is_boolean (boolean v x) (get_or (booleans l) j (boolean v x))) at.is
    ∙ ap (is_boolean (boolean v x)) (get_or-booleans l at.variable at.at (boolean v x) at.low at.inside)
    ∙ other l v x k at less is)
    (λ within.
    ap (is_boolean (boolean v x)) (get_or-booleans l v (x - first_of l v) (boolean v x) is.variable inside)
    ∙ and_from (eqb v v) (eqb (first_of l v + (x - first_of l v)) x) (eq-eqb v v refl) (eq-eqb (first_of l v + (x - first_of l v)) x (omega (arith, from)))))

pub number_fits : (l : Language) (v x : ℕ) → IsValue l v x → (1 ≤ boolean_number l (boolean v x)) × (boolean_number l (boolean v x) - 1 < length (booleans l))
number_fits l v x is =
    let number = number-is l v x is in
    let below = booleans-below l v (x - first_of l v) is.variable (place_in l v x is) in
    (omega (arith, number), omega (arith, number, below))

-- ---- truth values by the numbers

place-is : (l : Language) (v x : ℕ) → IsValue l v x → boolean_number l (boolean v x) - 1 ≡ offset l v + (x - first_of l v)
place-is l v x is = let e = number-is l v x is in omega (arith, e)

-- the truth value of a Boolean, where each has that of a test
pub truth_of : (l : Language) (test : Boolean → Bool) (v x : ℕ) → IsValue l v x → get_or (map test (booleans l)) (boolean_number l (boolean v x) - 1) false ≡ test (boolean v x)
truth_of l test v x is =
    let inside = place_in l v x is in
    let from = is.from in
    ap (λ k. get_or (map test (booleans l)) k false) (place-is l v x is)
    ∙ get_or-map test (booleans l) (offset l v + (x - first_of l v)) (boolean v x) false (booleans-below l v (x - first_of l v) is.variable inside)
    ∙ ap test (get_or-booleans l v (x - first_of l v) (boolean v x) is.variable inside)
    ∙ ap (λ y. test (boolean v y)) (let e : first_of l v + (x - first_of l v) ≡ x = omega (arith, from) in e)

-- truth values of all Booleans are the same where those of each are
pub same_truths : (l : Language) (xs ys : List Bool) → length xs ≡ length (booleans l) → length ys ≡ length (booleans l) →
    ((v x : ℕ) → IsValue l v x → get_or xs (boolean_number l (boolean v x) - 1) false ≡ get_or ys (boolean_number l (boolean v x) - 1) false) → xs ≡ ys
same_truths l xs ys long also each =
    ext_get_or false xs ys (long ∙ sym also) (λ k inside.
    let at = placed l k (omega (arith, long, inside)) in
    let value = nth_value l at.variable at.at at.low at.inside in
    let is = at.is in
    let here : boolean_number l (boolean at.variable (first_of l at.variable + at.at)) - 1 ≡ k = (let e = place-is l at.variable (first_of l at.variable + at.at) value in omega (arith, e, is)) in
    ap (λ j. get_or xs j false) (sym here) ∙ each at.variable (first_of l at.variable + at.at) value ∙ ap (λ j. get_or ys j false) here)

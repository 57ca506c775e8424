-- The places of tuples that differ at one place.
use Rattle.propagators.proofs.Prelude.{◌≡◌, ℕ, zero, suc, ◌+◌, ◌-◌, ◌*◌, ◌^◌, ◌<◌, ◌≤◌, Bool, true, false, ◌&&◌, List, [], ◌∷◌, length, take, refl, sym, ◌∙◌, ap, subst, arith, inl, inr, ◌⊎◌, ◌≢◌, cases_eq, slice_index_or, slice_set, get_or-take, get_or-set_same, get_or-set_other, length-take, take_all, length-set, take-set-lt, All, has, pow-zero, pow-succ', pow-le-pow_right, get_or-map, length-map, fold, list_all, TruthTable, truth_at, Family, is_wanted, is_not_empty, sets_on, IsOnly, IsWithin, AreAlong, AreBelow, continues, firsts_on}
use Rattle.propagators.proofs.Visiting.{same_item}
use Rattle.std.proofs.Math.Nat.{mul-le-mul_left}
use Rattle.std.proofs.lemmas.List.{take-set}
use Rattle.propagators.proofs.Pruned.{has_head}
use Rattle.propagators.proofs.Replacing.{all_full, set_at}
use Rattle.rel_table.specs.Relation.{place}
use Rattle.rel_table.proofs.PlaceLemmas.{place-cons, place-below}

-- a tuple with another value at a place stands so many steps after the one with the first value there
pub place_at : (d x : ℕ) (tuple : List ℕ) (p : ℕ) → p < length tuple → place d (slice_set tuple p x) ≡ place d (slice_set tuple p 0) + x * d ^ (length tuple - 1 - p)
place_at d x [] p low = absurd (omega arith)
place_at d x (y ∷ tuple) zero low =
    let same : suc (length tuple) - 1 - 0 ≡ length tuple = omega arith in
    omega (arith, place-cons d x tuple, place-cons d 0 tuple, ap (λ k. x * d ^ k) same)
place_at d x (y ∷ tuple) (suc p) low =
    let same : suc (length tuple) - 1 - suc p ≡ length tuple - 1 - p = omega arith in
    omega (arith, place-cons d y (slice_set tuple p x), place-cons d y (slice_set tuple p 0), ap (λ k. y * d ^ k) (length-set tuple p x), ap (λ k. y * d ^ k) (length-set tuple p 0), place_at d x tuple p (omega arith), ap (λ k. x * d ^ k) same)

-- the tuple's values are below d
pub values_below : (d n p x : ℕ) (others : List ℕ) → p < n → n ≤ length others → x < d → ((j : ℕ) → j < n → slice_index_or others j 0 < d) → All (λ v. v < d) (take n (slice_set others p x))
values_below d n p x others low wide small below = λ k e less.
    (let under : k < n = omega (arith, length-take n (slice_set others p x), length-set others p x) in
    subst (λ v. v < d) (sym (get_or-take n (slice_set others p x) k e under)) (go k e under (cases_eq k p)))
  where
    go : (k e : ℕ) → k < n → (k ≡ p) ⊎ (k ≢ p) → slice_index_or (slice_set others p x) k e < d
    go k e under (inl same) = subst (λ v. v < d) (sym (ap (λ j. slice_index_or (slice_set others p x) j e) same ∙ get_or-set_same others p x e (omega arith))) small
    go k e under (inr other) =
        subst (λ v. v < d) (sym (get_or-set_other others p k x e other ∙ same_item others k e 0 (omega arith))) (below k under)

-- one value of each variable of a scope
pub within_on : (f : Family) (scope others : List ℕ) (n : ℕ) → n ≡ length scope → n ≤ length others → ((j : ℕ) → j < n → has (slice_index_or f (slice_index_or scope j 0) []) (slice_index_or others j 0) ≡ true) → IsWithin (sets_on f scope) (take n others)
within_on f [] others zero long wide there = tt
within_on f [] others (suc n) long wide there = absurd (omega arith)
within_on f (v ∷ scope) others zero long wide there = absurd (omega arith)
within_on f (v ∷ scope) [] (suc n) long wide there = absurd (omega arith)
within_on f (v ∷ scope) (x ∷ others) (suc n) long wide there = (there 0 (omega arith), within_on f scope others n (omega arith) (omega arith) (λ j low. there (suc j) (omega arith)))

module _ (d : ℕ) (others : List ℕ) (n p first step : ℕ) (low : p < n) (wide : n ≤ length others) (at : first ≡ place d (take n (slice_set others p 0))) (wider : step ≡ d ^ (n - 1 - p)) where
  long : length (take n others) ≡ n
  long = omega (arith, length-take n others)

  -- where the tuple with this value stands
  pub stands : (x : ℕ) → first + x * step ≡ place d (slice_set (take n others) p x)
  stands x =
      let exponent : length (take n others) - 1 - p ≡ n - 1 - p = omega (arith, long) in
      omega (arith, place_at d x (take n others) p (omega (arith, long)), at, ap (place d) (take-set-lt n others p 0 low), ap (λ k. x * k) wider, ap (λ k. x * d ^ k) exponent)

  -- it stands in a table of all tuples
  pub stands_below : (x : ℕ) → x < d → ((j : ℕ) → j < n → slice_index_or others j 0 < d) → first + x * step < d ^ n
  stands_below x small below =
      let tuple = take n (slice_set others p x) in
      let under = place-below d tuple (values_below d n p x others low wide small below) in
      let size : length tuple ≡ n = omega (arith, length-take n (slice_set others p x), length-set others p x) in
      omega (arith, stands x, ap (place d) (take-set-lt n others p x low), under, ap (λ k. d ^ k) size)

-- what a table says at these places goes along
pub along_steps : (table : TruthTable) (holding : Bool) (sets : List (List ℕ)) (others : List ℕ) (n p first step : ℕ) (found : List ℕ) → p < n → n ≤ length others → first ≡ place table.value_count (take n (slice_set others p 0)) → step ≡ table.value_count ^ (n - 1 - p) → IsWithin sets (take n others) →
    ((x : ℕ) → has found x ≡ (has (slice_index_or sets p []) x && is_wanted holding (truth_at table (first + x * step)))) → AreAlong sets (continues table holding 0) p found
along_steps table holding sets others n p first step found low wide at wider within goes = record {
  others = take n others;
  within = within;
  goes = λ x. goes x ∙ ap (λ k. has (slice_index_or sets p []) x && is_wanted holding (truth_at table k)) (stands table.value_count others n p first step low wide at wider x);
}

-- what a row says is what a table says
pub same_where : (s a b : Bool) → (s ≡ true → a ≡ b) → (s && a) ≡ (s && b)
same_where true a b h = h refl
same_where false a b h = refl

-- the last place has steps of one
pub last_step : (d n p : ℕ) → p + 1 ≡ n → 1 ≡ d ^ (n - 1 - p)
last_step d n p last = sym (ap (λ k. d ^ k) (let e : n - 1 - p ≡ 0 = omega arith in e) ∙ pow-zero d)

-- ---- the first values of a scope

step : (d a : ℕ) (xs : List ℕ) (j : ℕ) → j < length xs → fold (λ at x. at * d + x) a (take (suc j) xs) ≡ fold (λ at x. at * d + x) a (take j xs) * d + slice_index_or xs j 0
step d a [] j low = absurd (omega arith)
step d a (x ∷ xs) zero low = refl
step d a (x ∷ xs) (suc j) low = step d (a * d + x) xs j (omega arith)

-- one value more
pub place_next : (d : ℕ) (xs : List ℕ) (j : ℕ) → j < length xs → place d (take (j + 1) xs) ≡ place d (take j xs) * d + slice_index_or xs j 0
place_next d xs j low = ap (λ k. place d (take k xs)) (let e : j + 1 ≡ suc j = omega arith in e) ∙ step d 0 xs j low

pub length-firsts : (f : Family) (scope : List ℕ) → length (firsts_on f scope) ≡ length scope
length-firsts f scope = length-map scope (λ v. slice_index_or (slice_index_or f v []) 0 0)

first_at : (f : Family) (scope : List ℕ) (j : ℕ) → j < length scope → slice_index_or (firsts_on f scope) j 0 ≡ slice_index_or (slice_index_or f (slice_index_or scope j 0) []) 0 0
first_at f scope j low = get_or-map (λ (v : ℕ). slice_index_or (slice_index_or f v []) 0 0) scope j 0 0 low

first_member : (xs : List ℕ) → is_not_empty xs ≡ true → has xs (slice_index_or xs 0 0) ≡ true
first_member [] some = cc
first_member (x ∷ xs) some = has_head x xs

-- they are of the sets
pub firsts_there : (f : Family) (scope : List ℕ) → All (λ v. v < length f) scope → list_all is_not_empty f ≡ true → (j : ℕ) → j < length scope → has (slice_index_or f (slice_index_or scope j 0) []) (slice_index_or (firsts_on f scope) j 0) ≡ true
firsts_there f scope known full j low =
    ap (has (slice_index_or f (slice_index_or scope j 0) [])) (first_at f scope j low)
    ∙ first_member (slice_index_or f (slice_index_or scope j 0) []) (all_full f full (slice_index_or scope j 0) (known j 0 low))

-- that of a variable with one value is this one
pub first_only : (f : Family) (scope : List ℕ) (j x : ℕ) → All (λ v. v < length f) scope → list_all is_not_empty f ≡ true → j < length scope → IsOnly (slice_index_or f (slice_index_or scope j 0) []) x → slice_index_or (firsts_on f scope) j 0 ≡ x
first_only f scope j x known full low only = only.alone (slice_index_or (firsts_on f scope) j 0) (firsts_there f scope known full j low)

-- the place where one more value leads is small
pub small_next : (at d x j : ℕ) → at < 64 ^ j → d ≤ 64 → x < d → at * d + x < 64 ^ (j + 1)
small_next at d x j low small below =
    let power : 64 ^ (j + 1) ≡ 64 * 64 ^ j = ap (λ k. 64 ^ k) (let e : j + 1 ≡ suc j = omega arith in e) ∙ pow-succ' 64 j in
    let more : at * d ≤ at * 64 = mul-le-mul_left at small in
    omega (arith, power, more)

-- it fits into a word
pub small_fits : (at j : ℕ) → at < 64 ^ j → j ≤ 4 → at < 16777217
small_fits at j low few = (let more : 64 ^ j ≤ 64 ^ 4 = pow-le-pow_right (omega arith) few in omega (arith, more))

-- where one value more leads
pub next_at : (d at dr xr j : ℕ) (xs : List ℕ) → j < length xs → at ≡ place d (take j xs) → dr ≡ d → xr ≡ slice_index_or xs j 0 → at * dr + xr ≡ place d (take (j + 1) xs)
next_at d at dr xr j xs low is same value = (λ i. is i * same i + value i) ∙ sym (place_next d xs j low)

pub next_small : (at d dr x xr j : ℕ) → at < 64 ^ j → d ≤ 64 → x < d → dr ≡ d → xr ≡ x → at * dr + xr < 64 ^ (j + 1)
next_small at d dr x xr j low small below same value = subst (λ (k : ℕ). k < 64 ^ (j + 1)) (sym (λ i. at * same i + value i)) (small_next at d x j low small below)

pub product_fits : (at dr j : ℕ) → at < 64 ^ j → j ≤ 4 → dr ≤ 64 → at * dr < 2 ^ 31
product_fits at dr j low few small =
    let fits = small_fits at j low few in
    let more : at * dr ≤ at * 64 = mul-le-mul_left at small in
    omega arith

-- where a 0 leads
pub opened : (d at dr p : ℕ) (xs : List ℕ) → p < length xs → at ≡ place d (take p xs) → dr ≡ d → at * dr ≡ place d (take (p + 1) (slice_set xs p 0))
opened d at dr p xs low is same =
    let front : take p (slice_set xs p 0) ≡ take p xs = take-set xs p 0 in
    let here : slice_index_or (slice_set xs p 0) p 0 ≡ 0 = get_or-set_same xs p 0 0 low in
    (λ i. is i * same i)
    ∙ sym (place_next d (slice_set xs p 0) p (omega (arith, length-set xs p 0)) ∙ (λ i. place d (front i) * d + here i) ∙ (let e : place d (take p xs) * d + 0 ≡ place d (take p xs) * d = omega arith in e))

-- ---- what a table says along a scope

module _ (table : TruthTable) (holding : Bool) (f : Family) (scope : List ℕ) (p first step : ℕ) (known : All (λ v. v < length f) scope) (full : list_all is_not_empty f ≡ true) (low : p < length scope) (at : first ≡ place table.value_count (slice_set (firsts_on f scope) p 0)) (wider : step ≡ table.value_count ^ (length scope - 1 - p)) where
  wide : length scope ≤ length (firsts_on f scope)
  wide = omega (arith, length-firsts f scope)

  at_all : first ≡ place table.value_count (take (length scope) (slice_set (firsts_on f scope) p 0))
  at_all = at ∙ ap (place table.value_count) (sym (take_all (length scope) (slice_set (firsts_on f scope) p 0) (omega (arith, length-set (firsts_on f scope) p 0, length-firsts f scope))))

  -- it has a truth value at each of these places
  pub reads_below : ((v : ℕ) → AreBelow table.value_count (slice_index_or f v [])) → (x : ℕ) → x < table.value_count → first + x * step < table.value_count ^ length scope
  reads_below below x small =
      stands_below table.value_count (firsts_on f scope) (length scope) p first step low wide at_all wider x small
      (λ j under. below (slice_index_or scope j 0) (slice_index_or (firsts_on f scope) j 0) (firsts_there f scope known full j under))

  pub reads_along : (found : List ℕ) → ((x : ℕ) → has found x ≡ (has (slice_index_or f (slice_index_or scope p 0) []) x && is_wanted holding (truth_at table (first + x * step)))) → AreAlong (sets_on f scope) (continues table holding 0) p found
  reads_along found goes =
      along_steps table holding (sets_on f scope) (firsts_on f scope) (length scope) p first step found low wide at_all wider
      (within_on f scope (firsts_on f scope) (length scope) refl wide (firsts_there f scope known full))
      (λ x. goes x ∙ ap (λ xs. has xs x && is_wanted holding (truth_at table (first + x * step))) (sym (set_at f scope p low)))

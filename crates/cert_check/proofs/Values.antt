-- The first items that the values of a variable violate, one item after another.
use Rattle.cert_check.proofs.Prelude.{◌≡◌, ◌⊎◌, ℕ, ◌+◌, ◌*◌, ◌%◌, ◌<◌, ◌≤◌, ◌^◌, Bool, true, false, cond, ◌&&◌, ◌||◌, not, List, [], ◌∷◌, ◌++◌, length, take, drop, get_or, set, Some, None, refl, sym, ◌∙◌, ap, arith, inl, inr, ◌==◌, find, bit_at-zero, and_parts, cases_eq, eq-eqb, ne_eqb, bit_or, is_one-or, get_or-set_other, get_or-set_same, take_more, take_all, slice_index_or, slice_set, nat_le, is_one, slice_get-get_or, option_map_or, Assignment, Candidate, Language, IsLanguage, variable_count, violates, violates_item, IsRangedValue}
use Rattle.std.proofs.Math.Bool.{and-true, or-true}
use Rattle.std.proofs.lemmas.Bool.Decides.{nat_tests}
use Rattle.std.proofs.lemmas.List.{take-append-drop}
use Rattle.std.proofs.lemmas.Nat.{one_shl, pow_below}
use Rattle.std.specs.Prelude.{bit_and}
use Rattle.std.specs.Int.{bit_not, w64}
use Rattle.assign.specs.SetLemmas.{is_one-pow}
use Rattle.assign.proofs.Masks.{is_one-and}
use Rattle.assign.proofs.Ones.{is_one-and_not}
use Rattle.language.proofs.ByNames.{IsMaskOf}

-- ---- the values of a run, as a mask

-- the values from one on that pass a test
abbrev pub passing : ℕ → (ℕ → Bool) → ℕ → Bool
passing first test x = nat_le first x && test x

pub none_passing : (first : ℕ) (test : ℕ → Bool) → IsMaskOf (passing first test) first 0
none_passing first test = record {
  low = λ k h. ap (λ x. x == 1) (bit_at-zero k) ∙ sym (ap (λ b. b && test k) (let out : nat_le first k ≡ false = grind (arith, nat_tests) in out));
  high = λ k h. ap (λ x. x == 1) (bit_at-zero k);
}

pub passing_at : (first : ℕ) (test : ℕ → Bool) (x : ℕ) → first ≤ x → test x ≡ passing first test x
passing_at first test x past = sym (ap (λ b. b && test x) (let within : nat_le first x ≡ true = grind (arith, nat_tests) in within))

-- one value more of a run
pub run_more : (values first x : ℕ) → x < 64 → ((y : ℕ) → first ≤ y → y < x → is_one values y ≡ true) → (y : ℕ) → first ≤ y → y < x + 1 → is_one (bit_or values (1 * 2 ^ x % 2 ^ 64)) y ≡ true
run_more values first x small so_far y from below = is_one-or values (1 * 2 ^ x % 2 ^ 64) y ∙ go (cases_eq y x)
  where
    go : (y ≡ x) ⊎ (y ≡ x → ⊥) → (is_one values y || is_one (1 * 2 ^ x % 2 ^ 64) y) ≡ true
    go (inl same) = ap (λ b. is_one values y || b) (ap (λ m. is_one m y) (one_shl x 64 small) ∙ is_one-pow x y ∙ eq-eqb x y (sym same)) ∙ or-true (is_one values y)
    go (inr other) = ap (λ b. b || is_one (1 * 2 ^ x % 2 ^ 64) y) (so_far y from (omega arith))

-- ---- the numbers beside values

-- the numbers are written beside those values that aren't left
pub record IsPutSoFar (values left i : ℕ) (before now : List ℕ) : Type 0 where
  pub among : (x : ℕ) → x < 64 → is_one left x ≡ true → is_one values x ≡ true
  pub put : (x : ℕ) → x < 64 → is_one left x ≡ false → slice_index_or now x 0 ≡ cond (is_one values x) i (slice_index_or before x 0)

pub put_begins : (values i : ℕ) (before : List ℕ) → IsPutSoFar values values i before before
put_begins values i before = record {
  among = λ x low is. is;
  put = λ x low none. sym (ap (λ b. cond b i (slice_index_or before x 0)) none);
}

pub put_more : (values left y i : ℕ) (before now : List ℕ) → IsPutSoFar values left i before now → length now ≡ 64 → y < 64 → is_one left y ≡ true →
    IsPutSoFar values (bit_and left (bit_not w64 (2 ^ y))) i before (set now y i)
put_more values left y i before now so_far size low here = record {
  among = λ x small is. so_far.among x small (and_parts (is_one left x) _ (sym (rest x small) ∙ is)).0;
  put = λ x small none. at x small none (cases_eq x y);
}
  where
    rest : (x : ℕ) → x < 64 → is_one (bit_and left (bit_not w64 (2 ^ y))) x ≡ (is_one left x && not (y == x))
    rest x small = is_one-and_not left (2 ^ y) x (pow_below y 64 low) small ∙ ap (λ b. is_one left x && not b) (is_one-pow y x)

    at : (x : ℕ) → x < 64 → is_one (bit_and left (bit_not w64 (2 ^ y))) x ≡ false → (x ≡ y) ⊎ (x ≡ y → ⊥) → slice_index_or (set now y i) x 0 ≡ cond (is_one values x) i (slice_index_or before x 0)
    at x small none (inl same) =
        ap (λ k. slice_index_or (set now y i) k 0) same ∙ get_or-set_same now y i 0 (omega (arith, low, size))
        ∙ sym (ap (λ b. cond b i (slice_index_or before x 0)) (ap (is_one values) same ∙ so_far.among y low here))
    at x small none (inr other) =
        get_or-set_other now y x i 0 other
        ∙ so_far.put x small (sym (and-true (is_one left x)) ∙ ap (λ b. is_one left x && not b) (sym (ne_eqb y x (λ e. other (sym e)))) ∙ sym (rest x small) ∙ none)

pub all_put : (values left i : ℕ) (before now : List ℕ) → IsPutSoFar values left i before now → left ≡ 0 → (x : ℕ) → x < 64 → slice_index_or now x 0 ≡ cond (is_one values x) i (slice_index_or before x 0)
all_put values left i before now so_far none x low = so_far.put x low (ap (λ m. is_one m x) none ∙ ap (λ b. b == 1) (bit_at-zero x))

-- ---- the first that passes, with one more

find_none : (p : ℕ → Bool) (xs : List ℕ) (y : ℕ) → find p xs ≡ None → find p (xs ++ y ∷ []) ≡ cond (p y) (Some y) None
find_none p [] y none = refl
find_none p (x ∷ xs) y none = go (p x) none (find_none p xs y)
  where
    go : (b : Bool) → cond b (Some x) (find p xs) ≡ None → (find p xs ≡ None → find p (xs ++ y ∷ []) ≡ cond (p y) (Some y) None) → cond b (Some x) (find p (xs ++ y ∷ [])) ≡ cond (p y) (Some y) None
    go true bad rest = absurd (let no : ⊥ = cc in no)
    go false off rest = rest off

find_some : (p : ℕ → Bool) (xs ys : List ℕ) (z : ℕ) → find p xs ≡ Some z → find p (xs ++ ys) ≡ Some z
find_some p [] ys z some = absurd (let no : ⊥ = cc in no)
find_some p (x ∷ xs) ys z some = go (p x) some (find_some p xs ys z)
  where
    go : (b : Bool) → cond b (Some x) (find p xs) ≡ Some z → (find p xs ≡ Some z → find p (xs ++ ys) ≡ Some z) → cond b (Some x) (find p (xs ++ ys)) ≡ Some z
    go true here rest = here
    go false later rest = rest later

-- ---- the items of a row, one after another

module _ (l : Language) (network : List Candidate) (v : ℕ) (e : Assignment) (row : List ℕ) where
  abbrev violated : ℕ → ℕ → Bool
  violated x = violates_item l network (slice_set e v (Some x))

  -- of the first k items the first one that each value violates, unless it is free
  pub record IsFoundSoFar (k free : ℕ) (items : List ℕ) : Type 0 where
    pub each : (x : ℕ) → IsRangedValue l v x → cond (is_one free x) None (Some (slice_index_or items x 0)) ≡ find (violates_item l network (slice_set e v (Some x))) (take k row)

  pub found_begins : (free : ℕ) (items : List ℕ) → ((x : ℕ) → IsRangedValue l v x → is_one free x ≡ true) → IsFoundSoFar 0 free items
  found_begins free items all = record { each = λ x is. ap (λ b. cond b None (Some (slice_index_or items x 0))) (all x is) }

  pub found_more : (k free values found : ℕ) (items now : List ℕ) → IsFoundSoFar k free items → k < length row → found ≡ bit_and values free → found < 2 ^ 64 →
      ((x : ℕ) → IsRangedValue l v x → x < 64) → ((x : ℕ) → IsRangedValue l v x → is_one values x ≡ violated x (get_or row k 0)) →
      ((x : ℕ) → x < 64 → slice_index_or now x 0 ≡ cond (is_one found x) (get_or row k 0) (slice_index_or items x 0)) → IsFoundSoFar (k + 1) (bit_and free (bit_not w64 found)) now
  found_more k free values found items now so_far low is fits small tells put = record { each = more }
    where
      i : ℕ
      i = get_or row k 0

      more : (x : ℕ) → IsRangedValue l v x → cond (is_one (bit_and free (bit_not w64 found)) x) None (Some (slice_index_or now x 0)) ≡ find (violated x) (take (k + 1) row)
      more x at =
          (λ j. cond (bit j) None (Some (number j)))
          ∙ go (is_one free x) (violated x i) refl refl (so_far.each x at)
          ∙ ap (find (violated x)) (sym (take_more row k 0 low))
        where
          new : is_one found x ≡ (violated x i && is_one free x)
          new = ap (λ m. is_one m x) is ∙ is_one-and values free x ∙ ap (λ b. b && is_one free x) (tells x at)

          bit : is_one (bit_and free (bit_not w64 found)) x ≡ (is_one free x && not (violated x i && is_one free x))
          bit = is_one-and_not free found x fits (small x at) ∙ ap (λ b. is_one free x && not b) new

          number : slice_index_or now x 0 ≡ cond (violated x i && is_one free x) i (slice_index_or items x 0)
          number = put x (small x at) ∙ ap (λ b. cond b i (slice_index_or items x 0)) new

          go : (a b : Bool) → is_one free x ≡ a → violated x i ≡ b → cond a None (Some (slice_index_or items x 0)) ≡ find (violated x) (take k row) →
              cond (a && not (b && a)) None (Some (cond (b && a) i (slice_index_or items x 0))) ≡ find (violated x) (take k row ++ i ∷ [])
          go true true on holds before = sym (find_none (violated x) (take k row) i (sym before) ∙ ap (λ b. cond b (Some i) None) holds)
          go true false on fails before = sym (find_none (violated x) (take k row) i (sym before) ∙ ap (λ b. cond b (Some i) None) fails)
          go false true off holds before = sym (find_some (violated x) (take k row) (i ∷ []) (slice_index_or items x 0) (sym before))
          go false false off fails before = sym (find_some (violated x) (take k row) (i ∷ []) (slice_index_or items x 0) (sym before))

  -- all are looked at
  pub all_found : (k free : ℕ) (items : List ℕ) → IsFoundSoFar k free items → length row ≤ k → (x : ℕ) → IsRangedValue l v x →
      cond (is_one free x) None (Some (slice_index_or items x 0)) ≡ find (violates_item l network (slice_set e v (Some x))) row
  all_found k free items so_far past x at = so_far.each x at ∙ ap (find (violated x)) (take_all k row past)

  -- no value is free any more
  pub none_free : (k free : ℕ) (items : List ℕ) → IsFoundSoFar k free items → free ≡ 0 → (x : ℕ) → IsRangedValue l v x →
      cond (is_one free x) None (Some (slice_index_or items x 0)) ≡ find (violates_item l network (slice_set e v (Some x))) row
  none_free k free items so_far none x at =
      let off : is_one free x ≡ false = ap (λ m. is_one m x) none ∙ ap (λ b. b == 1) (bit_at-zero x) in
      let here : cond (is_one free x) None (Some (slice_index_or items x 0)) ≡ Some (slice_index_or items x 0) = ap (λ b. cond b None (Some (slice_index_or items x 0))) off in
      here
      ∙ sym (find_some (violated x) (take k row) (drop k row) (slice_index_or items x 0) (sym (so_far.each x at) ∙ here))
      ∙ ap (find (violated x)) (take-append-drop k row)

-- how great a value of a variable is
pub value_below : (l : Language) → IsLanguage l → (v x : ℕ) → v < variable_count l → IsRangedValue l v x → x < l.value_count
value_below l lawful v x known at =
    let size = lawful.ranged in
    let within = (lawful.ranges v (record { first = 0; last = 63 }) (omega (arith, size, known))).known in
    let to = at.to in
    omega (arith, within, to)

pub value_small : (l : Language) → IsLanguage l → (v x : ℕ) → v < variable_count l → IsRangedValue l v x → x < 64
value_small l lawful v x known at = let few = lawful.few_values in let low = value_below l lawful v x known at in omega (arith, few, low)

-- what an item's number stands for
pub item_is : (l : Language) (network : List Candidate) (e : Assignment) (i : ℕ) (d : Candidate) → i < length network → violates l (get_or network i d) e ≡ violates_item l network e i
item_is l network e i d low = sym (ap (λ o. option_map_or (λ c. violates l c e) o false) (slice_get-get_or network i d low))

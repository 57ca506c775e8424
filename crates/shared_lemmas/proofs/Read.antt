-- What was read: where a byte stands, digits, and a value or the fault where there is none.
use Rattle.std.proofs.Common.{◌≡◌, ℕ, ◌+◌, ◌*◌, ◌<◌, ◌≤◌, true, false, cond, List, [], ◌∷◌, length, Bool, Option, Some, None, Result, Ok, Err, refl, sym, ◌∙◌, ap, arith, ltb, ◌⊎◌, inl, inr, is_some, unwrap_or}
use Rattle.std.specs.Prelude.{ok_or, position}
use Rattle.std.specs.Char.{digit_value, is_digit}
use Rattle.std.specs.List.{list_all, position_or_len}
use Rattle.std.specs.Str.Parse.{AllDigits, digits_value_after}
use Rattle.std.specs.Option.{option_map, option_or}
use Rattle.std.specs.Result.{IfOk, IsErrAnd}
use Rattle.std.proofs.lemmas.Bool.{and_from, cases_lt, lt-ltb, ltb-true}
use Rattle.std.proofs.lemmas.Option.{none-some, cond_some}

pub at_first : {X : Type 0} (p : X → Bool) (xs : List X) (n : ℕ) → position p xs ≡ Some n → (position_or_len p xs ≡ n) × (n < length xs)
at_first p xs n h =
    let c = cond_some (ltb (position_or_len p xs) (length xs)) (position_or_len p xs) n h in
    let low = ltb-true (position_or_len p xs) (length xs) c.0 in
    (c.1, (let same = c.1 in omega (arith, low, same)))

pub nowhere : {X : Type 0} (p : X → Bool) (xs : List X) → position p xs ≡ None → length xs ≤ position_or_len p xs
nowhere p xs h = go (cases_lt (position_or_len p xs) (length xs))
  where
    go : (position_or_len p xs < length xs) ⊎ (length xs ≤ position_or_len p xs) → length xs ≤ position_or_len p xs
    go (inl low) = absurd (none-some (position_or_len p xs) (sym h ∙ ap (λ b. cond b (Some (position_or_len p xs)) None) (lt-ltb _ _ low)))
    go (inr high) = high

-- ---- digits

-- more digits make no smaller number
pub value_grows : (n : ℕ) (digits : List ℕ) → n ≤ digits_value_after 10 n digits
value_grows n [] = omega arith
value_grows n (b ∷ digits) = let more = value_grows (n * 10 + digit_value b) digits in omega (arith, more)

pub all_digits : (digits : List ℕ) → AllDigits 10 digits → list_all (λ b. is_digit b 10) digits ≡ true
all_digits [] h = refl
all_digits (b ∷ digits) h = and_from (is_digit b 10) (list_all (λ x. is_digit x 10) digits) (lt-ltb (digit_value b) 10 h.0) (all_digits digits h.1)

-- ---- a value, or the fault where there is none

pub known_one : {X : Type 0} (o : Option X) (d : X) → is_some o ≡ true → o ≡ Some (unwrap_or o d)
known_one None d h = cc
known_one (Some x) d h = refl

pub or_value : {A F : Type 0} (o : Option A) (fault : F) (x : A) → ◌≡◌ {A = Result A F} (Ok x) (ok_or o fault) → o ≡ Some x
or_value None fault x h = absurd cc
or_value (Some y) fault x h = cc

pub or_fault : {A F : Type 0} (o : Option A) (fault said : F) → ◌≡◌ {A = Result A F} (Err said) (ok_or o fault) → (o ≡ None) × (said ≡ fault)
or_fault None fault said h = (refl, cc)
or_fault (Some y) fault said h = absurd cc

-- ---- where there is nothing

pub or_none : {X : Type 0} (a b : Option X) → option_or a b ≡ None → (a ≡ None) × (b ≡ None)
or_none None b h = (refl, h)
or_none (Some x) b h = absurd (none-some x (sym h))

pub map_none : {X Y : Type 0} (f : X → Y) (a : Option X) → option_map f a ≡ None → a ≡ None
map_none f None h = refl
map_none f (Some x) h = absurd (none-some (f x) (sym h))

pub cond_none : {X : Type 0} (b : Bool) (x : X) → cond b (Some x) None ≡ None → b ≡ false
cond_none true x h = absurd (none-some x (sym h))
cond_none false x h = refl

-- what is said of a value holds where there is a fault
pub none_given : {T E : Type 0} (P : T → Type 0) (Q : E → Type 0) (r : Result T E) → IsErrAnd r Q → IfOk r P
none_given P Q (Ok x) failed = absurd failed
none_given P Q (Err e) failed = tt

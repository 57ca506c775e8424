-- Relations of two variables whose rows and columns run one way, as those of orders do.
use Rattle.std.specs.Prelude.{ℕ, ◌≡◌, ◌<◌, ◌≤◌, ◌⊎◌, Bool, true, List, [], ◌∷◌}
use Rattle.assign.specs.Sets.{has}

-- as x goes over the first d numbers, the test of each y changes once at most: between two numbers
-- it is as at one of them
abbrev pub IsRunning : ℕ → (ℕ → ℕ → Bool) → Type 0
IsRunning d test = (low x high y : ℕ) → low ≤ x → x ≤ high → high < d → y < d →
    (test x y ≡ test low y) ⊎ (test x y ≡ test high y)

-- whether a second value goes with a first one changes once at most as either goes over its values
pub record IsChain (d : ℕ) (accepted : List ℕ → Bool) : Type 0 where
  pub rows : IsRunning d (λ x y. accepted (x ∷ y ∷ []))
  pub columns : IsRunning d (λ y x. accepted (x ∷ y ∷ []))

-- the least member and the greatest one
pub record AreEnds (xs : List ℕ) (least greatest : ℕ) : Type 0 where
  pub first : has xs least ≡ true
  pub last : has xs greatest ≡ true
  pub low : (x : ℕ) → has xs x ≡ true → least ≤ x
  pub high : (x : ℕ) → has xs x ≡ true → x ≤ greatest

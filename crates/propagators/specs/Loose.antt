-- Conditions on two variables that take nothing away while their variables have many values.
use Rattle.std.specs.Prelude.{ℕ, ◌≡◌, ◌≢◌, ◌<◌, ◌≤◌, Bool, true, List, [], ◌∷◌, length}
use Rattle.assign.specs.Sets.{has, IsSet}
use Rattle.language.specs.Pairs.{rejected_of}
use Rattle.language.specs.declared.masks.PairBounds.{PairBounds}
use Rattle.propagators.specs.Chains.{IsChain}

-- two members
pub record HasTwo (xs : List ℕ) : Type 0 where
  pub first : ℕ
  pub second : ℕ
  pub there : has xs first ≡ true
  pub also : has xs second ≡ true
  pub apart : first ≢ second

-- a set of more than so many members, which are few enough for a mask
pub record HasMore (k : ℕ) (xs : List ℕ) : Type 0 where
  pub set : IsSet xs
  pub more : k < length xs
  pub low : k < 64

-- no value of either variable is rejected with more values of the other than that one's bound
pub record IsBounded (d : ℕ) (accepted : List ℕ → Bool) (b : PairBounds) : Type 0 where
  pub first : (y : ℕ) → y < d → rejected_of d (λ x. accepted (x ∷ y ∷ [])) ≤ b.first
  pub second : (x : ℕ) → x < d → rejected_of d (λ y. accepted (x ∷ y ∷ [])) ≤ b.second
  -- what is said to be a chain is one
  pub chain : b.is_chain ≡ true → IsChain d accepted

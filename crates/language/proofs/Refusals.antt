-- Why there is no frame or no language.
use Rattle.language.proofs.Prelude.{◌≡◌, ℕ, ◌<◌, ◌≤◌, ℤ, List, [], ◌∷◌, length, Bool, true, false, Some, cond, ap, arith, le-ltb, lt-ltb, TooManyVariables, BadDomain, is_domain, frame_refusal, None}

no_domain : (many domain : Bool) → many ≡ false → domain ≡ false → cond many (Some TooManyVariables) (cond domain None (Some BadDomain)) ≡ Some BadDomain
no_domain many domain few bad = λ i. cond (few i) (Some TooManyVariables) (cond (bad i) None (Some BadDomain))

pub bad_domain : (names : List (List ℕ)) (lo hi : ℤ) → 1 ≤ length names → length names ≤ 128 → is_domain lo hi ≡ false → frame_refusal names lo hi ≡ Some BadDomain
bad_domain [] lo hi some few bad = absurd (omega arith)
bad_domain (name ∷ names) lo hi some few bad = no_domain _ _ (le-ltb 128 (length (name ∷ names)) few) bad

no_fault : (many domain : Bool) → many ≡ false → domain ≡ true → cond many (Some TooManyVariables) (cond domain None (Some BadDomain)) ≡ None
no_fault many domain few good = λ i. cond (few i) (Some TooManyVariables) (cond (good i) None (Some BadDomain))

pub good_domain : (names : List (List ℕ)) (lo hi : ℤ) → 1 ≤ length names → length names ≤ 128 → is_domain lo hi ≡ true → frame_refusal names lo hi ≡ None
good_domain [] lo hi some few good = absurd (omega arith)
good_domain (name ∷ names) lo hi some few good = no_fault _ _ (le-ltb 128 (length (name ∷ names)) few) good

pub too_many : (names : List (List ℕ)) (lo hi : ℤ) → 128 < length names → frame_refusal names lo hi ≡ Some TooManyVariables
too_many [] lo hi many = absurd (omega arith)
too_many (name ∷ names) lo hi many = ap (λ b. cond b (Some TooManyVariables) (cond (is_domain lo hi) None (Some BadDomain))) (lt-ltb 128 (length (name ∷ names)) many)

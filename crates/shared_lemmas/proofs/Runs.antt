-- Runs of numbers: their parts, and what a test keeps of them.
use Rattle.std.proofs.Common.{◌≡◌, ℕ, zero, suc, ◌+◌, ◌<◌, ◌≤◌, Bool, true, false, cond, [], ◌∷◌, ◌++◌, refl, ◌∙◌, ap, arith}
use Rattle.std.specs.List.{filter, range_with_len}

pub run_parts : (a k n : ℕ) → range_with_len a (k + n) ≡ range_with_len a k ++ range_with_len (a + k) n
run_parts a zero n =
    let none : 0 + n ≡ n = omega arith in
    let here : a ≡ a + 0 = omega arith in
    (λ i. range_with_len (here i) (none i))
run_parts a (suc k) n =
    ap (range_with_len a) (let e : suc k + n ≡ suc (k + n) = omega arith in e)
    ∙ ap (λ xs. a ∷ xs) (run_parts (a + 1) k n)
    ∙ ap (λ b. a ∷ (range_with_len (a + 1) k ++ range_with_len b n)) (let e : (a + 1) + k ≡ a + suc k = omega arith in e)

pub none_pass : (p : ℕ → Bool) (a n : ℕ) → ((x : ℕ) → a ≤ x → x < a + n → p x ≡ false) → filter p (range_with_len a n) ≡ []
none_pass p a zero h = refl
none_pass p a (suc n) h =
    ap (λ b. cond b (a ∷ filter p (range_with_len (a + 1) n)) (filter p (range_with_len (a + 1) n))) (h a (omega arith) (omega arith))
    ∙ none_pass p (a + 1) n (λ x low high. h x (omega arith) (omega arith))

pub all_pass : (p : ℕ → Bool) (a n : ℕ) → ((x : ℕ) → a ≤ x → x < a + n → p x ≡ true) → filter p (range_with_len a n) ≡ range_with_len a n
all_pass p a zero h = refl
all_pass p a (suc n) h =
    ap (λ b. cond b (a ∷ filter p (range_with_len (a + 1) n)) (filter p (range_with_len (a + 1) n))) (h a (omega arith) (omega arith))
    ∙ ap (λ xs. a ∷ xs) (all_pass p (a + 1) n (λ x low high. h x (omega arith) (omega arith)))

-- The arities are 1, 2, 3 and 4.
use Rattle.language.proofs.Prelude.{ℕ, zero, suc, ◌≤◌, arith}

pub each_arity : (P : ℕ → Type 0) → P 1 → P 2 → P 3 → P 4 → (arity : ℕ) → 1 ≤ arity → arity ≤ 4 → P arity
each_arity P one two three four zero some few = absurd (omega arith)
each_arity P one two three four (suc zero) some few = one
each_arity P one two three four (suc (suc zero)) some few = two
each_arity P one two three four (suc (suc (suc zero))) some few = three
each_arity P one two three four (suc (suc (suc (suc zero)))) some few = four
each_arity P one two three four (suc (suc (suc (suc (suc arity))))) some few = absurd (omega arith)

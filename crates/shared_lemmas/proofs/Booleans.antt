-- What truth values are.
use Rattle.std.proofs.Common.{◌≡◌, Bool, true, false, not, refl, sym}
use Rattle.std.specs.Bool.{beq}

pub beq-true : (b : Bool) → beq b true ≡ b
beq-true true = refl
beq-true false = refl

pub beq-false : (b : Bool) → beq b false ≡ not b
beq-false true = refl
beq-false false = refl

pub beq_same : (a b : Bool) → beq a b ≡ true → a ≡ b
beq_same true true h = refl
beq_same true false h = cc
beq_same false true h = cc
beq_same false false h = refl

-- each is true where the other is
pub both_true : (a b : Bool) → (a ≡ true → b ≡ true) → (b ≡ true → a ≡ true) → a ≡ b
both_true true b f g = sym (f refl)
both_true false true f g = g refl
both_true false false f g = refl

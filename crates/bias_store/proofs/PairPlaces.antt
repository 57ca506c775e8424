-- The values of a pair by its place, and what the masks of tables of two variables have there.
use Rattle.bias_store.proofs.Prelude.{◌≡◌, ℕ, zero, suc, ◌+◌, ◌*◌, ◌^◌, ◌<◌, Bool, false, List, get_or, refl, ◌∙◌, ap, subst, arith, ◌==◌, bit_and, bit_at, bit_at-lt, shr_and_one, Relation, pow-zero}
use Rattle.std.proofs.Common.{◌/◌, ◌%◌, bit_or}
use Rattle.std.proofs.Math.Nat.{pow-suc}
use Rattle.std.specs.Int.{from_bool}
use Rattle.rel_table.proofs.PlaceLemmas.{tuple_at-below}
use Rattle.language.specs.Pairs.{go_together, AreMasksOf}
use Rattle.language.proofs.ByNames.{IsMaskOf, mask_more}

pub first_below : (d p : ℕ) → p < d ^ 2 → p / d < d
first_below d p low = subst (λ n. p / n < d) (pow-suc d 0 ∙ ap (λ k. k * d) (pow-zero d) ∙ (let e : 1 * d ≡ d = omega arith in e)) (tuple_at-below d 2 p low 0 0 (omega arith))

bit_is : (bit : ℕ) → bit < 2 → bit ≡ from_bool (bit == 1)
bit_is zero low = refl
bit_is (suc zero) low = refl
bit_is (suc (suc bit)) low = absurd (omega arith)

-- one table more
-- the bit that is read is that of a pair
pub pair_bit : (d place row : ℕ) (rows : List ℕ) (r : Relation) → place < d ^ 2 → 0 < d → row ≡ get_or rows (place / d) 0 → AreMasksOf d (go_together d r) rows → (bit_at row (place % d) == 1) ≡ get_or r place false
pair_bit d place row rows r low some is masks =
    ap (λ m. bit_at m (place % d) == 1) is ∙ masks (place / d) (place % d) (first_below d place low) (omega arith)
    ∙ ap (λ p. get_or r p false) (let e : place / d * d + place % d ≡ place = omega arith in e)

-- one table more
pub pair_more : (p : ℕ → Bool) (row y r mask bit : ℕ) → r < 64 → bit ≡ bit_and (row / 2 ^ y) 1 → (bit_at row y == 1) ≡ p r → IsMaskOf p r mask → IsMaskOf p (r + 1) (bit_or mask (bit * 2 ^ r % 2 ^ 64))
pair_more p row y r mask bit small is at so_far =
    mask_more p r mask bit (bit_at row y == 1) small (is ∙ shr_and_one row y ∙ bit_is (bit_at row y) (bit_at-lt row y)) at so_far

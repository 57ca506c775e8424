-- Copying truth values one by one: the first i are copied, and the others false.
use Rattle.rel_table.proofs.Prelude.{◌≡◌, ℕ, suc, zero, ◌+◌, ◌<◌, List, [], ◌∷◌, Bool, true, false, length, get_or, replicate, set, ap, sym, ◌∙◌, refl, arith}

abbrev pub copied : List Bool → ℕ → List Bool
copied [] i = []
copied (x ∷ truth) zero = false ∷ replicate (length truth) false
copied (x ∷ truth) (suc i) = x ∷ copied truth i

-- at first none is copied
pub none_copied : (truth : List Bool) → copied truth 0 ≡ replicate (length truth) false
none_copied [] = refl
none_copied (x ∷ truth) = refl

mark_suc : (truth : List Bool) (i : ℕ) → i < length truth → get_or truth i false ≡ true → set (copied truth i) i true ≡ copied truth (suc i)
mark_suc [] i lt is = absurd (omega arith)
mark_suc (x ∷ truth) zero lt is = ap (λ y. y ∷ replicate (length truth) false) (sym is) ∙ ap (λ rest. x ∷ rest) (sym (none_copied truth))
mark_suc (x ∷ truth) (suc i) lt is = ap (λ rest. x ∷ rest) (mark_suc truth i (omega arith) is)

skip_suc : (truth : List Bool) (i : ℕ) → i < length truth → get_or truth i false ≡ false → copied truth i ≡ copied truth (suc i)
skip_suc [] i lt is = absurd (omega arith)
skip_suc (x ∷ truth) zero lt is = ap (λ y. y ∷ replicate (length truth) false) (sym is) ∙ ap (λ rest. x ∷ rest) (sym (none_copied truth))
skip_suc (x ∷ truth) (suc i) lt is = ap (λ rest. x ∷ rest) (skip_suc truth i (omega arith) is)

-- a true one is marked
pub mark_one : (truth : List Bool) (i : ℕ) → i < length truth → get_or truth i false ≡ true → set (copied truth i) i true ≡ copied truth (i + 1)
mark_one truth i lt is = mark_suc truth i lt is ∙ (let e : suc i ≡ i + 1 = omega arith in ap (copied truth) e)

-- a false one stays
pub skip_one : (truth : List Bool) (i : ℕ) → i < length truth → get_or truth i false ≡ false → copied truth i ≡ copied truth (i + 1)
skip_one truth i lt is = skip_suc truth i lt is ∙ (let e : suc i ≡ i + 1 = omega arith in ap (copied truth) e)

-- in the end all are copied
pub all_copied : (truth : List Bool) → copied truth (length truth) ≡ truth
all_copied [] = refl
all_copied (x ∷ truth) = ap (λ rest. x ∷ rest) (all_copied truth)

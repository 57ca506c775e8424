-- The falling order of relations.
use Rattle.rel_table.proofs.Prelude.{◌≡◌, true, false, [], ◌∷◌, length, refl, ap, arith, Relation, is_above}

pub above_above : (r q s : Relation) → is_above r q ≡ true → is_above q s ≡ true → is_above r s ≡ true
above_above [] q s h k = absurd (let e : false ≡ true = h in cc)
above_above (x ∷ r) [] s h k = absurd (let e : false ≡ true = h in cc)
above_above (x ∷ r) (y ∷ q) [] h k = absurd (let e : false ≡ true = k in cc)
above_above (true ∷ r) (true ∷ q) (true ∷ s) h k = above_above r q s h k
above_above (true ∷ r) (true ∷ q) (false ∷ s) h k = refl
above_above (true ∷ r) (false ∷ q) (true ∷ s) h k = absurd (let e : false ≡ true = k in cc)
above_above (true ∷ r) (false ∷ q) (false ∷ s) h k = refl
above_above (false ∷ r) (true ∷ q) (z ∷ s) h k = absurd (let e : false ≡ true = h in cc)
above_above (false ∷ r) (false ∷ q) (true ∷ s) h k = absurd (let e : false ≡ true = k in cc)
above_above (false ∷ r) (false ∷ q) (false ∷ s) h k = above_above r q s h k

-- of two different relations of one length, one is above the other
pub other_above : (r q : Relation) → length r ≡ length q → (r ≡ q → ⊥) → is_above r q ≡ false → is_above q r ≡ true
other_above [] [] long apart h = absurd (apart refl)
other_above [] (y ∷ q) long apart h = absurd (omega arith)
other_above (x ∷ r) [] long apart h = absurd (omega arith)
other_above (true ∷ r) (true ∷ q) long apart h = other_above r q (omega arith) (λ e. apart (ap (λ s. true ∷ s) e)) h
other_above (true ∷ r) (false ∷ q) long apart h = absurd (let e : true ≡ false = h in cc)
other_above (false ∷ r) (true ∷ q) long apart h = refl
other_above (false ∷ r) (false ∷ q) long apart h = other_above r q (omega arith) (λ e. apart (ap (λ s. false ∷ s) e)) h

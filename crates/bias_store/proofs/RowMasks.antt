-- Masks of the places of a row, from the truth values of each relation there.
use Rattle.bias_store.proofs.Prelude.{◌≡◌, ℕ, ◌+◌, ◌<◌, false, List, [], length, get_or, slice_set, sym, ◌∙◌, ap, subst, arith, inl, inr, ◌⊎◌, ◌==◌, take, filter, bit_at, cases_eq, get_or-set_same, get_or-set_other, get_or-take, numbers, filter_agree_from, Language, relations_on, accepting_on}
use Rattle.bias_store.specs.Accepting.{AreRowsAt}

-- those of the first n relations
abbrev pub AreFirstRows : Language → ℕ → ℕ → ℕ → List ℕ → Type 0
AreFirstRows l s place n rows = (r y : ℕ) → r < n → y < l.value_count → (bit_at (get_or rows r 0) y == 1) ≡ get_or (get_or (relations_on l s) r []) (place + y) false

pub rows_more : (l : Language) (s place n at word : ℕ) (rows : List ℕ) → n < length rows → at ≡ n →
    ((y : ℕ) → y < l.value_count → (bit_at word y == 1) ≡ get_or (get_or (relations_on l s) n []) (place + y) false) → AreFirstRows l s place n rows → AreFirstRows l s place (n + 1) (slice_set rows at word)
rows_more l s place n at word rows fits is new are r y low below = subst (λ (k : ℕ). (bit_at (get_or (slice_set rows k word) r 0) y == 1) ≡ get_or (get_or (relations_on l s) r []) (place + y) false) (sym is) (go (cases_eq r n))
  where
    go : (r ≡ n) ⊎ (r ≡ n → ⊥) → (bit_at (get_or (slice_set rows n word) r 0) y == 1) ≡ get_or (get_or (relations_on l s) r []) (place + y) false
    go (inl same) = subst (λ (k : ℕ). (bit_at (get_or (slice_set rows n word) k 0) y == 1) ≡ get_or (get_or (relations_on l s) k []) (place + y) false) (sym same)
        (ap (λ w. bit_at w y == 1) (get_or-set_same rows n word 0 fits) ∙ new y below)
    go (inr other) = ap (λ w. bit_at w y == 1) (get_or-set_other rows n r word 0 other) ∙ are r y (omega arith) below

-- the bits y of the words are those of the relations that accept the tuple y places further
pub column_accepts : (l : Language) (s place n y : ℕ) (rows : List ℕ) → n ≡ length (relations_on l s) → length (take n rows) ≡ n → AreRowsAt l s place rows → y < l.value_count →
    filter (λ r. bit_at (get_or (take n rows) r 0) y == 1) (numbers (length (take n rows))) ≡ accepting_on l s (place + y)
column_accepts l s place n y rows all long are below =
    ap (λ k. filter (λ r. bit_at (get_or (take n rows) r 0) y == 1) (numbers k)) long
    ∙ filter_agree_from (λ r. bit_at (get_or (take n rows) r 0) y == 1) (λ r. get_or (get_or (relations_on l s) r []) (place + y) false) 0 n
    (λ r low high. ap (λ w. bit_at w y == 1) (get_or-take n rows r 0 (omega arith)) ∙ are r y (omega arith) below)
    ∙ ap (λ k. filter (λ r. get_or (get_or (relations_on l s) r []) (place + y) false) (numbers k)) all

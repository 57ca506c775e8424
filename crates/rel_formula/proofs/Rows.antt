-- Rows of numbers and truths: how they are made one by one, what a step does with them, and the tuples of a batch.
use Rattle.rel_formula.proofs.Prelude.{◌≡◌, ℕ, ◌+◌, ◌<◌, ◌≤◌, ◌^◌, ℤ, pos, SFits, w64, lt-ltb, Bool, true, false, if◌then◌else◌, List, [], ◌∷◌, Some, None, length, get_or, set, arith, ap, sym, ◌∙◌, get_or-map, get_or-set_same, get_or-set_other, fits, fitting, run, MachineEnd, subst, Option, ⊤, Step}
use Rattle.std.proofs.Common.{◌≢◌, negsuc, refl, below_more}
use Rattle.std.proofs.lemmas.List.{map-set}
use Rattle.std.specs.Prelude.{slice_index_or, OnSome}
use Rattle.rel_formula.specs.Batch.{numbers_at, truths_at, DoesStep}
use Rattle.rel_formula.specs.declared.step.Step.TheVariants.{Shown}

-- one element more of a row is written
pub row_more : {A : Type 0} (P : ℕ → A → Type 0) (d : A) (row : List A) (k : ℕ) (x : A) → k < length row → ((i : ℕ) → i < k → P i (get_or row i d)) → P k x →
    (i : ℕ) → i < k + 1 → P i (get_or (set row k x) i d)
row_more P d row k x low done here =
    below_more _ _
    (λ i h. let ne : i ≢ k = omega arith in rw get_or-set_other (done i h))
    (rw get_or-set_same here)

-- the elements after it stay
pub row_left : {A : Type 0} (d : A) (row old : List A) (k : ℕ) (x : A) → ((i : ℕ) → k ≤ i → get_or row i d ≡ get_or old i d) → (i : ℕ) → k + 1 ≤ i → get_or (set row k x) i d ≡ get_or old i d
row_left d row old k x left i h = let ne : i ≢ k = omega arith in rw get_or-set_other (left i (omega arith))

-- what comes after a number that fits
goes_on_by : (b : Bool) (x y : ℤ) (end : ℤ → MachineEnd) → (if b then Some x else None) ≡ Some y → (if b then end x else Some None) ≡ end y
goes_on_by true x y end e = let h : x ≡ y = cc in ap end h
goes_on_by false x y end e = let h = e in cc

pub goes_on : (x y : ℤ) (end : ℤ → MachineEnd) → fitting x ≡ Some y → (if fits x then end x else Some None) ≡ end y
goes_on x y end e = goes_on_by (fits x) x y end e

-- a step that shows a value, where each number of the row that it puts is what the tuple shows
pub shows : (at : ℕ) (tuples numbers new : List (List ℤ)) (truths : List (List Bool)) (row : List ℤ) → new ≡ row ∷ numbers →
    ((k : ℕ) → k < 16 → fitting (slice_index_or (numbers_at k tuples) at (pos 0)) ≡ Some (get_or row k (pos 0))) → DoesStep (Shown at) tuples numbers truths new truths
shows at tuples numbers new truths row put is k h rest =
    goes_on (slice_index_or (numbers_at k tuples) at (pos 0)) (get_or row k (pos 0)) (λ x. run (numbers_at k tuples) rest (x ∷ numbers_at k numbers) (truths_at k truths)) (is k h)
    ∙ ap (λ rows. run (numbers_at k tuples) rest (numbers_at k rows) (truths_at k truths)) (sym put)

-- what was done, where something was, told of the step that a match found
pub of_step : (found step : Step) (result : Option ⊤) (Does : Step → Type 0) {P : Type 0} → step ≡ found → (P → Does found) → OnSome result P → OnSome result (Does step)
of_step found step None Does is told h = h
of_step found step (Some u) Does is told h = subst Does (sym is) (told h)

-- what follows of what was done, where something was
pub of_done : {P Q : Type 0} (result : Option ⊤) → (P → Q) → OnSome result P → OnSome result Q
of_done None follows h = h
of_done (Some u) follows h = follows h

-- the shown value at a position, of the row that stands there
pub shown_of-row : (tuples : List (List ℤ)) (at k : ℕ) (row : List ℤ) → at < length tuples → row ≡ get_or tuples at [] → slice_index_or (numbers_at k tuples) at (pos 0) ≡ get_or row k (pos 0)
shown_of-row tuples at k row h e = get_or-map (λ row. slice_index_or row k (pos 0)) tuples at [] (pos 0) h ∙ ap (λ r. get_or r k (pos 0)) (sym e)

-- a number of 64 bits fits
pub fitting-of : (x : ℤ) → SFits w64 x → fitting x ≡ Some x
fitting-of (pos n) h = ap (λ (b : Bool). if b then Some (pos n) else None) (lt-ltb n (2 ^ 63) h.sfits)
fitting-of (negsuc n) h = ap (λ (b : Bool). if b then Some (negsuc n) else None) (lt-ltb n (2 ^ 63) h.sfits)

four_of : (xs : List ℤ) → length xs ≡ 4 → get_or xs 0 (pos 0) ∷ get_or xs 1 (pos 0) ∷ get_or xs 2 (pos 0) ∷ get_or xs 3 (pos 0) ∷ [] ≡ xs
four_of [] e = absurd (omega arith)
four_of (w ∷ []) e = absurd (omega arith)
four_of (w ∷ x ∷ []) e = absurd (omega arith)
four_of (w ∷ x ∷ y ∷ []) e = absurd (omega arith)
four_of (w ∷ x ∷ y ∷ z ∷ []) e = refl
four_of (w ∷ x ∷ y ∷ z ∷ more ∷ rest) e = absurd (omega arith)

-- a tuple of a batch that has its own value at one position, and at the others those that all have
pub batch_of : (shown : List ℤ) (last k : ℕ) (ps qs rs ss own : List ℤ) (v : ℤ) → length shown ≡ 4 → get_or ps k (pos 0) ≡ get_or shown 0 (pos 0) → get_or qs k (pos 0) ≡ get_or shown 1 (pos 0) →
    get_or rs k (pos 0) ≡ get_or shown 2 (pos 0) → get_or ss k (pos 0) ≡ get_or shown 3 (pos 0) → get_or own k (pos 0) ≡ v → numbers_at k (set (ps ∷ qs ∷ rs ∷ ss ∷ []) last own) ≡ set shown last v
batch_of shown last k ps qs rs ss own v len p q r s is =
    map-set (λ row. slice_index_or row k (pos 0)) (ps ∷ qs ∷ rs ∷ ss ∷ []) last own
    ∙ (λ i. set (p i ∷ q i ∷ r i ∷ s i ∷ []) last (is i))
    ∙ ap (λ xs. set xs last v) (four_of shown len)

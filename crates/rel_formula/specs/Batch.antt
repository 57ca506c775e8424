-- Many tuples at once: a row has one number, or one truth, of each of them.
use Rattle.std.specs.Prelude.{◌≡◌, ◌<◌, ◌∷◌, ℕ, Bool, false, List, map, slice_index_or, ℤ, pos}
use Rattle.rel_formula.specs.Machine.{run}
use Rattle.rel_formula.specs.declared.step.Step.{Step}

-- the column of one tuple: its values where there is a row for each position, and else what waits
-- for it on the stack
abbrev pub numbers_at : ℕ → List (List ℤ) → List ℤ
numbers_at k rows = map (λ row. slice_index_or row k (pos 0)) rows

abbrev pub truths_at : ℕ → List (List Bool) → List Bool
truths_at k rows = map (λ row. slice_index_or row k false) rows

-- between these stacks one step is done at each tuple
abbrev pub DoesStep : Step → List (List ℤ) → List (List ℤ) → List (List Bool) → List (List ℤ) →
    List (List Bool) → Type 0
DoesStep step tuples numbers truths new_numbers new_truths = (k : ℕ) → k < 16 → (rest : List Step) →
    run (numbers_at k tuples) (step ∷ rest) (numbers_at k numbers) (truths_at k truths)
    ≡ run (numbers_at k tuples) rest (numbers_at k new_numbers) (truths_at k new_truths)

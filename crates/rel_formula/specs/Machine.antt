-- What steps do with the numbers and the truths on their stacks.
use Rattle.std.specs.Prelude.{ℕ, Bool, not, if◌then◌else◌, List, [], ◌∷◌, slice_index_or, Option}
use Rattle.std.specs.Prelude.{Some, None, ℤ, pos}
use Rattle.rel_formula.specs.Formula.{combine, compare, join, size, fits}
use Rattle.rel_formula.specs.declared.step.Step.{Step}
use Rattle.rel_formula.specs.declared.step.Step.TheVariants.{Whole, Shown, Absolute, Combine}
use Rattle.rel_formula.specs.declared.step.Step.TheVariants.{Compare, Join, Negate}

-- where steps end: with a truth, or with a number that leaves 64 bits; none where an operand is
-- missing
abbrev pub MachineEnd : Type 0
MachineEnd = Option (Option Bool)

-- how steps end from these stacks, the latest first
abbrev pub run : List ℤ → List Step → List ℤ → List Bool → MachineEnd
run tuple [] numbers [] = None
run tuple [] numbers (p ∷ truths) = Some (Some p)
run tuple (Whole x ∷ steps) numbers truths =
    if fits x then run tuple steps (x ∷ numbers) truths else Some None
run tuple (Shown at ∷ steps) numbers truths =
    if fits (slice_index_or tuple at (pos 0))
    then run tuple steps (slice_index_or tuple at (pos 0) ∷ numbers) truths else Some None
run tuple (Absolute ∷ steps) [] truths = None
run tuple (Absolute ∷ steps) (x ∷ numbers) truths =
    if fits (size x) then run tuple steps (size x ∷ numbers) truths else Some None
run tuple (Combine op ∷ steps) [] truths = None
run tuple (Combine op ∷ steps) (y ∷ []) truths = None
run tuple (Combine op ∷ steps) (y ∷ x ∷ numbers) truths =
    if fits (combine op x y) then run tuple steps (combine op x y ∷ numbers) truths else Some None
run tuple (Compare op ∷ steps) [] truths = None
run tuple (Compare op ∷ steps) (y ∷ []) truths = None
run tuple (Compare op ∷ steps) (y ∷ x ∷ numbers) truths =
    run tuple steps numbers (compare op x y ∷ truths)
run tuple (Join op ∷ steps) numbers [] = None
run tuple (Join op ∷ steps) numbers (q ∷ []) = None
run tuple (Join op ∷ steps) numbers (q ∷ p ∷ truths) =
    run tuple steps numbers (join op p q ∷ truths)
run tuple (Negate ∷ steps) numbers [] = None
run tuple (Negate ∷ steps) numbers (p ∷ truths) = run tuple steps numbers (not p ∷ truths)

-- how many numbers and truths a step takes
abbrev pub numbers_taken : Step → ℕ
numbers_taken (Whole x) = 0
numbers_taken (Shown at) = 0
numbers_taken Absolute = 1
numbers_taken (Combine op) = 2
numbers_taken (Compare op) = 2
numbers_taken (Join op) = 0
numbers_taken Negate = 0

abbrev pub truths_taken : Step → ℕ
truths_taken (Whole x) = 0
truths_taken (Shown at) = 0
truths_taken Absolute = 0
truths_taken (Combine op) = 0
truths_taken (Compare op) = 0
truths_taken (Join op) = 2
truths_taken Negate = 1

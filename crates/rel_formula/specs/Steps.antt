-- The steps that evaluate a formula, operands before their operator, and the formula that steps
-- evaluate.
use Rattle.std.specs.Prelude.{pos, List, [], ◌∷◌, ◌++◌}
use Rattle.rel_formula.specs.Formula.{Term, whole, shown, absolute, combined, Truth, compared}
use Rattle.rel_formula.specs.Formula.{joined, opposite}
use Rattle.rel_formula.specs.declared.step.Comparison.TheVariants.{Equal}
use Rattle.rel_formula.specs.declared.step.Step.{Step}
use Rattle.rel_formula.specs.declared.step.Step.TheVariants.{Whole, Shown, Absolute, Combine}
use Rattle.rel_formula.specs.declared.step.Step.TheVariants.{Compare, Join, Negate}

abbrev pub term_steps : Term → List Step
term_steps (whole x) = Whole x ∷ []
term_steps (shown at) = Shown at ∷ []
term_steps (absolute a) = term_steps a ++ Absolute ∷ []
term_steps (combined op a b) = term_steps a ++ (term_steps b ++ Combine op ∷ [])

abbrev pub truth_steps : Truth → List Step
truth_steps (compared op a b) = term_steps a ++ (term_steps b ++ Compare op ∷ [])
truth_steps (joined op p q) = truth_steps p ++ (truth_steps q ++ Join op ∷ [])
truth_steps (opposite p) = truth_steps p ++ Negate ∷ []

-- what stands for a formula where there is none
abbrev pub no_formula : Truth
no_formula = compared Equal (whole (pos 0)) (whole (pos 0))

-- what is built of the terms and truths that stand, the latest first, by these steps
abbrev pub built : List Step → List Term → List Truth → Truth
built [] terms [] = no_formula
built [] terms (p ∷ truths) = p
built (Whole x ∷ steps) terms truths = built steps (whole x ∷ terms) truths
built (Shown at ∷ steps) terms truths = built steps (shown at ∷ terms) truths
built (Absolute ∷ steps) [] truths = no_formula
built (Absolute ∷ steps) (a ∷ terms) truths = built steps (absolute a ∷ terms) truths
built (Combine op ∷ steps) [] truths = no_formula
built (Combine op ∷ steps) (b ∷ []) truths = no_formula
built (Combine op ∷ steps) (b ∷ a ∷ terms) truths = built steps (combined op a b ∷ terms) truths
built (Compare op ∷ steps) [] truths = no_formula
built (Compare op ∷ steps) (b ∷ []) truths = no_formula
built (Compare op ∷ steps) (b ∷ a ∷ terms) truths = built steps terms (compared op a b ∷ truths)
built (Join op ∷ steps) terms [] = no_formula
built (Join op ∷ steps) terms (q ∷ []) = no_formula
built (Join op ∷ steps) terms (q ∷ p ∷ truths) = built steps terms (joined op p q ∷ truths)
built (Negate ∷ steps) terms [] = no_formula
built (Negate ∷ steps) terms (p ∷ truths) = built steps terms (opposite p ∷ truths)

-- the formula that steps evaluate
abbrev pub formula_of : List Step → Truth
formula_of steps = built steps [] []

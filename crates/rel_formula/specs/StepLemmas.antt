-- The steps of a formula build it again.
use Rattle.std.specs.Prelude.{◌≡◌, List, [], ◌∷◌, ◌++◌, refl}
use Rattle.std.proofs.Common.{sym, ◌∙◌, ap, append_assoc}
use Rattle.std.proofs.lemmas.List.{append-nil}
use Rattle.rel_formula.specs.Formula.{Term, whole, shown, absolute, combined, Truth, compared}
use Rattle.rel_formula.specs.Formula.{joined, opposite}
use Rattle.rel_formula.specs.Steps.{term_steps, truth_steps, built, formula_of}
use Rattle.rel_formula.specs.declared.step.Step.{Step}
use Rattle.rel_formula.specs.declared.step.Step.TheVariants.{Absolute, Combine, Compare, Join}
use Rattle.rel_formula.specs.declared.step.Step.TheVariants.{Negate}

-- steps of two operands and an operator, and more
pub regrouped : (a b : List Step) (step : Step) (rest : List Step) →
    (a ++ (b ++ step ∷ [])) ++ rest ≡ a ++ (b ++ step ∷ rest)
regrouped a b step rest = append_assoc a (b ++ step ∷ []) rest
    ∙ ap (λ xs. a ++ xs) (append_assoc b (step ∷ []) rest)

pub built-term : (a : Term) (rest : List Step) (terms : List Term) (truths : List Truth) →
    built (term_steps a ++ rest) terms truths ≡ built rest (a ∷ terms) truths
built-term (whole x) rest terms truths = refl
built-term (shown at) rest terms truths = refl
built-term (absolute a) rest terms truths =
    ap (λ steps. built steps terms truths) (append_assoc (term_steps a) (Absolute ∷ []) rest)
    ∙ built-term a (Absolute ∷ rest) terms truths
built-term (combined op a b) rest terms truths =
    ap (λ steps. built steps terms truths)
    (regrouped (term_steps a) (term_steps b) (Combine op) rest)
    ∙ built-term a (term_steps b ++ Combine op ∷ rest) terms truths
    ∙ built-term b (Combine op ∷ rest) (a ∷ terms) truths

pub built-truth : (p : Truth) (rest : List Step) (terms : List Term) (truths : List Truth) →
    built (truth_steps p ++ rest) terms truths ≡ built rest terms (p ∷ truths)
built-truth (compared op a b) rest terms truths =
    ap (λ steps. built steps terms truths)
    (regrouped (term_steps a) (term_steps b) (Compare op) rest)
    ∙ built-term a (term_steps b ++ Compare op ∷ rest) terms truths
    ∙ built-term b (Compare op ∷ rest) (a ∷ terms) truths
built-truth (joined op p q) rest terms truths =
    ap (λ steps. built steps terms truths)
    (regrouped (truth_steps p) (truth_steps q) (Join op) rest)
    ∙ built-truth p (truth_steps q ++ Join op ∷ rest) terms truths
    ∙ built-truth q (Join op ∷ rest) terms (p ∷ truths)
built-truth (opposite p) rest terms truths =
    ap (λ steps. built steps terms truths) (append_assoc (truth_steps p) (Negate ∷ []) rest)
    ∙ built-truth p (Negate ∷ rest) terms truths

pub formula_of-truth_steps : (p : Truth) → formula_of (truth_steps p) ≡ p
formula_of-truth_steps p = ap (λ steps. built steps [] []) (sym (append-nil (truth_steps p)))
    ∙ built-truth p [] [] []

-- steps that are those of a formula
pub formula_of-steps : (steps : List Step) (p : Truth) → steps ≡ truth_steps p →
    formula_of steps ≡ p
formula_of-steps steps p e = ap formula_of e ∙ formula_of-truth_steps p

pub steps-formula_of : (steps : List Step) (p : Truth) → steps ≡ truth_steps p →
    steps ≡ truth_steps (formula_of steps)
steps-formula_of steps p e = e ∙ ap truth_steps (sym (formula_of-steps steps p e))

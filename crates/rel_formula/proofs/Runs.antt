-- The steps of a formula end with its truth, or with a part that leaves 64 bits.
use Rattle.rel_formula.proofs.Prelude.{◌≡◌, ℕ, ◌<◌, ℤ, Bool, true, false, not, ◌||◌, List, [], ◌∷◌, ◌++◌, Option, Some, None, is_some, IsSome, if◌then◌else◌, refl, sym, ◌∙◌, ap, append_assoc, append-nil, Term, whole, shown, absolute, combined, Truth, compared, joined, opposite, value, is_true, parts_of, parts, fits, some_too_big, is_too_big, term_steps, truth_steps, regrouped, run, MachineEnd, Step, Combine, Compare, Join, Negate}
use Rattle.std.specs.Prelude.{slice_index_or, IfSome}
use Rattle.std.proofs.lemmas.List.Folds.{list_any-append}
use Rattle.rel_formula.specs.declared.step.Step.TheVariants.{Absolute}

-- what comes unless something is too big
abbrev pub guarded : Bool → MachineEnd → MachineEnd
guarded too_big end = if too_big then Some None else end

own_test : (f : Bool) (end : MachineEnd) → (if f then end else Some None) ≡ guarded (not f || false) end
own_test true end = refl
own_test false end = refl

either_test : (a b : Bool) (end : MachineEnd) → guarded a (guarded b end) ≡ guarded (a || b) end
either_test true b end = refl
either_test false b end = refl

-- tests of two lists of terms, one after the other
both_tests : (tuple : List ℤ) (xs ys : List Term) (end : MachineEnd) → guarded (some_too_big tuple xs) (guarded (some_too_big tuple ys) end) ≡ guarded (some_too_big tuple (xs ++ ys)) end
both_tests tuple xs ys end =
    either_test (some_too_big tuple xs) (some_too_big tuple ys) end
    ∙ ap (λ b. guarded b end) (sym (list_any-append (λ term. not (fits (value tuple term))) xs ys))

pub run-term : (tuple : List ℤ) (a : Term) (rest : List Step) (numbers : List ℤ) (truths : List Bool) →
    run tuple (term_steps a ++ rest) numbers truths ≡ guarded (some_too_big tuple (parts_of a)) (run tuple rest (value tuple a ∷ numbers) truths)
run-term tuple (whole x) rest numbers truths = own_test (fits x) (run tuple rest (x ∷ numbers) truths)
run-term tuple (shown at) rest numbers truths = own_test (fits (value tuple (shown at))) (run tuple rest (value tuple (shown at) ∷ numbers) truths)
run-term tuple (absolute a) rest numbers truths =
    let after : MachineEnd = run tuple rest (value tuple (absolute a) ∷ numbers) truths in
    ap (λ steps. run tuple steps numbers truths) (append_assoc (term_steps a) (Absolute ∷ []) rest)
    ∙ run-term tuple a (Absolute ∷ rest) numbers truths
    ∙ ap (λ end. guarded (some_too_big tuple (parts_of a)) end) (own_test (fits (value tuple (absolute a))) after)
    ∙ both_tests tuple (parts_of a) (absolute a ∷ []) after
run-term tuple (combined op a b) rest numbers truths =
    let after : MachineEnd = run tuple rest (value tuple (combined op a b) ∷ numbers) truths in
    ap (λ steps. run tuple steps numbers truths) (regrouped (term_steps a) (term_steps b) (Combine op) rest)
    ∙ run-term tuple a (term_steps b ++ Combine op ∷ rest) numbers truths
    ∙ ap (λ end. guarded (some_too_big tuple (parts_of a)) end)
    (run-term tuple b (Combine op ∷ rest) (value tuple a ∷ numbers) truths
    ∙ ap (λ end. guarded (some_too_big tuple (parts_of b)) end) (own_test (fits (value tuple (combined op a b))) after)
    ∙ both_tests tuple (parts_of b) (combined op a b ∷ []) after)
    ∙ both_tests tuple (parts_of a) (parts_of b ++ combined op a b ∷ []) after

pub run-truth : (tuple : List ℤ) (p : Truth) (rest : List Step) (numbers : List ℤ) (truths : List Bool) →
    run tuple (truth_steps p ++ rest) numbers truths ≡ guarded (is_too_big tuple p) (run tuple rest numbers (is_true tuple p ∷ truths))
run-truth tuple (compared op a b) rest numbers truths =
    let after : MachineEnd = run tuple rest numbers (is_true tuple (compared op a b) ∷ truths) in
    ap (λ steps. run tuple steps numbers truths) (regrouped (term_steps a) (term_steps b) (Compare op) rest)
    ∙ run-term tuple a (term_steps b ++ Compare op ∷ rest) numbers truths
    ∙ ap (λ end. guarded (some_too_big tuple (parts_of a)) end) (run-term tuple b (Compare op ∷ rest) (value tuple a ∷ numbers) truths)
    ∙ both_tests tuple (parts_of a) (parts_of b) after
run-truth tuple (joined op p q) rest numbers truths =
    let after : MachineEnd = run tuple rest numbers (is_true tuple (joined op p q) ∷ truths) in
    ap (λ steps. run tuple steps numbers truths) (regrouped (truth_steps p) (truth_steps q) (Join op) rest)
    ∙ run-truth tuple p (truth_steps q ++ Join op ∷ rest) numbers truths
    ∙ ap (λ end. guarded (is_too_big tuple p) end) (run-truth tuple q (Join op ∷ rest) numbers (is_true tuple p ∷ truths))
    ∙ both_tests tuple (parts p) (parts q) after
run-truth tuple (opposite p) rest numbers truths =
    ap (λ steps. run tuple steps numbers truths) (append_assoc (truth_steps p) (Negate ∷ []) rest)
    ∙ run-truth tuple p (Negate ∷ rest) numbers truths

-- how the steps of a formula end from empty stacks
pub run-formula : (tuple : List ℤ) (p : Truth) → run tuple (truth_steps p) [] [] ≡ guarded (is_too_big tuple p) (Some (Some (is_true tuple p)))
run-formula tuple p = ap (λ steps. run tuple steps [] []) (sym (append-nil (truth_steps p))) ∙ run-truth tuple p [] [] []

guarded-is : (too_big p : Bool) → guarded too_big (Some (Some p)) ≡ Some (if too_big then None else Some p)
guarded-is true p = refl
guarded-is false p = refl

-- how steps end that are those of a formula
pub end_is : (tuple : List ℤ) (steps : List Step) (p : Truth) → steps ≡ truth_steps p → run tuple steps [] [] ≡ Some (if is_too_big tuple p then None else Some (is_true tuple p))
end_is tuple steps p e = ap (λ xs. run tuple xs [] []) e ∙ run-formula tuple p ∙ guarded-is (is_too_big tuple p) (is_true tuple p)

pub ends : (end : MachineEnd) (x : Option Bool) → end ≡ Some x → IsSome end
ends end x e = ap is_some e

same_end : (end : MachineEnd) (x : Option Bool) (b : Bool) → end ≡ Some x → end ≡ Some (Some b) → x ≡ Some b
same_end end x b e is = let h = sym e ∙ is in cc

-- how steps end at each tuple that are those of a formula, where they are known to end with truths
pub ends_are : (result : Option (List Bool)) (tuple : ℕ → List ℤ) (steps : List Step) (p : Truth) → steps ≡ truth_steps p →
    IfSome result (λ ends. (k : ℕ) → k < 16 → run (tuple k) steps [] [] ≡ Some (Some (slice_index_or ends k false))) →
    IfSome result (λ truths. (k : ℕ) → k < 16 → (if is_too_big (tuple k) p then None else Some (is_true (tuple k) p)) ≡ Some (slice_index_or truths k false))
ends_are None tuple steps p e h = h
ends_are (Some ends) tuple steps p e h = λ k low. same_end (run (tuple k) steps [] []) _ (slice_index_or ends k false) (end_is (tuple k) steps p e) (h k low)

use Rattle.language.proofs.Prelude.{◌≡◌, ◌≤◌, ℕ, List, [], ◌∷◌, length, false, None, refl, sym, ◌∙◌, ap, arith, is_same, least_of}
use Rattle.language.proofs.lang.Language.has_variables.Goals as goal

-- no scope is empty
none_same : (w scope : List ℕ) → least_of w ≡ None → 1 ≤ length scope → false ≡ is_same w scope
none_same [] [] none some = absurd (omega arith)
none_same [] (y ∷ ys) none some = refl
none_same (x ∷ xs) scope none some = absurd (cc)

pub returns-in_default-2 : goal.returns-in_default-2
returns-in_default-2 c = none_same c.args.w _ (sym c.requires.least ∙ c.in_default.is) (omega (arith, c.scope.ensures.scope.not_empty, ap length c.scope.ensures.is))

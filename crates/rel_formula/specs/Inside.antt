-- The steps of a formula as the formula that they evaluate.
use Rattle.std.specs.Prelude.{◌≡◌, ◌≤◌, length}
use Rattle.rel_formula.specs.Formula.{Truth}
use Rattle.rel_formula.specs.Steps.{truth_steps, formula_of}
use Rattle.rel_formula.specs.declared.formula.Formula.TheInside.{Inside}

abbrev pub seen : Inside → Truth
seen a = formula_of a.steps.items

pub record IsSound (a : Inside) : Type 0 where
  pub each : a.steps.items ≡ truth_steps (seen a)
  pub few : length a.steps.items ≤ 400

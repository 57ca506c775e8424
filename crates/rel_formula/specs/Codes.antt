-- A formula is stored as the steps that evaluate it.
use Rattle.std.specs.Prelude.{List}
use Rattle.std.specs.Coded.{Coded, code_by, coded_list}
use Rattle.rel_formula.specs.Formula.{Truth}
use Rattle.rel_formula.specs.Steps.{truth_steps, formula_of}
use Rattle.rel_formula.specs.StepLemmas.{formula_of-truth_steps}
use Rattle.rel_formula.specs.declared.step.Step.{Step}
use Rattle.rel_formula.specs.contracts.step.Step.{the_row}

abbrev pub truth_code : Coded Truth
truth_code =
    code_by (List Step) (coded_list the_row.coded) truth_steps formula_of formula_of-truth_steps
